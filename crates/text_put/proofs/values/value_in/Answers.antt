-- A location is looked up or entered, a variable has its slot. Both numbers are small.
use native.Mathlib.Omega.{arith}
use mathlib.Core.Path.{◌≡◌}
use lib.ListN.{length}
use Rattle.table.specs.Tests.{key_name}
use Rattle.text_put.proofs.Arguments.{number-few, slot-few, by-capital, by-small}
use borrow.Author.Rules.{rules}
use Rattle.text_put.proofs.values.value_in.Goals as goal

pub overflow_cast-result : goal.overflow_cast-result
overflow_cast-result c =
    let a = c.args in
    let h = c.number-l.ensures.place in
    omega (arith, number-few a.w.now (key_name a.k))

pub returns-then-capital : goal.returns-then-capital
returns-then-capital c = by-capital _ _ _ _ _ _ c.if-capital.true c.number-l.ensures

pub overflow_add-result : goal.overflow_add-result
overflow_add-result c =
    let a = c.args in
    let q : length a.sc.at ≡ 8 = search rules in
    let h = c.slot-j.ensures in
    omega (arith, slot-few a.w.now a.sc c.requires q (key_name a.k))

pub overflow_cast-result-2 : goal.overflow_cast-result-2
overflow_cast-result-2 c =
    let a = c.args in
    let q : length a.sc.at ≡ 8 = search rules in
    let h = c.slot-j.ensures in
    omega (arith, slot-few a.w.now a.sc c.requires q (key_name a.k))

pub returns : goal.returns
returns c = by-small _ _ _ _ _ c.if-capital.false c.slot-j.ensures
