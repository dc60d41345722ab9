-- `value_in` meets its contract: the tests decide the case, and past the eighth slot there is nothing.
use lib.ListN.{length, get_or-eq_default}
use native.Mathlib.Omega.{arith}
use mathlib.Core.Path.{◌≡◌, sym}
use borrow.Author.Tests.{lt-ltb, le-ltb}
use Rattle.table.specs.Fire.{value_in}
use borrow.Author.Rules.{rules}
use Rattle.calls_fire.proofs.fire.value_in.Goals as goal

pub returns-then-v-lt64 : goal.returns-then-v-lt64
unfolding value_in
returns-then-v-lt64 c = simp (lt-ltb _ _ c.if-v-lt64.true)

pub returns-then-k-lt8 : goal.returns-then-k-lt8
unfolding value_in
returns-then-k-lt8 c = simp (le-ltb _ _ c.if-v-lt64.false, ← c.wide-k.ensures)

pub returns : goal.returns
unfolding value_in
returns c =
    let h : length c.args.vals ≡ 8 = search rules in
    simp (le-ltb _ _ c.if-v-lt64.false) (sym (get_or-eq_default c.args.vals 0 (omega (arith, c.wide-k.ensures))))
