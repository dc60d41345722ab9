-- The names in scope are compared with the name from the first slot on.
-- By the invariant that no slot passed has the name.
use native.Mathlib.Omega.{arith}
use mathlib.Core.Path.{◌≡◌, sym, ap, ◌∙◌}
use lib.ListN.{length}
use borrow.Author.Rules.{rules}
use borrow.Author.Count.{below_none, below_more}
use Rattle.terms.specs.Names.{same_name}
use Rattle.table.specs.Words.{name_at}
use Rattle.table.specs.Tests.{key_name}
use Rattle.text_put.proofs.Arguments.{slot-here, slot-nowhere}
use Rattle.text_put.proofs.values.slot.Goals as goal

pub loop-j-init : goal.loop-j-init
loop-j-init c = below_none _

pub returns-then-is_named : goal.returns-then-is_named
returns-then-is_named c =
    let a = c.args in
    let q : length a.sc.at ≡ 8 = search rules in
    let l = c.loop-j in
    let e = c.is_named.ensures ∙ ap (λ o. same_name (name_at a.w.now o) (key_name a.k)) c.wide-o.ensures in
    slot-here a.w.now a.sc c.requires q (key_name a.k) l.j c.loop-j-test.true l.invariant (sym e ∙ c.if-is_named.true)

pub loop-j-preserved : goal.loop-j-preserved
loop-j-preserved c =
    let a = c.args in
    let e = c.is_named.ensures ∙ ap (λ o. same_name (name_at a.w.now o) (key_name a.k)) c.wide-o.ensures in
    below_more _ _ c.loop-j.invariant (sym e ∙ c.if-is_named.false)

pub returns : goal.returns
returns c =
    let a = c.args in
    let q : length a.sc.at ≡ 8 = search rules in
    let h = c.loop-j-test.false in
    slot-nowhere a.w.now a.sc c.requires q (key_name a.k) (λ k b. c.loop-j.invariant k (omega arith))
