-- Each head is tested, and each value counted that is too large.
-- By the invariant that all heads passed are in order, and that nothing was counted exactly if all values passed are locations.
use Prim.Native.Nat.{ℕ, ◌+◌, ◌*◌}
use native.Mathlib.Omega.{arith}
use native.Mathlib.Numerals.{add-one}
use mathlib.Core.Path.{◌≡◌, refl, sym, ap, subst, ◌∙◌}
use mathlib.Core.Bool.{Bool, ◌&&◌}
use lib.Dec.{ltb}
use borrow.Author.Count.{below_none, below_more}
use Rattle.terms.specs.Same.{every}
use Rattle.table.specs.Valid.{below, comp_ok}
use Rattle.table.specs.Meaning.{comp_in}
use Rattle.table_valid.specs.Tests.{Few}
use Rattle.table_valid.proofs.ValidWhole.{comps-miss, comps-are, comp-no-head, few-more}
use Rattle.table.proofs.ValidBool.{failed, passed}
use Rattle.table_valid.proofs.comps_ok.Goals as goal

pub loop-i-init : goal.loop-i-init
unfolding below
loop-i-init c = (below_none _, refl, record { a = omega arith; b = omega arith; c = omega arith; d = omega arith })

pub head_ok-requires : goal.head_ok-requires
head_ok-requires c = omega (arith, c.requires.0)

pub returns-then-not-head_ok : goal.returns-then-not-head_ok
returns-then-not-head_ok c =
    let a = c.args in
    let l = c.loop-i in
    sym (comps-miss (record { c = a.c.now; n = a.n }) (comp_ok a.w.now) l.i (omega arith) (comp-no-head a.w.now _ (failed c.if-not-head_ok.true c.head_ok.ensures)))

pub count_above-s-requires : goal.count_above-s-requires
count_above-s-requires c =
    let p = c.requires in
    (omega (arith, p.0), few-more c.loop-i.invariant.2 (omega (arith, p.0)))

pub loop-i-preserved : goal.loop-i-preserved
unfolding below
loop-i-preserved c =
    let a = c.args in
    let l = c.loop-i in
    let r = c.count_above-s.ensures in
    let f : ℕ → Bool = λ k. every (λ v. ltb v (a.m + 1)) (comp_in a.c.now k).vals in
    let e : 2 * l.i + 2 ≡ 2 * (l.i + 1) = omega arith in (
      below_more _ _ l.invariant.0 (passed c.if-not-head_ok.false c.head_ok.ensures),
      r.sums ∙ ap (λ t. t && f l.i) l.invariant.1 ∙ ap (λ k. below k f) (sym (add-one l.i)),
      subst (λ k. Few k c.count_above-s.result) e (r.few (2 * l.i) l.invariant.2),
    )

pub overflow_add-result : goal.overflow_add-result
overflow_add-result c = omega (arith, c.requires.0, c.loop-i.invariant.2)

pub overflow_add-result-2 : goal.overflow_add-result-2
overflow_add-result-2 c = omega (arith, c.requires.0, c.loop-i.invariant.2)

pub overflow_add-result-3 : goal.overflow_add-result-3
overflow_add-result-3 c = omega (arith, c.requires.0, c.loop-i.invariant.2)

pub returns : goal.returns
returns c =
    let a = c.args in
    let l = c.loop-i in
    let e : l.i ≡ a.n = omega arith in
    l.invariant.1
    ∙ ap (λ k. below k (λ j. every (λ v. ltb v (a.m + 1)) (comp_in a.c.now j).vals)) e
    ∙ ap (λ z. below a.n (λ j. every (λ v. ltb v z) (comp_in a.c.now j).vals)) c.requires.1
    ∙ sym (comps-are a.w.now (record { c = a.c.now; n = a.n }) (λ k b. l.invariant.0 k (omega arith)))
