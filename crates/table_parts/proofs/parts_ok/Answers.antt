-- First each row, leaves in runs, then the names in the scopes.
-- By the invariant that all rows passed are in order, and the law that a part's test is both (ValidRoots).
use Prim.Native.Nat.{◌+◌}
use native.Mathlib.Omega.{arith}
use mathlib.Core.Path.{◌≡◌, sym, ◌∙◌}
use mathlib.Core.Bool.{true, false}
use borrow.Author.Count.{below_more}
use Rattle.table.specs.Words.{parts_in}
use Rattle.table.specs.Valid.{below, part_ok}
use Rattle.table_parts.specs.Tests.{row_ok}
use Rattle.table.proofs.ValidLists.{below_all, below-miss}
use Rattle.table.proofs.ValidBool.{failed, passed}
use Rattle.table_parts.proofs.ValidLeaves.{joined}
use Rattle.table_parts.proofs.ValidRoots.{below_rows, part-rows}
use Rattle.table_parts.proofs.parts_ok.Goals as goal

pub after_leaves-f-requires : goal.after_leaves-f-requires
after_leaves-f-requires c = let p = c.requires in (omega arith, omega (arith, c.wide-n.ensures, c.word.ensures, p), p.1, p.2)

pub loop-i-init : goal.loop-i-init
loop-i-init c =
    let s = c.after_leaves-f.ensures in
    (c.wide-n.ensures ∙ c.word.ensures, s.1, λ k h. (s.2 k h (omega arith)).row)

pub part_ok-requires : goal.part_ok-requires
part_ok-requires c = let l = c.loop-i in (omega (arith, l.invariant.0, c.requires), c.requires.1)

pub returns-then-not-part_ok : goal.returns-then-not-part_ok
returns-then-not-part_ok c =
    let w = c.args.w.now in
    let l = c.loop-i in
    let n : row_ok w l.i ≡ false = failed c.if-not-part_ok.true c.part_ok.ensures in
    sym (below-miss (part_ok w) (parts_in w) l.i (omega (arith, l.invariant.0)) (part-rows w l.i ∙ rw n))

pub overflow_add-i : goal.overflow_add-i
overflow_add-i c = omega (arith, c.loop-i.invariant.0, c.requires)

pub after_leaves-i-requires : goal.after_leaves-i-requires
after_leaves-i-requires c = let p = c.requires in (omega arith, omega (arith, c.loop-i.invariant.0, p), p.1, p.2)

pub loop-i-smaller : goal.loop-i-smaller
loop-i-smaller c = omega (arith, c.after_leaves-i.ensures.0)

pub loop-i-preserved : goal.loop-i-preserved
loop-i-preserved c =
    let w = c.args.w.now in
    let l = c.loop-i in
    let s = c.after_leaves-i.ensures in
    (l.invariant.0, s.1, joined (row_ok w) (l.i + 1) _ (below_more (λ k. row_ok w k ≡ true) l.i l.invariant.2 (passed c.if-not-part_ok.false c.part_ok.ensures)) (λ k b d. (s.2 k b d).row))

pub scopes_named-requires : goal.scopes_named-requires
scopes_named-requires c =
    let w = c.args.w.now in
    let l = c.loop-i in
    (c.requires.0, below_all (row_ok w) (parts_in w) (λ k b. l.invariant.2 k (omega (arith, l.invariant.0))), λ k b. (c.after_leaves-f.ensures.2 k b (omega arith)).empty)

pub returns : goal.returns
returns c =
    let w = c.args.w.now in
    let l = c.loop-i in
    let n : below (parts_in w) (row_ok w) ≡ true = below_all (row_ok w) (parts_in w) (λ k b. l.invariant.2 k (omega (arith, l.invariant.0))) in
    c.scopes_named.ensures ∙ sym (below_rows w (parts_in w) ∙ rw n)
