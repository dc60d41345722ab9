-- The first row of each process that is in no other is tested, from the highest place down.
-- By the invariant that the names in the scopes of all rows from i on are in order; below f there are none (ValidRoots).
use Prim.Native.Nat.{◌-◌, ◌<◌}
use native.Mathlib.Omega.{arith}
use mathlib.Core.Path.{sym, ◌∙◌}
use Rattle.table.specs.Words.{parts_in}
use Rattle.table_scopes.specs.Tests.{scope_named}
use Rattle.table.proofs.ValidBool.{failed, passed}
use Rattle.table.proofs.ValidLists.{below_all, below-miss}
use Rattle.table_parts.proofs.ValidRoots.{fine-at, covered, named-from, named-all}
use Rattle.table_parts.proofs.scopes_named.Goals as goal

pub loop-i-init : goal.loop-i-init
loop-i-init c = let e = c.wide-i.ensures ∙ c.word.ensures in (omega (arith, e), λ m a b. absurd (omega (arith, e)))

pub overflow_sub-r : goal.overflow_sub-r
overflow_sub-r c = omega arith

pub field-requires : goal.field-requires
field-requires c = omega (arith, c.loop-i.invariant.0, c.requires.0)

pub scope_named-requires : goal.scope_named-requires
scope_named-requires c =
    let a = c.args in
    let p = c.requires in
    let l = c.loop-i in
    let n = c.wide.ensures ∙ c.field.ensures in
    record {
      place = omega (arith, l.invariant.0, p.0);
      count = n;
      small = omega (arith, n, (fine-at a.w.now p.1 (l.i - 1) (omega (arith, l.invariant.0))).few);
    }

pub returns-then-not-scope_named : goal.returns-then-not-scope_named
returns-then-not-scope_named c =
    let a = c.args in
    let l = c.loop-i in
    sym (below-miss (scope_named a.w.now) (parts_in a.w.now) (l.i - 1) (omega (arith, l.invariant.0)) (failed c.if-not-scope_named.true c.scope_named.ensures))

pub low_at-requires : goal.low_at-requires
low_at-requires c = omega (arith, c.loop-i.invariant.0, c.requires.0)

pub loop-i-smaller : goal.loop-i-smaller
loop-i-smaller c =
    let a = c.args in
    let p = c.requires in
    let l = c.loop-i in
    omega (arith, c.wide-i-in-loop-i.ensures, c.low_at.ensures, (covered a.w.now p.1 (l.i - 1) (omega (arith, l.invariant.0))).0)

pub loop-i-preserved : goal.loop-i-preserved
loop-i-preserved c =
    let a = c.args in
    let p = c.requires in
    let l = c.loop-i in
    let h : l.i - 1 < parts_in a.w.now = omega (arith, l.invariant.0) in
    let e = c.wide-i-in-loop-i.ensures ∙ c.low_at.ensures in
    let g = passed c.if-not-scope_named.false c.scope_named.ensures in
    (omega (arith, e, (covered a.w.now p.1 (l.i - 1) h).0), λ m x y. named-from a.w.now p.1 (l.i - 1) h g (λ k b d. l.invariant.1 k (omega arith) d) m (omega (arith, e)) y)

pub returns : goal.returns
returns c =
    let w = c.args.w.now in
    sym (below_all (scope_named w) (parts_in w) (named-all w c.args.f c.loop-i.i (omega arith) c.requires.2 c.loop-i.invariant.1))
