-- No name stands among those after it.
-- By the invariant that none passed does, and that the number of each is noted.
-- what holds from i on holds from one less on, if it holds there
use Prim.Native.Nat.{ℕ, ◌+◌, ◌-◌, ◌≤◌, ◌<◌}
use native.Mathlib.Omega.{arith}
use mathlib.Core.Path.{◌≡◌, refl, sym, subst, ◌∙◌}
use mathlib.Core.Bool.{Bool, true, false}
use lib.Dec.{eqb}
use lib.ListN.{drop, set, length-set}
use borrow.Author.Tests.{eqb-true, eqb-false}
use Rattle.terms.specs.Letters.{member}
use Rattle.table.specs.Meaning.{list_from}
use Rattle.table.specs.Tests.{row_name}
use Rattle.table_names.specs.Tests.{Noted}
use Rattle.table_names.proofs.NamesRows.{apart-all, apart-miss, noted_here, noted-still}
use Rattle.table_names.proofs.many_apart.Goals as goal

down : (P : ℕ → Type 0) (n i j : ℕ) → j + 1 ≡ i → P j → ((k : ℕ) → i ≤ k → k < n → P k) → (k : ℕ) → j ≤ k → k < n → P k
down P n i j e p h k b d = go (eqb j k) refl
  where
    go : (t : Bool) → eqb j k ≡ t → P k
    go true f = subst P (eqb-true j k f) p
    go false f = let x = eqb-false j k f in h k (omega arith) d

pub loop-i-init : goal.loop-i-init
loop-i-init c = (refl, λ k a b. absurd (omega arith), λ k a b. absurd (omega arith))

pub held_again-requires : goal.held_again-requires
unfolding row_name
held_again-requires c =
    let p = c.requires in
    let l = c.loop-i in
    (p.0, p.1, p.2, omega arith, c.mixed-h.ensures, λ k b d. l.invariant.1 k (omega arith) d)

pub returns-then-held_again : goal.returns-then-held_again
returns-then-held_again c =
    let a = c.args in
    let l = c.loop-i in
    sym (apart-miss a.n (row_name a.w.now a.o a.s) (l.i - 1) (omega arith) (sym c.held_again.ensures ∙ c.if-held_again.true))

pub loop-i-preserved : goal.loop-i-preserved
unfolding row_name
loop-i-preserved c =
    let a = c.args in
    let l = c.loop-i in
    let f = row_name a.w.now a.o a.s in
    let h = c.mixed-h.result in
    let m = c.mixed-h.ensures in
    let e : l.i - 1 + 1 ≡ l.i = omega arith in (
      length-set l.seen h 1 ∙ l.invariant.0,
      down (λ k. Noted (set l.seen h 1) (f k)) a.n l.i (l.i - 1) e (noted_here l.seen (f (l.i - 1)) h l.invariant.0 m) (λ k b d. noted-still l.seen (f k) h l.invariant.0 (l.invariant.1 k b d)),
      down (λ k. member (f k) (drop (k + 1) (list_from 0 a.n f)) ≡ false) a.n l.i (l.i - 1) e (sym c.held_again.ensures ∙ c.if-held_again.false) l.invariant.2,
    )

pub returns : goal.returns
returns c =
    let a = c.args in
    sym (apart-all a.n (row_name a.w.now a.o a.s) (λ k b. c.loop-i.invariant.2 k (omega arith) b))
