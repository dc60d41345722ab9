-- Marks made component by component are those of all components.
-- By induction on how many were looked at: one more marks its own place, if it has one.
use Prim.Native.Nat.{ℕ, ◌+◌, ◌<◌, ◌≤◌}
use native.Mathlib.Omega.{arith}
use mathlib.Core.List.{List, []}
use mathlib.Core.Bool.{Bool, true, false, ◌||◌, or-false}
use mathlib.Core.Path.{◌≡◌, refl, sym, ap, ◌∙◌}
use lib.Dec.{eqb}
use lib.ListN.{length, get_or, set, take, replicate, get_or-replicate}
use lib.Seq.{get_or-set_same, get_or-set_other}
use borrow.Author.Tests.{eqb-true, eqb-false, ne_eqb}
use Rattle.std.specs.Prelude.{Option, Some, None}
use Rattle.terms.specs.Rules.{some}
use Rattle.table.specs.declared.Comp.{Comp}
use Rattle.calls_must.proofs.Hearing.{some_more}
use Rattle.calls_forced.specs.Marked.{is_marked, is_place, Marked}

or_yes : (b : Bool) → (b || true) ≡ true
or_yes true = refl
or_yes false = refl

pub marked-none : (n : ℕ) (f : Comp → Option ℕ) → Marked n f [] (replicate n false)
unfolding some
marked-none n f k h = get_or-replicate n k false false h

module _ (n : ℕ) (f : Comp → Option ℕ) (xs : List Comp) (j : ℕ) (d : Comp) (ys : List Bool) (b : j < length xs) (p : Marked n f (take j xs) ys) where
  now : (k : ℕ) → k < n → some (λ c. is_place k (f c)) (take (j + 1) xs) ≡ (is_marked ys k || is_place k (f (get_or xs j d)))
  now k i = some_more (λ c. is_place k (f c)) xs j d b ∙ ap (λ z. z || is_place k (f (get_or xs j d))) (sym (p k i))

  -- it has a place
  pub marked-one : length ys ≡ n → (m : ℕ) → m < n → f (get_or xs j d) ≡ Some m → Marked n f (take (j + 1) xs) (set ys m true)
  marked-one l m h e k i = go (eqb m k) refl ∙ sym (now k i ∙ ap (λ z. is_marked ys k || is_place k z) e)
    where
      go : (x : Bool) → eqb m k ≡ x → is_marked (set ys m true) k ≡ (is_marked ys k || eqb m k)
      go true o = ap (λ z. is_marked (set ys m true) z) (sym (eqb-true _ _ o)) ∙ get_or-set_same ys m true false (omega arith) ∙ rw o (sym (or_yes (is_marked ys k)))
      go false o = get_or-set_other ys m k true false (λ z. eqb-false _ _ o (sym z)) ∙ rw o (sym (or-false (is_marked ys k)))

  -- it has none
  pub marked-past : f (get_or xs j d) ≡ None → Marked n f (take (j + 1) xs) ys
  marked-past e k i = sym (now k i ∙ ap (λ z. is_marked ys k || is_place k z) e ∙ or-false (is_marked ys k))

  -- its place is past the last
  pub marked-out : (m : ℕ) → n ≤ m → f (get_or xs j d) ≡ Some m → Marked n f (take (j + 1) xs) ys
  marked-out m h e k i = sym (now k i ∙ ap (λ z. is_marked ys k || is_place k z) e ∙ rw (ne_eqb m k (λ z. omega arith)) (or-false (is_marked ys k)))
