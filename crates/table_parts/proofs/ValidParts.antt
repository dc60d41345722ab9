-- The tests of a part, by its kind and its scope, and the arguments of a call.
-- By the definitions, at what the code has read.
use Prim.Native.Nat.{ℕ, zero, suc, ◌≤◌, ◌<◌}
use native.Mathlib.Omega.{arith}
use mathlib.Core.List.{List, [], ◌∷◌}
use mathlib.Core.Bool.{Bool, true, false}
use mathlib.Core.Path.{◌≡◌, refl, ap, ◌∙◌}
use lib.Dec.{leb, ltb}
use lib.ListN.{length, take}
use lib.Seq.{get_or-take}
use borrow.Author.Tests.{le-leb, lt-leb}
use Rattle.terms.specs.Same.{every}
use Rattle.table.specs.declared.Head.TheVariants.{Stop}
use Rattle.table.specs.Words.{last_name, field, head_at, scope_at, arg_words, arg_at, count_field, kind_field}
use Rattle.table.specs.Valid.{tree_ok, stacked, floor, head_ok}
use Rattle.table_scopes.specs.Tests.{end_ok}
use Rattle.table_parts.specs.Tests.{slots_ok, row_ok, rest_ok}
use Rattle.table.proofs.Places.{args-at}
use Rattle.table.proofs.ValidBool.{and-false}
use Rattle.table.proofs.ValidLists.{every-all, every-miss}

-- ── a call's arguments ──
in-front : (n : ℕ) (xs : List ℕ) (k : ℕ) → k < length (take n xs) → (k < n) × (k < length xs)
in-front zero [] k h = absurd (omega arith)
in-front zero (x ∷ xs) k h = absurd (omega arith)
in-front (suc n) [] k h = absurd (omega arith)
in-front (suc n) (x ∷ xs) zero h = (omega arith, omega arith)
in-front (suc n) (x ∷ xs) (suc k) h = let r = in-front n xs k (omega arith) in (omega arith, omega arith)

front-in : (n : ℕ) (xs : List ℕ) (k : ℕ) → k < n → k < length xs → k < length (take n xs)
front-in zero xs k h b = absurd (omega arith)
front-in (suc n) [] k h b = absurd (omega arith)
front-in (suc n) (x ∷ xs) zero h b = omega arith
front-in (suc n) (x ∷ xs) (suc k) h b = let r = front-in n xs k (omega arith) (omega arith) in omega arith

module _ (w : List ℕ) (i : ℕ) (f : ℕ → Bool) (m : ℕ) where
  pub args-all : ((k : ℕ) → k < m → k < 4 → f (arg_at w i k) ≡ true) → every f (take m (arg_words w i)) ≡ true
  args-all h =
      every-all f 0 (take m (arg_words w i))
      (λ k b. let r = in-front m (arg_words w i) k b in ap f (get_or-take m (arg_words w i) k 0 r.0 ∙ args-at w i k r.1) ∙ h k r.0 r.1)

  pub args-miss : (k : ℕ) → k < m → k < 4 → f (arg_at w i k) ≡ false → every f (take m (arg_words w i)) ≡ false
  args-miss k b c e = every-miss f 0 (take m (arg_words w i)) k (front-in m (arg_words w i) k b c) (ap f (get_or-take m (arg_words w i) k 0 b ∙ args-at w i k c) ∙ e)

-- ── the whole part ──
module _ (w : List ℕ) (i : ℕ) where
  pub part-is : leb (field w i kind_field) 4 ≡ true → slots_ok w i ≡ true → row_ok w i ≡ rest_ok w i (head_at w i)
  unfolding row_ok tree_ok rest_ok
  part-is p q = rw (p, q)

  pub part-scope : slots_ok w i ≡ false → row_ok w i ≡ false
  unfolding row_ok
  part-scope e = simp (e, and-false)

  pub part-kind : leb (field w i kind_field) 4 ≡ false → row_ok w i ≡ false
  unfolding row_ok
  part-kind e = rw e

  pub rest-stop : rest_ok w i Stop ≡ end_ok w i i
  unfolding rest_ok head_ok stacked floor end_ok
  rest-stop = refl

  pub scope-passes : field w i count_field ≤ 8 → every (λ o. ltb o last_name) (scope_at w i) ≡ true → slots_ok w i ≡ true
  unfolding slots_ok
  scope-passes h e = rw (le-leb (field w i count_field) 8 h, e)

  pub scope-large : 8 < field w i count_field → slots_ok w i ≡ false
  unfolding slots_ok
  scope-large h = rw (lt-leb (field w i count_field) 8 h)

  pub scope-outside : every (λ o. ltb o last_name) (scope_at w i) ≡ false → slots_ok w i ≡ false
  unfolding slots_ok
  scope-outside e = simp (e, and-false)
