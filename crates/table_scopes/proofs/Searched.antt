-- What a test of each number of a range has shown: it holds of all of them, or fails at one.
-- By induction on how many numbers there are.
use Prim.Native.Nat.{ℕ, zero, suc, ◌+◌, ◌≤◌, ◌<◌}
use native.Mathlib.Omega.{arith}
use mathlib.Core.Bool.{Bool, true, false, ◌&&◌, false≢true}
use mathlib.Core.Logic.{◌⊎◌, inl, inr}
use mathlib.Core.Path.{◌≡◌, refl, sym, ap, subst, ◌∙◌}
use lib.Dec.{eqb}
use borrow.Author.Tests.{eqb-true, eqb-false}
use Rattle.std.specs.List.{list_all, range_with_len}

module _ (test : ℕ → Bool) where
  abbrev Holds : ℕ → ℕ → Type 0
  Holds k n = (j : ℕ) → k ≤ j → j < k + n → test j ≡ true

  abbrev Fails : ℕ → ℕ → Type 0
  Fails k n = (j : ℕ) × ((k ≤ j) × ((j < k + n) × (test j ≡ false)))

  here : (k n : ℕ) → test k ≡ true → Holds (k + 1) n → Holds k (suc n)
  here k n e h j a b = go (eqb k j) refl
    where
      go : (t : Bool) → eqb k j ≡ t → test j ≡ true
      go true f = subst (λ x. test x ≡ true) (eqb-true k j f) e
      go false f = let d = eqb-false k j f in h j (omega arith) (omega arith)

  scan : (k n : ℕ) → ((list_all test (range_with_len k n) ≡ true) × Holds k n) ⊎ ((list_all test (range_with_len k n) ≡ false) × Fails k n)
  scan k zero = inl (refl, λ j a b. absurd (omega arith))
  scan k (suc n) = go (test k) refl (scan (k + 1) n)
    where
      go : (t : Bool) → test k ≡ t → ((list_all test (range_with_len (k + 1) n) ≡ true) × Holds (k + 1) n) ⊎ ((list_all test (range_with_len (k + 1) n) ≡ false) × Fails (k + 1) n)
          → ((list_all test (range_with_len k (suc n)) ≡ true) × Holds k (suc n)) ⊎ ((list_all test (range_with_len k (suc n)) ≡ false) × Fails k (suc n))
      go false e s = inr (ap (λ b. b && list_all test (range_with_len (k + 1) n)) e, (k, (omega arith, (omega arith, e))))
      go true e (inl h) = inl (ap (λ b. b && list_all test (range_with_len (k + 1) n)) e ∙ h.0, here k n e h.1)
      go true e (inr h) = inr (ap (λ b. b && list_all test (range_with_len (k + 1) n)) e ∙ h.0, (h.1.0, (omega (arith, h.1.1.0), (omega (arith, h.1.1.1.0), h.1.1.1.1))))

  -- r is the answer, and B what the contract has in its place
  pub all-decides : (n : ℕ) (r B : Bool) → r ≡ list_all test (range_with_len 0 n) → (((k : ℕ) → k < n → test k ≡ true) → B ≡ true)
      → ((k : ℕ) → k < n → test k ≡ false → B ≡ false) → r ≡ B
  all-decides n r B e each miss = go (scan 0 n)
    where
      go : ((list_all test (range_with_len 0 n) ≡ true) × Holds 0 n) ⊎ ((list_all test (range_with_len 0 n) ≡ false) × Fails 0 n) → r ≡ B
      go (inl h) = e ∙ h.0 ∙ sym (each (λ k b. h.1 k (omega arith) (omega arith)))
      go (inr h) = e ∙ h.0 ∙ sym (miss h.1.0 (omega (arith, h.1.1.1.0)) h.1.1.1.1)

  pub all-holds : (n : ℕ) (r : Bool) → r ≡ list_all test (range_with_len 0 n) → r ≡ true → (k : ℕ) → k < n → test k ≡ true
  all-holds n r e t k b = go (scan 0 n)
    where
      go : ((list_all test (range_with_len 0 n) ≡ true) × Holds 0 n) ⊎ ((list_all test (range_with_len 0 n) ≡ false) × Fails 0 n) → test k ≡ true
      go (inl h) = h.1 k (omega arith) (omega arith)
      go (inr h) = absurd (false≢true (sym h.0 ∙ sym e ∙ t))
