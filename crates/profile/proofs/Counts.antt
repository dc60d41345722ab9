-- Sums of counts, and what passes a test at most once.
-- By induction on the list.
use Prim.Native.Nat.{ℕ, ◌+◌, ◌≤◌}
use native.Mathlib.Omega.{arith}
use mathlib.Core.List.{List, [], ◌∷◌}
use mathlib.Core.Bool.{Bool, true, false, cond, not}
use mathlib.Core.Path.{◌≡◌, refl}
use borrow.Author.Tests.{not-true}
use Rattle.terms.specs.Rules.{some}
use Rattle.terms.proofs.Sums.{total, Each}
use Rattle.terms.proofs.Sums.Each.{each_nil, each-cons}
use Rattle.terms.proofs.Forced.{or-none}
use Rattle.profile.specs.Profile.{at_most_one}

-- ── sums ──
pub total-zero : {A : Type 0} (f : A → ℕ) (xs : List A) → ((x : A) → f x ≡ 0) → total f xs ≡ 0
unfolding total
total-zero f [] h = refl
total-zero f (x ∷ xs) h = omega (arith, h x, total-zero f xs h)

pub total-zero-by : {A : Type 0} (f g : A → ℕ) (xs : List A) → ((x : A) → f x ≡ 0 → g x ≡ 0) → total f xs ≡ 0 → total g xs ≡ 0
unfolding total
total-zero-by f g [] h e = refl
total-zero-by f g (x ∷ xs) h e = omega (arith, h x (omega arith), total-zero-by f g xs h (omega arith))

pub total-plus : {A : Type 0} (f g : A → ℕ) (xs : List A) → total (λ x. f x + g x) xs ≡ total f xs + total g xs
unfolding total
total-plus f g [] = refl
total-plus f g (x ∷ xs) = omega (arith, total-plus f g xs)

-- ── each element ──
pub some-false : {A : Type 0} (f : A → Bool) (xs : List A) → some f xs ≡ false → Each (λ x. f x ≡ false) xs
unfolding some
some-false f [] e = each_nil
some-false f (x ∷ xs) e = let r = or-none (f x) (some f xs) e in each-cons r.0 (some-false f xs r.1)

pub zero-each : {A : Type 0} (f : A → ℕ) (xs : List A) → total f xs ≡ 0 → Each (λ x. f x ≡ 0) xs
unfolding total
zero-each f [] e = each_nil
zero-each f (x ∷ xs) e = each-cons {x = x} (omega arith) (zero-each f xs (omega arith))

pub each_both : {A : Type 0} {P Q : A → Type 0} {xs : List A} → Each P xs → Each Q xs → Each (λ x. P x × Q x) xs
each_both each_nil q = each_nil
each_both (each-cons p ps) (each-cons q qs) = each-cons (p, q) (each_both ps qs)

-- ── how many pass a test ──
abbrev pub bit : {A : Type 0} → (A → Bool) → A → ℕ
bit f x = cond (f x) 1 0

pub none-total : {A : Type 0} (f : A → Bool) (xs : List A) → some f xs ≡ false → total (bit f) xs ≡ 0
unfolding some total
none-total f [] e = refl
none-total f (x ∷ xs) e = let r = or-none (f x) (some f xs) e in rw r.0 (omega (arith, none-total f xs r.1))

pub one-total : {A : Type 0} (f : A → Bool) (xs : List A) → at_most_one f xs ≡ true → total (bit f) xs ≤ 1
unfolding at_most_one total
one-total f [] e = omega arith
one-total f (x ∷ xs) e = go (f x) e (one-total f xs)
  where
    go : (b : Bool) → cond b (not (some f xs)) (at_most_one f xs) ≡ true → (at_most_one f xs ≡ true → total (bit f) xs ≤ 1) → cond b 1 0 + total (bit f) xs ≤ 1
    go true e k = omega (arith, none-total f xs (not-true _ e))
    go false e k = omega (arith, k e)

-- none is at most one
pub none-one : {A : Type 0} (f : A → Bool) (xs : List A) → some f xs ≡ false → at_most_one f xs ≡ true
unfolding some at_most_one
none-one f [] e = refl
none-one f (x ∷ xs) e = let r = or-none (f x) (some f xs) e in rw r.0 (none-one f xs r.1)

-- at most one of a list is at most one of its tail
pub tail-one : {A : Type 0} (f : A → Bool) (x : A) (xs : List A) → at_most_one f (x ∷ xs) ≡ true → at_most_one f xs ≡ true
unfolding at_most_one
tail-one f x xs e = go (f x) e
  where
    go : (b : Bool) → cond b (not (some f xs)) (at_most_one f xs) ≡ true → at_most_one f xs ≡ true
    go true e = none-one f xs (not-true _ e)
    go false e = e
