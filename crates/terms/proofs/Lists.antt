-- A list by position: a test of each element is a test of what stands at each position, nothing stands past the end, and the first that passes a test is found.
use Prim.Native.Nat.{ℕ, zero, suc, ◌<◌}
use native.Mathlib.Omega.{arith}
use mathlib.Core.List.{List, [], ◌∷◌}
use mathlib.Core.Bool.{Bool, true, false, cond, ◌||◌}
use mathlib.Core.Path.{◌≡◌, refl, ap, sym, ◌∙◌}
use lib.ListN.{length}
use Rattle.terms.specs.Same.{every}
use Rattle.terms.specs.Rules.{Answer, ◌>>=◌, at, set, seek, some}
use Rattle.terms.specs.Rules.Answer.{refused, accepted}
use Rattle.terms.proofs.Names.{and-inv, and_in}
use Rattle.terms.proofs.Answers.{clash, took}
use Rattle.terms.proofs.Sums.{Each}
use Rattle.terms.proofs.Sums.Each.{each_nil, each-cons}

pub every_in : {A : Type 0} (f : A → Bool) (xs : List A) → ((p : ℕ) (x : A) → at xs p ≡ accepted x → f x ≡ true) → every f xs ≡ true
unfolding every at
every_in f [] h = refl
every_in f (x ∷ xs) h = and_in _ _ (h 0 x refl) (every_in f xs (λ p y e. h (suc p) y e))

pub every-at : {A : Type 0} (f : A → Bool) (xs : List A) (p : ℕ) (x : A) → every f xs ≡ true → at xs p ≡ accepted x → f x ≡ true
unfolding every at
every-at f [] p x e h = clash h
every-at f (y ∷ xs) zero x e h = rw (← took h) (and-inv (f y) (every f xs) e).0
every-at f (y ∷ xs) (suc p) x e h = every-at f xs p x (and-inv (f y) (every f xs) e).1 h

-- and of each element by itself
pub every-each : {A : Type 0} (f : A → Bool) (xs : List A) → every f xs ≡ true → Each (λ x. f x ≡ true) xs
unfolding every
every-each f [] e = each_nil
every-each f (x ∷ xs) e = let r = and-inv (f x) (every f xs) e in each-cons r.0 (every-each f xs r.1)

pub each-every : {A : Type 0} (f : A → Bool) {xs : List A} → Each (λ x. f x ≡ true) xs → every f xs ≡ true
unfolding every
each-every f each_nil = refl
each-every f (each-cons e es) = and_in _ _ e (each-every f es)

pub at-within : {A : Type 0} (xs : List A) (p : ℕ) (x : A) → at xs p ≡ accepted x → p < length xs
unfolding at
at-within [] p x e = clash e
at-within (y ∷ ys) zero x e = omega arith
at-within (y ∷ ys) (suc p) x e = omega (arith, at-within ys p x e)

pub length-set : {A : Type 0} (xs : List A) (p : ℕ) (y : A) → length (set xs p y) ≡ length xs
unfolding set
length-set [] p y = refl
length-set (x ∷ xs) zero y = refl
length-set (x ∷ xs) (suc p) y = ap suc (length-set xs p y)

-- ── the first that passes a test ──
pub seek-none : {A : Type 0} (f : A → Bool) (xs : List A) (n : ℕ) → seek f xs ≡ refused n → some f xs ≡ false
unfolding seek some
seek-none f [] n e = refl
seek-none f (x ∷ xs) n e = go (f x) (seek f xs) refl e (seek-none f xs)
  where
    go : (b : Bool) (s : Answer ℕ) → seek f xs ≡ s → cond b (accepted 0) (s >>= λ p. accepted (suc p)) ≡ refused n → ((m : ℕ) → seek f xs ≡ refused m → some f xs ≡ false) → (b || some f xs) ≡ false
    go true s q e k = clash (sym e)
    go false (refused m) q e k = k m q
    go false (accepted p) q e k = clash (sym e)

-- it passes
pub seek-some : {A : Type 0} (f : A → Bool) (xs : List A) (p : ℕ) → seek f xs ≡ accepted p → (x : A) × (at xs p ≡ accepted x) × (f x ≡ true)
unfolding seek at
seek-some f [] p e = clash e
seek-some {A} f (x ∷ xs) p e = go (f x) refl (seek f xs) refl p e (seek-some f xs)
  where
    go : (b : Bool) → f x ≡ b → (s : Answer ℕ) → seek f xs ≡ s → (p : ℕ) → cond b (accepted 0) (s >>= λ p. accepted (suc p)) ≡ accepted p
        → ((m : ℕ) → seek f xs ≡ accepted m → (y : A) × (at xs m ≡ accepted y) × (f y ≡ true)) → (y : A) × (at (x ∷ xs) p ≡ accepted y) × (f y ≡ true)
    go true q s h zero e k = (x, refl, q)
    go true q s h (suc p) e k = let z : ◌≡◌ {A = ℕ} 0 (suc p) = took e in absurd (omega arith)
    go false q (refused n) h p e k = clash e
    go false q (accepted m) h zero e k = let z : ◌≡◌ {A = ℕ} (suc m) 0 = took e in absurd (omega arith)
    go false q (accepted m) h (suc p) e k = let z : ◌≡◌ {A = ℕ} (suc m) (suc p) = took e in let w : m ≡ p = omega arith in k p (h ∙ ap accepted w)

-- none below it passes
pub seek-lowest : {A : Type 0} (f : A → Bool) (xs : List A) (p q : ℕ) (y : A) → seek f xs ≡ accepted p → q < p → at xs q ≡ accepted y → f y ≡ false
unfolding seek at
seek-lowest f [] p q y e h k = clash e
seek-lowest {A} f (x ∷ xs) p q y e h k = go (f x) refl (seek f xs) refl q e h k (seek-lowest f xs)
  where
    go : (b : Bool) → f x ≡ b → (s : Answer ℕ) → seek f xs ≡ s → (q : ℕ) → cond b (accepted 0) (s >>= λ p. accepted (suc p)) ≡ accepted p → q < p → at (x ∷ xs) q ≡ accepted y
        → ((p q : ℕ) (y : A) → seek f xs ≡ accepted p → q < p → at xs q ≡ accepted y → f y ≡ false) → f y ≡ false
    go true t s u q e h k r = let z : ◌≡◌ {A = ℕ} 0 p = took e in absurd (omega arith)
    go false t (refused n) u q e h k r = clash e
    go false t (accepted m) u zero e h k r = rw (← took k) t
    go false t (accepted m) u (suc q) e h k r = let z : ◌≡◌ {A = ℕ} (suc m) p = took e in r m q y u (omega arith) k

-- what passes is found, if none below it does
pub seek_is : {A : Type 0} (f : A → Bool) (xs : List A) (p : ℕ) (x : A) → at xs p ≡ accepted x → f x ≡ true → ((q : ℕ) (y : A) → q < p → at xs q ≡ accepted y → f y ≡ false) → seek f xs ≡ accepted p
unfolding seek at
seek_is f [] p x e h k = clash e
seek_is f (z ∷ xs) zero x e h k = rw (ap f (took e) ∙ h)
seek_is f (z ∷ xs) (suc p) x e h k = rw (k 0 z (omega arith) refl, seek_is f xs p x e h (λ q y i j. k (suc q) y (omega arith) j))

pub seek-nothing : {A : Type 0} (f : A → Bool) (xs : List A) → ((q : ℕ) (y : A) → at xs q ≡ accepted y → f y ≡ false) → seek f xs ≡ refused 8
unfolding seek at
seek-nothing f [] h = refl
seek-nothing f (x ∷ xs) h = rw (h 0 x refl, seek-nothing f xs (λ q y e. h (suc q) y e))
