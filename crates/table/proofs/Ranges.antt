-- Tests of what stands at each number of a range: those of the table are the library's over `range_with_len`, so that what it says of `all` over a range can
-- be used.
-- By induction on how many numbers there are.
use Prim.Native.Nat.{ℕ, zero, suc, ◌+◌}
use native.Mathlib.Omega.{arith}
use mathlib.Core.List.{List, [], ◌∷◌, map}
use mathlib.Core.Bool.{Bool, true, false, ◌&&◌, ◌||◌}
use mathlib.Core.Path.{◌≡◌, refl, ap, sym, ◌∙◌}
use Rattle.std.proofs.Common.{add-one}
use Rattle.std.specs.List.{list_all, list_any, range_with_len}
use Rattle.terms.specs.Rules.{some}
use Rattle.terms.specs.Same.{every}
use Rattle.table.specs.Meaning.{list_from}
use Rattle.table.specs.Valid.{below, alike}
use Rattle.std.specs.Prelude.{eqb, nat_eq}
use Rattle.std.specs.Cmp.Lexicographic.{pointwise}

pub list_from-range : {A : Type 0} (k n : ℕ) (f : ℕ → A) → list_from k n f ≡ map f (range_with_len k n)
unfolding list_from
list_from-range k zero f = refl
list_from-range k (suc n) f = rw add-one (ap (λ xs. f k ∷ xs) (list_from-range (suc k) n f))

pub every-range : {A : Type 0} (g : A → Bool) (k n : ℕ) (f : ℕ → A) → every g (list_from k n f) ≡ list_all (λ j. g (f j)) (range_with_len k n)
unfolding every list_from
every-range g k zero f = refl
every-range g k (suc n) f = rw add-one (ap (λ b. g (f k) && b) (every-range g (suc k) n f))

pub some-range : {A : Type 0} (g : A → Bool) (k n : ℕ) (f : ℕ → A) → some g (list_from k n f) ≡ list_any (λ j. g (f j)) (range_with_len k n)
unfolding some list_from
some-range g k zero f = refl
some-range g k (suc n) f = rw add-one (ap (λ b. g (f k) || b) (some-range g (suc k) n f))

-- one number more at the end, which is m
all-last : (f : ℕ → Bool) (k n m : ℕ) → k + n ≡ m → list_all f (range_with_len k (suc n)) ≡ (list_all f (range_with_len k n) && f m)
all-last f k zero m e = let d : k ≡ m = omega arith in rw (← d) (and-true (f k))
  where
    and-true : (b : Bool) → (b && true) ≡ b
    and-true true = refl
    and-true false = refl
all-last f k (suc n) m e =
    let d : k + 1 + n ≡ m = omega arith in
    ap (λ b. f k && b) (all-last f (k + 1) n m d) ∙ sym (and-assoc (f k) _ _)
  where
    and-assoc : (a b c : Bool) → ((a && b) && c) ≡ (a && (b && c))
    and-assoc true b c = refl
    and-assoc false b c = refl

pub below-range : (n : ℕ) (f : ℕ → Bool) → below n f ≡ list_all f (range_with_len 0 n)
unfolding below
below-range zero f = refl
below-range (suc n) f = ap (λ b. b && f n) (below-range n f) ∙ sym (all-last f 0 n n (omega arith))

pub alike-pointwise : (xs ys : List ℕ) → alike xs ys ≡ pointwise nat_eq xs ys
unfolding alike
alike-pointwise [] [] = refl
alike-pointwise [] (y ∷ ys) = refl
alike-pointwise (x ∷ xs) [] = refl
alike-pointwise (x ∷ xs) (y ∷ ys) = ap (λ t. eqb x y && t) (alike-pointwise xs ys)
