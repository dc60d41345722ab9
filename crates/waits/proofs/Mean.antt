-- The mean is exact, and rounded it is the nearest whole tick, of two that are equally near the even one. By the laws of quotient and remainder.
use Prim.Native.Nat.{ℕ, zero, suc, ◌+◌, ◌-◌, ◌*◌, ◌%◌, ◌≤◌, ◌<◌}
use native.Mathlib.Omega.{arith}
use native.Mathlib.Nat.{div-add-mod', mod-lt, suc-mul, add-mul}
use mathlib.Core.Bool.{Bool, true, false, cond}
use mathlib.Core.Path.{◌≡◌, refl, ap, ◌∙◌}
use lib.Dec.{ltb}
use borrow.Author.Tests.{ltb-true, ltb-false, le-ltb}
use Rattle.waits.specs.Mean.{Mean, mean_of, rounded}
use Rattle.waits.specs.Mean.Mean.{none, over}

-- quotient times count and remainder are the total, and the remainder is less than the count
pub record Exact (total count q r n : ℕ) : Type 0 where
  pub all : n ≡ count
  pub some : 0 < n
  pub sum : q * n + r ≡ total
  pub rest : r < n

-- what a mean says of total and count: none that there were no messages
abbrev pub MeanIs : ℕ → ℕ → Mean → Type 0
MeanIs total count none = count ≡ 0
MeanIs total count (over q r n) = Exact total count q r n

pub mean-exact : (total count : ℕ) → MeanIs total count (mean_of total count)
unfolding mean_of
mean-exact total zero = refl
mean-exact total (suc n) = record { all = refl; some = omega arith; sum = div-add-mod' total (suc n); rest = mod-lt total (omega arith) }

-- m is a whole number of ticks nearest to the total over the count: twice the total lies within the count of twice m times the count
pub record Nearest (total n m : ℕ) : Type 0 where
  pub low : m * n + m * n ≤ total + total + n
  pub high : total + total ≤ m * n + m * n + n

-- and of two whole numbers that are equally near it is the even one: where the total over the count lies in the middle between m and the one before, or the
-- next, m is even
pub record NearestEven (total n m : ℕ) : Type 0 where
  pub nearest : Nearest total n m
  pub before : m * n + m * n ≡ total + total + n → m % 2 ≡ 0
  pub next : total + total ≡ m * n + m * n + n → m % 2 ≡ 0

module _ (total count q r n : ℕ) (e : Exact total count q r n) where
  one_more : suc q * n ≡ q * n + n
  one_more = suc-mul q n

  -- below the half
  down : r + r < n → NearestEven total n q
  down h = record {
    nearest = record { low = omega (arith, e.sum); high = omega (arith, e.sum, h) };
    before = λ k. absurd (omega (arith, e.sum, e.some, k));
    next = λ k. absurd (omega (arith, e.sum, h, k));
  }

  -- above it
  up : n < r + r → NearestEven total n (suc q)
  up h = record {
    nearest = record { low = omega (arith, one_more, e.sum, h); high = omega (arith, one_more, e.sum, e.rest) };
    before = λ k. absurd (omega (arith, one_more, e.sum, h, k));
    next = λ k. absurd (omega (arith, one_more, e.sum, e.rest, k));
  }

  -- exactly at it
  middle : r + r ≡ n → (b : ℕ) → q % 2 ≡ b → NearestEven total n (q + b)
  middle h zero z = let s : q + 0 ≡ q = omega arith in rw s (record { nearest = record { low = omega (arith, e.sum); high = omega (arith, e.sum, h) }; before = λ k. z; next = λ k. z })
  middle h (suc zero) z =
      let s : q + 1 ≡ suc q = omega arith in
      let even : suc q % 2 ≡ 0 = omega (arith, z) in
      rw s (record { nearest = record { low = omega (arith, one_more, e.sum, h); high = omega (arith, one_more, e.sum, h) }; before = λ k. even; next = λ k. even })
  middle h (suc (suc b)) z = absurd (omega (arith, z))

  pub rounded-nearest : NearestEven total n (rounded q r n)
  unfolding rounded
  rounded-nearest = go (ltb (r + r) n) refl (ltb n (r + r)) refl
    where
      go : (b : Bool) → ltb (r + r) n ≡ b → (c : Bool) → ltb n (r + r) ≡ c → NearestEven total n (cond b q (cond c (suc q) (q + q % 2)))
      go true h c k = down (ltb-true (r + r) n h)
      go false h true k = up (ltb-true n (r + r) k)
      go false h false k = middle (omega (arith, ltb-false (r + r) n h, ltb-false n (r + r) k)) (q % 2) refl

  -- R-9's own words
  pub rounded-even : r + r ≡ n → rounded q r n % 2 ≡ 0
  unfolding rounded
  rounded-even h =
      let even : (q + q % 2) % 2 ≡ 0 = omega arith in
      rw (le-ltb (r + r) n (omega (arith, h))) (rw (le-ltb n (r + r) (omega (arith, h))) even)

-- no other number is: the two facts say which number it is
module _ (total n : ℕ) (some : 0 < n) where
  -- not m and a greater one, whose distance is d and 1
  apart : (m k d : ℕ) → k ≡ suc m + d → NearestEven total n m → NearestEven total n k → ⊥
  apart m k d h a b = go d h
    where
      times : (d : ℕ) → k ≡ suc m + d → k * n ≡ m * n + n + d * n
      times d h = ap (λ x. x * n) h ∙ add-mul (suc m) d n ∙ ap (λ x. x + d * n) (suc-mul m n)

      go : (d : ℕ) → k ≡ suc m + d → ⊥
      go zero h =
          let e : total + total ≡ m * n + m * n + n = omega (arith, times zero h, a.nearest.high, b.nearest.low) in
          let f : k * n + k * n ≡ total + total + n = omega (arith, times zero h, a.nearest.high, b.nearest.low) in
          omega (arith, h, a.next e, b.before f)
      go (suc d) h = omega (arith, times (suc d) h, suc-mul d n, some, a.nearest.high, b.nearest.low)

  pub rounded-only : (m k : ℕ) → NearestEven total n m → NearestEven total n k → m ≡ k
  rounded-only m k a b = go (ltb m k) refl (ltb k m) refl
    where
      go : (x : Bool) → ltb m k ≡ x → (y : Bool) → ltb k m ≡ y → m ≡ k
      go true h y g = absurd (apart m k (k - suc m) (omega (arith, ltb-true m k h)) a b)
      go false h true g = absurd (apart k m (m - suc k) (omega (arith, ltb-true k m g)) b a)
      go false h false g = omega (arith, ltb-false m k h, ltb-false k m g)
