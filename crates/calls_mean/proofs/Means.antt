-- The mean of no messages and of some; quotient and remainder are numbers of 32 bits, since the total is within 1,000,000 times the count.
-- By cases on the count, and by the laws of quotient and remainder.
use Prim.Native.Nat.{ℕ, zero, suc, ◌*◌, ◌/◌, ◌%◌, ◌≤◌, ◌<◌}
use native.Mathlib.Omega.{arith}
use native.Mathlib.Nat.{mod-lt, div-lt_iff_lt-mul}
use mathlib.Core.Path.{◌≡◌, refl}
use Rattle.waits.specs.Mean.{mean_of}
use Rattle.waits.specs.Mean.Mean.{none, over}

pub mean-none : (t n : ℕ) → n ≡ 0 → none ≡ mean_of t n
unfolding mean_of
mean-none t n e = rw e

pub mean-some : (t n : ℕ) → (n ≡ 0 → ⊥) → over (t / n) (t % n) n ≡ mean_of t n
unfolding mean_of
mean-some t zero h = absurd (h refl)
mean-some t (suc n) h = refl

pub quotient-small : (t n : ℕ) → 0 < n → t ≤ 1_000_000 * n → t / n ≤ 1_000_000
quotient-small t n h b =
    let s : t < 1_000_001 * n = omega arith in
    let q : t / n < 1_000_001 = (div-lt_iff_lt-mul h).1 s in
    omega arith

pub remainder-small : (t n : ℕ) → 0 < n → t % n < n
remainder-small t n h = mod-lt t h
