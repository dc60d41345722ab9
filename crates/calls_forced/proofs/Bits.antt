-- The laws of a set of d bits: it is below 2 ^ d; one bit more goes on top; its ones and its lowest are counted; and bit k is set where the test holds of k.
-- By induction on d: the lowest bit is the remainder by 2, and the others are half of the set.
use mathlib.Core.Bool.{Bool, true, false, cond}
use mathlib.Core.Path.{◌≡◌, refl, sym, ap, ap₂, ◌∙◌}
use Prim.Native.Nat.{ℕ, zero, suc, ◌+◌, ◌*◌, ◌/◌, ◌%◌, ◌^◌, ◌<◌}
use native.Mathlib.Nat.{add-zero, zero-add, add-suc, suc-add, mul_assoc, pow-suc}
use native.Mathlib.Numerals.{add-one}
use native.Mathlib.Omega.{arith}
use lib.Bits.{bit_or, or_shifted_r}
use lib.Count.{ones, ones_step, count_trailing_zeros, under}
use lib.Dec.{lit<}
use lib.Pow.{shr-shr, shl_exact}
use Rattle.calls_forced.specs.declared.Report.{Report}
use Rattle.calls_forced.specs.Report.{bit, mask, how_many, least, report_of}

bit-lt : (b : Bool) → bit b < 2
bit-lt true = lit< tt
bit-lt false = lit< tt

mask_lt : (p : ℕ → Bool) (j d : ℕ) → mask p j d < 2 ^ d
unfolding mask
mask_lt p j zero = lit< tt
mask_lt p j (suc d) = omega (arith, mask_lt p (suc j) d, pow-suc 2 d, bit-lt (p j))

-- one bit more, on top
mask-more : (p : ℕ → Bool) (j d : ℕ) → mask p j (suc d) ≡ bit (p (j + d)) * 2 ^ d + mask p j d
unfolding mask
mask-more p j zero = omega (arith, ap (λ (i : ℕ). bit (p i)) (add-zero j))
mask-more p j (suc d) =
    let t = bit (p (j + suc d)) in
    let e : bit (p (suc j + d)) ≡ t = ap (λ (i : ℕ). bit (p i)) (suc-add j d ∙ sym (add-suc j d)) in
    let h : mask p (suc j) (suc d) ≡ t * 2 ^ d + mask p (suc j) d = mask-more p (suc j) d ∙ ap (λ (n : ℕ). n * 2 ^ d + mask p (suc j) d) e in
    let w : t * 2 ^ suc d ≡ t * 2 ^ d * 2 = ap (λ (n : ℕ). t * n) (pow-suc 2 d) ∙ sym (mul_assoc t (2 ^ d) 2) in
    omega arith

-- tests that agree on the d numbers from j on make one set
pub mask-same : (p q : ℕ → Bool) (j d : ℕ) → ((k : ℕ) → k < j + d → p k ≡ q k) → mask p j d ≡ mask q j d
unfolding mask
mask-same p q j zero h = refl
mask-same p q j (suc d) h = ap₂ (λ (x : ℕ) (b : Bool). x * 2 + bit b) (mask-same p q (suc j) d (λ k b. h k (omega arith))) (h j (omega arith))

-- ── a set that is made bit by bit ──
pub mask-none : (p : ℕ → Bool) → 0 ≡ mask p 0 0
unfolding mask
mask-none p = refl

more : (p : ℕ → Bool) (x k : ℕ) → x ≡ mask p 0 k → (y : Bool) → p k ≡ y → bit y * 2 ^ k + x ≡ mask p 0 (k + 1)
more p x k e y g =
    ap (λ (m : ℕ). bit y * 2 ^ k + m) e ∙ ap (λ (b : Bool). bit b * 2 ^ k + mask p 0 k) (sym g ∙ ap p (sym (zero-add k)))
    ∙ sym (ap (mask p 0) (add-one k) ∙ mask-more p 0 k)

pub mask-with : (p : ℕ → Bool) (x k : ℕ) → x ≡ mask p 0 k → k < 64 → p k ≡ true → bit_or x ((1 * 2 ^ k) % 2 ^ 64) ≡ mask p 0 (k + 1)
mask-with p x k e h g = ap (bit_or x) (shl_exact 1 k 64 (lit< tt) (omega arith)) ∙ or_shifted_r 1 k x (rw e (mask_lt p 0 k)) ∙ more p x k e true g

pub mask-without : (p : ℕ → Bool) (x k : ℕ) → x ≡ mask p 0 k → p k ≡ false → x ≡ mask p 0 (k + 1)
mask-without p x k e g = none ∙ more p x k e false g
  where
    none : x ≡ 0 * 2 ^ k + x
    none = omega arith

-- ── what is counted ──
low : (m b : ℕ) → b < 2 → (m * 2 + b) % 2 ≡ b
low m b h = omega arith

rest : (m b : ℕ) → b < 2 → (m * 2 + b) / 2 ≡ m
rest m b h = omega arith

ones-mask : (p : ℕ → Bool) (j d : ℕ) → ones (mask p j d) ≡ how_many p j d
unfolding mask how_many ones
ones-mask p j zero = refl
ones-mask p j (suc d) =
    ones_step (mask p (suc j) d * 2 + bit (p j))
    ∙ ap₂ (λ (x y : ℕ). x + ones y) (low (mask p (suc j) d) (bit (p j)) (bit-lt (p j))) (rest (mask p (suc j) d) (bit (p j)) (bit-lt (p j)))
    ∙ ap (λ (n : ℕ). bit (p j) + n) (ones-mask p (suc j) d)

stops : (b : Bool) (n : ℕ) → under (bit b) n ≡ cond b 0 (suc n)
stops true n = refl
stops false n = refl

trailing-mask : (p : ℕ → Bool) (j d : ℕ) → count_trailing_zeros d (mask p j d) ≡ least p j d
unfolding mask least count_trailing_zeros
trailing-mask p j zero = refl
trailing-mask p j (suc d) =
    ap₂ (λ (x y : ℕ). under x (count_trailing_zeros d y)) (low (mask p (suc j) d) (bit (p j)) (bit-lt (p j))) (rest (mask p (suc j) d) (bit (p j)) (bit-lt (p j)))
    ∙ stops (p j) (count_trailing_zeros d (mask p (suc j) d)) ∙ ap (λ n. cond (p j) 0 (suc n)) (trailing-mask p (suc j) d)

abbrev made : ℕ → ℕ → ℕ → Report
made s n k = record { code = 0; set = s; count = n; lowest = k }

-- the report of a set
pub report-is : (p : ℕ → Bool) (s : ℕ) → s ≡ mask p 0 64 → made s (ones s) (count_trailing_zeros 64 s) ≡ report_of p
report-is p s e = ap (λ (x : ℕ). made x (ones x) (count_trailing_zeros 64 x)) e ∙ ap₂ (made (mask p 0 64)) (ones-mask p 0 64) (trailing-mask p 0 64)

-- bit k of the set is set exactly where the test holds
pub bit-of : (p : ℕ → Bool) (j d k : ℕ) → k < d → mask p j d / 2 ^ k % 2 ≡ bit (p (j + k))
unfolding mask
bit-of p j zero k h = absurd (omega arith)
bit-of p j (suc d) zero h = omega (arith, ap (λ (i : ℕ). bit (p i)) (add-zero j), bit-lt (p j))
bit-of p j (suc d) (suc k) h =
    let m = mask p (suc j) d * 2 + bit (p j) in
    let one : m / 2 ^ (1 + k) ≡ mask p (suc j) d / 2 ^ k = sym (shr-shr m 1 k) ∙ ap (λ (n : ℕ). n / 2 ^ k) (rest (mask p (suc j) d) (bit (p j)) (bit-lt (p j))) in
    ap (λ (n : ℕ). m / 2 ^ n % 2) (sym (native-one k)) ∙ ap (λ (n : ℕ). n % 2) one ∙ bit-of p (suc j) d k (omega arith) ∙ ap (λ (i : ℕ). bit (p i)) (suc-add j k ∙ sym (add-suc j k))
  where
    native-one : (n : ℕ) → 1 + n ≡ suc n
    native-one n = omega arith
