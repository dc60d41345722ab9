-- The line of the mean has at most 8 bytes: the mean is at most 1,000,000.
-- A number below ten times p has one digit more than one below p.
use Prim.Native.Nat.{ℕ, zero, suc, ◌+◌, ◌*◌, ◌/◌, ◌%◌, ◌≤◌, ◌<◌}
use native.Mathlib.Omega.{arith}
use mathlib.Core.Bool.{Bool, true, false, cond}
use mathlib.Core.List.{◌++◌}
use mathlib.Core.Path.{◌≡◌, refl, sym, ap, ◌∙◌}
use lib.Dec.{ltb}
use lib.ListN.{length, length-append}
use borrow.Author.Tests.{lt-ltb}
use Rattle.terms.specs.Names.{bytes}
use Rattle.terms.specs.Rules.Answer.{accepted}
use Rattle.waits.specs.Mean.{mean_of, rounded}
use Rattle.text.specs.Tokens.{last_digit, digits_of, digits}
use Rattle.calls_mean.specs.declared.Averaged.{Averaged}
use Rattle.calls_mean.specs.Averaged.{averaged}
use Rattle.calls_mean.proofs.Means.{quotient-small, remainder-small}
use Rattle.run_print.specs.Print.{mean_text}

-- numbers below p have at most k digits
abbrev Digits : ℕ → ℕ → Type 0
Digits p k = (f n : ℕ) → n < p → length (digits_of f n) ≤ k

one-digit : Digits 10 1
unfolding digits_of
one-digit zero n h = omega arith
one-digit (suc f) n h = rw (lt-ltb n 10 h) (omega arith)

more-digits : (p k : ℕ) → Digits p k → Digits (10 * p) (suc k)
unfolding digits_of
more-digits p k h zero n b = omega arith
more-digits p k h (suc f) n b = go (ltb n 10) (h f (n / 10) (omega arith))
  where
    go : (y : Bool) → length (digits_of f (n / 10)) ≤ k → length (last_digit y n (digits_of f)) ≤ suc k
    go true c = omega arith
    go false c = simp length-append (omega arith)

seven-digits : (n : ℕ) → n < 10_000_000 → length (digits n) ≤ 7
seven-digits n h = more-digits 1_000_000 6 (more-digits 100_000 5 (more-digits 10_000 4 (more-digits 1_000 3 (more-digits 100 2 (more-digits 10 1 one-digit))))) n n h

rounded-small : (q r n : ℕ) → q ≤ 1_000_000 → rounded q r n < 10_000_000
unfolding rounded
rounded-small q r n h = go (ltb (r + r) n) (ltb n (r + r))
  where
    go : (b c : Bool) → cond b q (cond c (suc q) (q + q % 2)) < 10_000_000
    go true c = omega arith
    go false true = omega arith
    go false false = omega arith

pub mean-short : (t n : ℕ) → t ≤ 1_000_000 * n → length (mean_text (mean_of t n)) ≤ 8
unfolding mean_of mean_text
mean-short t zero h = omega arith
mean-short t (suc n) h = simp length-append (omega (arith, seven-digits (rounded (t / suc n) (t % suc n) (suc n)) (rounded-small (t / suc n) (t % suc n) (suc n) (quotient-small t (suc n) (omega arith) h))))

-- ── the line from the answer of `mean_of` ──
module _ (t n : ℕ) (m : Averaged) (e : m ≡ averaged (accepted (mean_of t n))) where
  pub line-none : m.count ≡ 0 → bytes "-\n" ≡ mean_text (mean_of t n)
  unfolding mean_of mean_text
  line-none z = go n (ap (λ y. y.count) (sym e) ∙ z)
    where
      go : (n : ℕ) → (averaged (accepted (mean_of t n))).count ≡ 0 → bytes "-\n" ≡ mean_text (mean_of t n)
      go zero z = refl
      go (suc n) z = absurd (omega (arith, z))

  pub line-some : (m.count ≡ 0 → ⊥) → digits (rounded m.quotient m.remainder m.count) ++ bytes "\n" ≡ mean_text (mean_of t n)
  line-some z = rw e (go n (λ y. z (ap (λ y. y.count) e ∙ y)))
    where
      go : (n : ℕ) → ((averaged (accepted (mean_of t n))).count ≡ 0 → ⊥) → digits (rounded (averaged (accepted (mean_of t n))).quotient (averaged (accepted (mean_of t n))).remainder (averaged (accepted (mean_of t n))).count) ++ bytes "\n" ≡ mean_text (mean_of t n)
      go zero z = absurd (z (unfold mean_of in refl))
      go (suc n) z = unfold mean_of mean_text in refl

  pub in-range : t ≤ 1_000_000 * n → (m.count ≡ 0 → ⊥) → (m.quotient ≤ 1_000_000) × (m.remainder < m.count)
  in-range h z = rw e (go n h (λ y. z (ap (λ y. y.count) e ∙ y)))
    where
      go : (n : ℕ) → t ≤ 1_000_000 * n → ((averaged (accepted (mean_of t n))).count ≡ 0 → ⊥) → ((averaged (accepted (mean_of t n))).quotient ≤ 1_000_000) × ((averaged (accepted (mean_of t n))).remainder < (averaged (accepted (mean_of t n))).count)
      go zero h z = absurd (z (unfold mean_of in refl))
      go (suc n) h z = unfold mean_of in (quotient-small t (suc n) (omega arith) h, remainder-small t (suc n) (omega arith))
