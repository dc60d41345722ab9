-- A text that was written beside the lent bytes and is handed over.
-- Idea: what was put into bytes that hold it whole is the text itself and its length.
use Prim.Native.Nat.{ℕ, ◌≤◌, ◌<◌}
use native.Mathlib.Omega.{arith}
use mathlib.Core.List.{List, ◌++◌}
use mathlib.Core.Path.{◌≡◌, refl, ap, sym, subst, ◌∙◌}
use lib.ListN.{length, take, drop}
use lib.Seq.{take_at}
use borrow.Author.Tests.{le-leb, lt-leb}
use Rattle.terms.specs.Rules.{Answer}
use Rattle.terms.specs.Rules.Answer.{refused}
use Rattle.text_write.specs.declared.Written.{Written}
use Rattle.text_letters.specs.Put.{Wrote}
use Rattle.text_write.specs.Answer.{Answers}
use Rattle.text_letters.proofs.Puts.{after-room, over-whole}
use Rattle.host.specs.Shown.{holding}

module _ (s d : List ℕ) where
  pub too_long : length d < length s → Answers (holding s (length d)) d (record { code = 15; len = 0 }) d
  unfolding holding
  too_long h = rw (lt-leb (length s) (length d) h) (record { code = refl; len = refl; bytes = refl })

  pub given : {e : List ℕ} → length s ≤ length d → e ≡ s ++ drop (length s) d → Answers (holding s (length d)) d (record { code = 0; len = length s }) e
  unfolding holding
  given h x = rw (le-leb (length s) (length d) h) (record { code = refl; len = refl; bytes = x })

-- what was put from the start on into bytes that hold it
pub record Stands (s e : List ℕ) (r : ℕ) : Type 0 where
  pub long : r ≡ length s
  pub text : take r e ≡ s

pub stands : {d s e : List ℕ} {r : ℕ} → Wrote d 0 s e r → length s ≤ length d → length d ≤ 9_223_372_036_854_775_808 → Stands s e r
stands {d} {s} {e} {r} x h k =
    let n : r ≡ length s = x.place ∙ after-room 0 s (omega arith) ∙ omega arith in
    record { long = n; text = ap (take r) (x.bytes ∙ over-whole d s h k) ∙ take_at s _ r (sym n) }

-- it is the text that is handed over
pub handed : {d s e b f : List ℕ} {r : ℕ} {x : Written} → Wrote d 0 s e r → length s ≤ length d → length d ≤ 9_223_372_036_854_775_808
    → Answers (holding (take r e) (length b)) b x f → Answers (holding s (length b)) b x f
handed {d} {s} {e} {b} {f} {r} {x} h l k a = subst (λ t. Answers (holding t (length b)) b x f) (stands h l k).text a

-- ── refusals ──
-- a refusal leaves the bytes as they were
pub refuses : (n : ℕ) (d : List ℕ) → Answers (refused n) d (record { code = n; len = 0 }) d
refuses n d = record { code = refl; len = refl; bytes = refl }

-- the answer x of the rules is y
pub answers-as : {x y : Answer (List ℕ)} {d e : List ℕ} {r : Written} → x ≡ y → Answers y d r e → Answers x d r e
answers-as {x} {y} {d} {e} {r} q a = subst (λ z. Answers z d r e) (sym q) a
