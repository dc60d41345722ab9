-- The answers of the write call: 17, and on a valid table 14, 15, and the text.
-- Idea: what the measure counts is the text's length, or no buffer is as long as that.
use Prim.Native.Nat.{ℕ, ◌≤◌, ◌<◌}
use native.Mathlib.Omega.{arith}
use mathlib.Core.List.{List, ◌++◌}
use mathlib.Core.Bool.{Bool, true, false}
use mathlib.Core.Path.{◌≡◌, refl, ap, sym, ◌∙◌}
use lib.Dec.{ltb}
use lib.ListN.{length, take, drop}
use lib.Seq.{take_at}
use borrow.Author.Tests.{le-leb, lt-leb, ltb-true, ltb-false}
use Rattle.table.specs.declared.State.{State}
use Rattle.table.specs.Valid.{valid}
use Rattle.text_letters.specs.Put.{after, Wrote}
use Rattle.text_network.specs.Text.{text_of, no_mark}
use Rattle.text_write.specs.Answer.{write_answer, Answers}
use Rattle.text_letters.proofs.Puts.{after-most, after-room, after-full, over-whole}

-- a measure that is at most the length of a buffer is the text's length
pub measured : (s d : List ℕ) (n : ℕ) → n ≡ after 0 s → n ≤ length d → length d < 9_223_372_036_854_775_808 → n ≡ length s
measured s d n e h k = go (ltb (length s) 9_223_372_036_854_775_808) refl
  where
    go : (b : Bool) → ltb (length s) 9_223_372_036_854_775_808 ≡ b → n ≡ length s
    go true q = e ∙ after-room 0 s (omega (arith, ltb-true (length s) 9_223_372_036_854_775_808 q)) ∙ omega arith
    go false q = absurd (omega (arith, after-full 0 s (omega (arith, ltb-false (length s) 9_223_372_036_854_775_808 q))))

pub says-17 : (w : List ℕ) (st : State) (d : List ℕ) → valid w st ≡ false → Answers (write_answer w st (length d)) d (record { code = 17; len = 0 }) d
unfolding write_answer
says-17 w st d e = rw e (record { code = refl; len = refl; bytes = refl })

module _ (w : List ℕ) (st : State) (d : List ℕ) (good : valid w st ≡ true) where
  pub says-14 : no_mark w st ≡ false → Answers (write_answer w st (length d)) d (record { code = 14; len = 0 }) d
  unfolding write_answer
  says-14 e = rw (good, e) (record { code = refl; len = refl; bytes = refl })

  module _ (free : no_mark w st ≡ true) (n : ℕ) (count : n ≡ after 0 (text_of w st)) where
    pub says-15 : length d < n → Answers (write_answer w st (length d)) d (record { code = 15; len = 0 }) d
    unfolding write_answer
    says-15 h = rw (good, free, lt-leb (length (text_of w st)) (length d) (omega (arith, after-most 0 (text_of w st)))) (record { code = refl; len = refl; bytes = refl })

    pub says-text : {e : List ℕ} {r : ℕ} → n ≤ length d → length d < 9_223_372_036_854_775_808 → Wrote d 0 (text_of w st) e r
        → Answers (write_answer w st (length d)) d (record { code = 0; len = n }) e
    unfolding write_answer
    says-text h k x =
        let m = measured (text_of w st) d n count h k in
        rw (good, free, le-leb (length (text_of w st)) (length d) (omega arith)) (record { code = refl; len = m; bytes = x.bytes ∙ over-whole d (text_of w st) (omega arith) (omega arith) })

    -- the text was written beside the buffer, and copied
    pub says-copied : {e t t' : List ℕ} → n ≤ length d → length d < 9_223_372_036_854_775_808 → n ≤ length t → length t < 9_223_372_036_854_775_808 → Wrote t 0 (text_of w st) t' n → e ≡ take n t' ++ drop n d
        → Answers (write_answer w st (length d)) d (record { code = 0; len = n }) e
    unfolding write_answer
    says-copied {e} {t} {t'} h k i j x c =
        let m = measured (text_of w st) d n count h k in
        let f : take n t' ≡ text_of w st = ap (take n) (x.bytes ∙ over-whole t (text_of w st) (omega arith) (omega arith)) ∙ take_at (text_of w st) _ n (sym m) in
        rw (good, free, le-leb (length (text_of w st)) (length d) (omega arith)) (record { code = refl; len = m; bytes = c ∙ ap (λ y. y ++ drop n d) f ∙ ap (λ y. text_of w st ++ drop y d) m })
