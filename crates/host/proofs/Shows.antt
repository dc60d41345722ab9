-- A text that is put into lent bytes of any number, and never refused: its length, and as much of it as they hold.
-- Idea: what they hold of it is put like a text that fits, and a byte behind their end changes nothing.
use Prim.Native.Nat.{ℕ, ◌+◌, ◌≤◌, ◌<◌}
use native.Mathlib.Omega.{arith}
use mathlib.Core.List.{List, [], ◌∷◌, ◌++◌, append-nil}
use mathlib.Core.Bool.{Bool, true, false, cond}
use mathlib.Core.Path.{◌≡◌, refl, ap, sym, ◌∙◌}
use lib.Dec.{leb, ltb}
use lib.ListN.{length, take, drop, length-append, length-drop, take-append-drop, drop_of_length-le}
use lib.Seq.{set_out, take_all, take-append-le, length-take-le}
use borrow.Author.Tests.{leb-true, leb-false}
use Rattle.text_letters.specs.Put.{next, over, Wrote}
use Rattle.text_letters.proofs.Puts.{begun, left_as, step, after-room, after-full, over-whole}
use Rattle.host.specs.Shown.{Shows}

next_grows : (at : ℕ) → at ≤ next at
unfolding next
next_grows at = go (ltb at 9_223_372_036_854_775_808)
  where
    go : (b : Bool) → at ≤ cond b (at + 1) at
    go true = omega arith
    go false = omega arith

past : (e : List ℕ) (at : ℕ) (s : List ℕ) → length e ≤ at → over e at s ≡ e
unfolding over
past e at [] h = refl
past e at (b ∷ s) h = rw (set_out e at b h) (past e (next at) s (omega (arith, next_grows at)))

module _ (d s : List ℕ) (few : length s ≤ 9_223_372_036_854_775_808) (k : length d ≤ 9_223_372_036_854_775_808) where
  -- more bytes than the text has
  whole : length s ≤ length d → over d 0 s ≡ take (length d) (s ++ drop (length s) d)
  whole h = over-whole d s h k ∙ sym (take_all (length d) _ (simp (length-append, length-drop) (omega arith)))

  -- fewer
  cut : length d < length s → over d 0 s ≡ take (length d) (s ++ drop (length s) d)
  cut h =
      let t = take (length d) s in
      let n : length t ≡ length d = length-take-le (length d) s (omega arith) in
      let front : over d 0 t ≡ t = over-whole d t (omega arith) k ∙ ap (λ z. t ++ z) (drop_of_length-le d {i = length t} (omega arith)) ∙ append-nil t in
      let rest = step {t = t} (left_as (sym (take-append-drop (length d) s)) begun) (record { bytes = refl; place = refl }) in
      sym rest.bytes ∙ past (over d 0 t) _ (drop (length d) s) (omega (arith, ap length front, after-room 0 t (omega arith))) ∙ front ∙ sym (take-append-le (length d) s _ (omega arith))

  each : over d 0 s ≡ take (length d) (s ++ drop (length s) d)
  each = go (leb (length s) (length d)) refl
    where
      go : (b : Bool) → leb (length s) (length d) ≡ b → over d 0 s ≡ take (length d) (s ++ drop (length s) d)
      go true e = whole (leb-true (length s) (length d) e)
      go false e = cut (leb-false (length s) (length d) e)

-- a count below 2^63 is the text's length
pub shows : {d s e : List ℕ} {r : ℕ} → Wrote d 0 s e r → r < 9_223_372_036_854_775_808 → length d ≤ 9_223_372_036_854_775_808 → Shows s d r e
shows {d} {s} {e} {r} x h k = go (leb (length s) 9_223_372_036_854_775_808) refl
  where
    go : (b : Bool) → leb (length s) 9_223_372_036_854_775_808 ≡ b → Shows s d r e
    go true f =
        let few = leb-true (length s) 9_223_372_036_854_775_808 f in
        record { len = x.place ∙ after-room 0 s (omega arith) ∙ omega arith; bytes = x.bytes ∙ each d s few k }
    go false f = absurd (omega (arith, x.place, after-full 0 s (omega (arith, leb-false (length s) 9_223_372_036_854_775_808 f))))
