-- Bytes put one after the other: two texts in a row are one text, a text is put in steps, and what all of a text leaves in a buffer.
-- By induction on the bytes; a buffer is at most 2^63 bytes long, so that a count that stops there tells whether a text fits.
use Prim.Native.Nat.{ℕ, suc, ◌+◌, ◌≤◌, ◌<◌}
use native.Mathlib.Omega.{arith}
use mathlib.Core.List.{List, [], ◌∷◌, ◌++◌}
use mathlib.Core.Bool.{Bool, true, false, cond}
use mathlib.Core.Path.{◌≡◌, refl, ap, sym, ◌∙◌}
use lib.Dec.{ltb}
use lib.ListN.{length, drop, set}
use lib.Seq.{sets, sets-eq, set_out}
use borrow.Author.Tests.{ltb-true, ltb-false, lt-ltb, le-ltb}
use Rattle.text_letters.specs.Put.{next, after, over, Wrote}

-- ── one after the other ──
after-append : (at : ℕ) (s t : List ℕ) → after at (s ++ t) ≡ after (after at s) t
unfolding after
after-append at [] t = refl
after-append at (b ∷ s) t = after-append (next at) s t

over-append : (d : List ℕ) (at : ℕ) (s t : List ℕ) → over d at (s ++ t) ≡ over (over d at s) (after at s) t
unfolding over after
over-append d at [] t = refl
over-append d at (b ∷ s) t = over-append (set d at b) (next at) s t

pub nothing : {d : List ℕ} {at : ℕ} → Wrote d at [] d at
nothing = unfold over after in record { bytes = refl; place = refl }

pub then : {d s e t f : List ℕ} {at r q : ℕ} → Wrote d at s e r → Wrote e r t f q → Wrote d at (s ++ t) f q
then {d} {s} {e} {t} {f} {at} {r} {q} x y = record {
  bytes = y.bytes ∙ ap (λ z. over z r t) x.bytes ∙ ap (λ z. over (over d at s) z t) x.place ∙ sym (over-append d at s t);
  place = y.place ∙ ap (λ z. after z t) x.place ∙ sym (after-append at s t);
}

-- the same bytes
pub same : {d s t e : List ℕ} {at r : ℕ} → s ≡ t → Wrote d at s e r → Wrote d at t e r
same {d} {s} {t} {e} {at} {r} q x = record { bytes = x.bytes ∙ ap (over d at) q; place = x.place ∙ ap (after at) q }

-- ── a text in steps: what is left to put at (e, r) of the text s that began at (d, at) ──
pub record Left (d : List ℕ) (at : ℕ) (s e : List ℕ) (r : ℕ) (rest : List ℕ) : Type 0 where
  pub bytes : over e r rest ≡ over d at s
  pub place : after r rest ≡ after at s

pub left_as : {d s e : List ℕ} {at r : ℕ} {x y : List ℕ} → x ≡ y → Left d at s e r x → Left d at s e r y
left_as {d} {s} {e} {at} {r} q l = record { bytes = ap (over e r) (sym q) ∙ l.bytes; place = ap (after r) (sym q) ∙ l.place }

pub begun : {d s : List ℕ} {at : ℕ} → Left d at s d at s
begun = record { bytes = refl; place = refl }

pub step : {d s e t f rest : List ℕ} {at r q : ℕ} → Left d at s e r (t ++ rest) → Wrote e r t f q → Left d at s f q rest
step {d} {s} {e} {t} {f} {rest} {at} {r} {q} x y = record {
  bytes = ap (λ z. over z q rest) y.bytes ∙ ap (λ z. over (over e r t) z rest) y.place ∙ sym (over-append e r t rest) ∙ x.bytes;
  place = ap (λ z. after z rest) y.place ∙ sym (after-append r t rest) ∙ x.place;
}

pub last : {d s e t f : List ℕ} {at r q : ℕ} → Left d at s e r t → Wrote e r t f q → Wrote d at s f q
last x y = record { bytes = y.bytes ∙ x.bytes; place = y.place ∙ x.place }

pub done : {d s e : List ℕ} {at r : ℕ} → Left d at s e r [] → Wrote d at s e r
done x = last x nothing

-- ── one byte ──
pub one_in : (d : List ℕ) (at b : ℕ) → at < length d → length d ≤ 9_223_372_036_854_775_808 → Wrote d at (b ∷ []) (set d at b) (at + 1)
one_in d at b h k = unfold over after next in record { bytes = refl; place = rw (lt-ltb at 9_223_372_036_854_775_808 (omega arith)) }

pub one-past : (d : List ℕ) (at b : ℕ) → length d ≤ at → at < 9_223_372_036_854_775_808 → Wrote d at (b ∷ []) d (at + 1)
one-past d at b h k = unfold over after next in record { bytes = sym (set_out d at b h); place = rw (lt-ltb at 9_223_372_036_854_775_808 k) }

pub one-full : (d : List ℕ) (at b : ℕ) → length d ≤ at → 9_223_372_036_854_775_808 ≤ at → Wrote d at (b ∷ []) d at
one-full d at b h k = unfold over after next in record { bytes = sym (set_out d at b h); place = rw (le-ltb at 9_223_372_036_854_775_808 k) }

-- ── a whole text ──
next-room : (at : ℕ) → at < 9_223_372_036_854_775_808 → next at ≡ suc at
unfolding next
next-room at h = rw (lt-ltb at 9_223_372_036_854_775_808 h) (omega arith)

next_grows : (at : ℕ) → at ≤ next at
unfolding next
next_grows at = go (ltb at 9_223_372_036_854_775_808)
  where
    go : (b : Bool) → at ≤ cond b (at + 1) at
    go true = omega arith
    go false = omega arith

-- where there is room, the place is the sum
pub after-room : (at : ℕ) (s : List ℕ) → at + length s ≤ 9_223_372_036_854_775_808 → after at s ≡ at + length s
unfolding after
after-room at [] h = omega arith
after-room at (b ∷ s) h = rw (next-room at (omega arith)) (after-room (suc at) s (omega arith) ∙ omega arith)

after-grows : (at : ℕ) (s : List ℕ) → at ≤ after at s
unfolding after
after-grows at [] = omega arith
after-grows at (b ∷ s) = omega (arith, next_grows at, after-grows (next at) s)

-- and never more
next-most : (at : ℕ) → next at ≤ suc at
unfolding next
next-most at = go (ltb at 9_223_372_036_854_775_808)
  where
    go : (b : Bool) → cond b (at + 1) at ≤ suc at
    go true = omega arith
    go false = omega arith

pub after-most : (at : ℕ) (s : List ℕ) → after at s ≤ at + length s
unfolding after
after-most at [] = omega arith
after-most at (b ∷ s) = omega (arith, next-most at, after-most (next at) s)

-- where there is none, the place is past every buffer
pub after-full : (at : ℕ) (s : List ℕ) → 9_223_372_036_854_775_808 ≤ at + length s → 9_223_372_036_854_775_808 ≤ after at s
unfolding after
after-full at [] h = omega arith
after-full at (b ∷ s) h = go (ltb at 9_223_372_036_854_775_808) refl (after-full (suc at) s (omega arith))
  where
    go : (t : Bool) → ltb at 9_223_372_036_854_775_808 ≡ t → 9_223_372_036_854_775_808 ≤ after (suc at) s → 9_223_372_036_854_775_808 ≤ after (next at) s
    go true e k = rw (next-room at (ltb-true at 9_223_372_036_854_775_808 e)) k
    go false e k = omega (arith, ltb-false at 9_223_372_036_854_775_808 e, next_grows at, after-grows (next at) s)

over-sets : (d : List ℕ) (at : ℕ) (s : List ℕ) → at + length s ≤ 9_223_372_036_854_775_808 → over d at s ≡ sets d at s
unfolding over
over-sets d at [] h = refl
over-sets d at (b ∷ s) h = rw (next-room at (omega arith)) (over-sets (set d at b) (suc at) s (omega arith))

-- a text that fits, from the start of a buffer on
pub over-whole : (d s : List ℕ) → length s ≤ length d → length d ≤ 9_223_372_036_854_775_808 → over d 0 s ≡ s ++ drop (length s) d
over-whole d s h k =
    over-sets d 0 s (omega arith)
    ∙ sets-eq s d 0 (omega arith)
    ∙ (let n : 0 + length s ≡ length s = omega arith in ap (λ n. s ++ drop n d) n)
