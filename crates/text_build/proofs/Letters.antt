-- The four words of a word of the text hold its letters: document 01, *Reading* (names of 1 to 16 letters and digits).
-- Sixteen bytes from the start, zeros past the end, strip to the word, since no letter or digit is 0; and each word gives its four bytes back.
use Prim.Native.Nat.{ℕ, zero, suc, ◌+◌, ◌*◌, ◌/◌, ◌%◌, ◌≤◌, ◌<◌}
use native.Mathlib.Omega.{arith}
use mathlib.Core.List.{List, [], ◌∷◌}
use mathlib.Core.Bool.{Bool, true, false, cond, ◌||◌, false≢true}
use mathlib.Core.Path.{◌≡◌, refl, ap, sym, ◌∙◌}
use borrow.Author.Tests.{ne_eqb, leb-true}
use lib.Dec.{eqb, leb}
use lib.ListN.{length, get_or, drop}
use Rattle.terms.specs.Same.{every}
use Rattle.terms.proofs.Names.{and-inv}
use Rattle.terms.specs.Characters.Class.{capital, small, digit, bracket, blank, other}
use Rattle.terms.specs.Characters.{class_of, is_alnum, within, alnum}
use Rattle.table.specs.Words.{four_bytes, is_zero, strip, letters}
use Rattle.table.specs.Tests.{key_name}
use Rattle.text_build.specs.Keys.{quad_of, key_of}

-- ── a letter or digit is a byte, and not 0 ──
pub record Solid (b : ℕ) : Type 0 where
  pub some : 0 < b
  pub small : b < 256

pub solid : (b : ℕ) → is_alnum b ≡ true → Solid b
unfolding class_of
solid b e = go (within 65 90 b) refl (within 97 122 b) refl (within 48 57 b) refl (eqb b 40 || (eqb b 41 || (eqb b 91 || eqb b 93))) (eqb b 32 || eqb b 10) e
  where
    range : (lo hi : ℕ) → 0 < lo → hi < 256 → within lo hi b ≡ true → Solid b
    range lo hi p q h = let r = and-inv (leb lo b) _ h in let x = leb-true lo b r.0 in let y = leb-true b hi r.1 in record { some = omega arith; small = omega arith }

    go : (x : Bool) → within 65 90 b ≡ x → (y : Bool) → within 97 122 b ≡ y → (z : Bool) → within 48 57 b ≡ z → (k j : Bool)
        → alnum (cond x capital (cond y small (cond z digit (cond k bracket (cond j blank other))))) ≡ true → Solid b
    go true p y q z r k j e = range 65 90 (omega arith) (omega arith) p
    go false p true q z r k j e = range 97 122 (omega arith) (omega arith) q
    go false p false q true r k j e = range 48 57 (omega arith) (omega arith) r
    go false p false q false r true j e = absurd (false≢true e)
    go false p false q false r false true e = absurd (false≢true e)
    go false p false q false r false false e = absurd (false≢true e)

-- ── n bytes of a word, zeros past its end ──
unfoldable pub filled : ℕ → List ℕ → List ℕ
filled zero s = []
filled (suc n) [] = 0 ∷ filled n []
filled (suc n) (b ∷ s) = b ∷ filled n s

filled_none : (n : ℕ) → strip (filled n []) ≡ []
unfolding strip filled
filled_none zero = refl
filled_none (suc n) = rw (filled_none n)

filled-strip : (n : ℕ) (s : List ℕ) → length s ≤ n → every is_alnum s ≡ true → strip (filled n s) ≡ s
unfolding strip filled every
filled-strip zero [] h e = refl
filled-strip zero (b ∷ s) h e = absurd (omega arith)
filled-strip (suc n) [] h e = filled_none (suc n)
filled-strip (suc n) (b ∷ s) h e =
    let r = and-inv (is_alnum b) _ e in
    let q = (solid b r.0).some in
    rw (filled-strip n s (omega arith) r.1) (go s (ne_eqb b 0 (λ z. omega arith)))
  where
    go : (t : List ℕ) → eqb b 0 ≡ false → cond (is_zero t b) [] (b ∷ t) ≡ b ∷ t
    go [] f = rw f
    go (x ∷ t) f = refl

filled_at : (n k : ℕ) (s : List ℕ) → filled (suc n) (drop k s) ≡ get_or s k 0 ∷ filled n (drop (suc k) s)
unfolding filled
filled_at n zero [] = refl
filled_at n zero (b ∷ s) = refl
filled_at n (suc k) [] = refl
filled_at n (suc k) (b ∷ s) = filled_at n k s

-- ── four bytes in a word, and back ──
byte_fits : (s : List ℕ) (k : ℕ) → every is_alnum s ≡ true → get_or s k 0 < 256
unfolding every
byte_fits [] k e = omega arith
byte_fits (b ∷ s) zero e = (solid b (and-inv (is_alnum b) _ e).0).small
byte_fits (b ∷ s) (suc k) e = byte_fits s k (and-inv (is_alnum b) _ e).1

quad-bytes : (a b c d : ℕ) (l : List ℕ) → a < 256 → b < 256 → c < 256 → d < 256 → four_bytes (a + 256 * b + 65_536 * c + 16_777_216 * d) l ≡ a ∷ b ∷ c ∷ d ∷ l
quad-bytes a b c d l p q r s = rw (low, second, third, top)
  where
    low : (a + 256 * b + 65_536 * c + 16_777_216 * d) % 256 ≡ a
    low = omega arith

    second : (a + 256 * b + 65_536 * c + 16_777_216 * d) / 256 % 256 ≡ b
    second = let e : (a + 256 * b + 65_536 * c + 16_777_216 * d) / 256 ≡ b + 256 * c + 65_536 * d = omega arith in rw e (omega arith)

    third : (a + 256 * b + 65_536 * c + 16_777_216 * d) / 65_536 % 256 ≡ c
    third = let e : (a + 256 * b + 65_536 * c + 16_777_216 * d) / 65_536 ≡ c + 256 * d = omega arith in rw e (omega arith)

    top : (a + 256 * b + 65_536 * c + 16_777_216 * d) / 16_777_216 % 256 ≡ d
    top = let e : (a + 256 * b + 65_536 * c + 16_777_216 * d) / 16_777_216 ≡ d = omega arith in rw e (omega arith)

module _ (s : List ℕ) (e : every is_alnum s ≡ true) where
  quad_at : (o : ℕ) (n : ℕ) → four_bytes (quad_of s o) (filled n (drop (o + 4) s)) ≡ filled (suc (suc (suc (suc n)))) (drop o s)
  unfolding quad_of
  quad_at o n =
      quad-bytes (get_or s o 0) (get_or s (o + 1) 0) (get_or s (o + 2) 0) (get_or s (o + 3) 0) _ (byte_fits s o e) (byte_fits s (o + 1) e) (byte_fits s (o + 2) e) (byte_fits s (o + 3) e)
      ∙ sym four
    where
      four : filled (suc (suc (suc (suc n)))) (drop o s) ≡ get_or s o 0 ∷ get_or s (o + 1) 0 ∷ get_or s (o + 2) 0 ∷ get_or s (o + 3) 0 ∷ filled n (drop (o + 4) s)
      four =
          let e₁ : o + 1 ≡ suc o = omega arith in
          let e₂ : o + 2 ≡ suc (suc o) = omega arith in
          let e₃ : o + 3 ≡ suc (suc (suc o)) = omega arith in
          let e₄ : o + 4 ≡ suc (suc (suc (suc o))) = omega arith in
          rw (e₁, e₂, e₃, e₄, filled_at (suc (suc (suc n))) o s, filled_at (suc (suc n)) (suc o) s, filled_at (suc n) (suc (suc o)) s, filled_at n (suc (suc (suc o))) s)

  -- at most 16 letters and digits: the words' name is the word
  pub key-letters : length s ≤ 16 → key_name (key_of s) ≡ s
  unfolding letters key_of filled
  key-letters h =
      ap strip
      (ap (λ l. four_bytes (quad_of s 0) (four_bytes (quad_of s 4) (four_bytes (quad_of s 8) l))) (quad_at 12 0)
      ∙ ap (λ l. four_bytes (quad_of s 0) (four_bytes (quad_of s 4) l)) (quad_at 8 4)
      ∙ ap (λ l. four_bytes (quad_of s 0) l) (quad_at 4 8)
      ∙ quad_at 0 12)
      ∙ filled-strip 16 s h e
