-- Steps of the code over the positions of a text s: skipping blanks, a sign, a word, the end of a word; and tests and numbers byte by byte.
-- Each loop's step is one lemma: what holds from i on, from what holds from i + 1 on and the byte at i.
use Prim.Native.Nat.{ℕ, zero, suc, ◌+◌, ◌-◌, ◌*◌, ◌≤◌, ◌<◌, max}
use native.Mathlib.Omega.{arith}
use native.Mathlib.Numerals.{add-one}
use mathlib.Core.Bool.{Bool, true, false, not, cond}
use mathlib.Core.List.{List, [], ◌∷◌, ◌++◌, append_assoc, append-nil}
use mathlib.Core.Path.{◌≡◌, refl, sym, ap, subst, ◌∙◌}
use borrow.Author.Tests.{lt-leb, leb-true, leb-false}
use lib.Dec.{eqb, leb}
use lib.ListN.{length, take, drop, get_or, drop_of_length-le, length-drop, length-take}
use lib.Seq.{drop-cons, take-suc, get_or-drop}
use Rattle.std.specs.Prelude.{Some}
use Rattle.terms.specs.Names.{Name}
use Rattle.terms.specs.Same.{every}
use Rattle.terms.specs.Characters.{class_of, is_blank, is_alnum}
use Rattle.text.specs.Tokens.{Token, lex, lex_from, flush, number_from, plain}
use Rattle.text.specs.Grammar.{the, a_word, named, end}
use Rattle.text.specs.Grammar.Rest.{ok, bad}
use Rattle.text_words.specs.Bytes.{after_blanks, after_alnum, alnum_of, Run, IsSign, ended, skim}
use Rattle.text_words.proofs.Lexing.{lex-blanks, blanks-head, other_sign, not_end, lex-word, no_word, alnum_of-alnum, tail-tokens}

-- ── blanks ──
module _ (s : List ℕ) (i : ℕ) where
  pub blank-on : i < length s → is_blank (class_of (get_or s i 0)) ≡ true → after_blanks (drop (i + 1) s) ≡ after_blanks (drop i s)
  unfolding after_blanks
  blank-on h e = rw (add-one i, drop-cons s i 0 h, e)

  pub blank-stop : i < length s → is_blank (class_of (get_or s i 0)) ≡ false → drop i s ≡ after_blanks (drop i s)
  unfolding after_blanks
  blank-stop h e = rw (drop-cons s i 0 h) (rw e)

  pub blank-end : length s ≤ i → drop (length s) s ≡ after_blanks (drop i s)
  unfolding after_blanks
  blank-end h = drop_of_length-le s (omega arith) ∙ (rw (drop_of_length-le s h))

-- ── past the blanks, at a ──
module _ (s : List ℕ) (at a : ℕ) (skipped : drop a s ≡ after_blanks (drop at s)) where
  at-lex : lex (drop at s) ≡ lex (drop a s)
  at-lex = sym (lex-blanks (drop at s)) ∙ ap lex (sym skipped)

  solid : a < length s → is_blank (class_of (get_or s a 0)) ≡ false
  solid h = blanks-head (drop at s) (sym skipped ∙ drop-cons s a 0 h)

  -- the sign c
  pub eat-done : (c : ℕ) → IsSign c → a < length s → get_or s a 0 ≡ c → ended s (Some (a + 1)) ≡ the c (lex (drop at s))
  eat-done c m h g =
      sym (ap (the c) (at-lex ∙ ap lex (drop-cons s a 0 h ∙ ap (λ b. b ∷ drop (suc a) s) g)) ∙ m (drop (suc a) s) ∙ ap (λ i. ok tt (lex (drop i s))) (sym (add-one a)))

  pub eat-other : (c : ℕ) → a < length s → (get_or s a 0 ≡ c → ⊥) → bad ≡ the c (lex (drop at s))
  eat-other c h n = sym (ap (the c) (at-lex ∙ ap lex (drop-cons s a 0 h)) ∙ other_sign c (get_or s a 0) (drop (suc a) s) (solid h) n)

  pub eat-over : (c : ℕ) → length s ≤ a → bad ≡ the c (lex (drop at s))
  unfolding lex_from
  eat-over c h = sym (ap (the c) (at-lex ∙ ap lex (drop_of_length-le s h)))

  -- the end of the text
  pub end_more : a < length s → bad ≡ end (lex (drop at s))
  end_more h = sym (ap end (at-lex ∙ ap lex (drop-cons s a 0 h)) ∙ not_end (get_or s a 0) (drop (suc a) s) (solid h))

  pub end-over : length s ≤ a → lex (drop at s) ≡ []
  unfolding lex_from
  end-over h = at-lex ∙ ap lex (drop_of_length-le s h)

-- ── the letters and digits from a position on ──
-- what is known on the way from `at` to i
pub record Running (s : List ℕ) (at i : ℕ) : Type 0 where
  pub low : at ≤ i
  pub high : at < i → i ≤ length s
  pub rest : after_alnum (drop i s) ≡ after_alnum (drop at s)
  pub run : take (i - at) (drop at s) ++ alnum_of (drop i s) ≡ alnum_of (drop at s)

pub running-first : (s : List ℕ) (at : ℕ) → Running s at at
running-first s at = let z : at - at ≡ 0 = omega arith in record { low = omega arith; high = λ h. absurd (omega arith); rest = refl; run = rw z }

module _ (s : List ℕ) (i : ℕ) where
  alnum-on : i < length s → is_alnum (get_or s i 0) ≡ true → (after_alnum (drop i s) ≡ after_alnum (drop (suc i) s)) × (alnum_of (drop i s) ≡ get_or s i 0 ∷ alnum_of (drop (suc i) s))
  unfolding after_alnum alnum_of
  alnum-on h e = (rw (drop-cons s i 0 h) (rw e), rw (drop-cons s i 0 h) (rw e))

  alnum-off : i < length s → is_alnum (get_or s i 0) ≡ false → (after_alnum (drop i s) ≡ drop i s) × (alnum_of (drop i s) ≡ [])
  unfolding after_alnum alnum_of
  alnum-off h e = (rw (drop-cons s i 0 h) (rw e), rw (drop-cons s i 0 h) (rw e))

  alnum-end : length s ≤ i → (after_alnum (drop i s) ≡ drop i s) × (alnum_of (drop i s) ≡ [])
  unfolding after_alnum alnum_of
  alnum-end h = (rw (drop_of_length-le s h), rw (drop_of_length-le s h))

module _ (s : List ℕ) (at i : ℕ) (r : Running s at i) where
  pub running-on : i < length s → is_alnum (get_or s i 0) ≡ true → Running s at (i + 1)
  running-on h e =
      let l = r.low in
      let z : i + 1 - at ≡ suc (i - at) = omega arith in
      let n : i - at < length (drop at s) = omega (arith, length-drop at s) in
      let m : at + (i - at) ≡ i = omega arith in
      let g : get_or (drop at s) (i - at) 0 ≡ get_or s i 0 = simp (get_or-drop) (ap (λ j. get_or s j 0) m) in
      let k = alnum-on s i h e in
      record {
        low = omega arith;
        high = λ _. omega arith;
        rest = rw (add-one i) (sym k.0 ∙ r.rest);
        run = rw (z, take-suc (drop at s) (i - at) 0 n, g, add-one i) (append_assoc (take (i - at) (drop at s)) (get_or s i 0 ∷ []) (alnum_of (drop (suc i) s)) ∙ ap (λ x. take (i - at) (drop at s) ++ x) (sym k.1) ∙ r.run);
      }

  ran : (after_alnum (drop i s) ≡ drop i s) × (alnum_of (drop i s) ≡ []) → Run s at i
  ran k = record { low = r.low; high = r.high; rest = sym k.0 ∙ r.rest; run = sym (append-nil (take (i - at) (drop at s))) ∙ ap (λ x. take (i - at) (drop at s) ++ x) (sym k.1) ∙ r.run }

  pub running-stop : i < length s → is_alnum (get_or s i 0) ≡ false → Run s at i
  running-stop h e = ran (alnum-off s i h e)

  running-end : length s ≤ i → Run s at i
  running-end h = ran (alnum-end s i h)

  -- where the text ends, or at `at` itself, if that is behind the end
  pub running-max : length s ≤ i → (at ≤ length s → i ≤ length s) → Run s at (max at (length s))
  running-max h k = go (leb at (length s)) refl
    where
      go : (y : Bool) → leb at (length s) ≡ y → Run s at (max at (length s))
      go true e =
          let l = k (leb-true at (length s) e) in
          let z : i ≡ max at (length s) = omega (arith, leb-true at (length s) e) in
          subst (Run s at) z (running-end h)
      go false e =
          let l = leb-false at (length s) e in
          let n : (at < i → ⊥) = λ b. let g = r.high b in omega arith in
          let z : i ≡ max at (length s) = omega (arith, r.low) in
          subst (Run s at) z (running-end h)

-- ── the next word ──
word-flush : (w : Name) (ts : List Token) → 0 < length w → a_word (flush w ts) ≡ ok w ts
word-flush [] ts h = absurd (omega arith)
word-flush (b ∷ w) ts h = refl

module _ (s : List ℕ) (at a e : ℕ) (skipped : drop a s ≡ after_blanks (drop at s)) (r : Run s a e) where
  pub word-alnum : every is_alnum (take (e - a) (drop a s)) ≡ true
  word-alnum = rw r.run (alnum_of-alnum (drop a s))

  pub word-is : a < e → a_word (lex (drop at s)) ≡ ok (take (e - a) (drop a s)) (lex (drop e s))
  word-is h =
      let g = r.high h in
      let n : 0 < length (take (e - a) (drop a s)) = omega (arith, length-take (e - a) (drop a s), length-drop a s) in
      ap a_word (at-lex s at a skipped ∙ lex-word (drop a s) ∙ ap (λ w. flush w (lex (after_alnum (drop a s)))) (sym r.run) ∙ ap (λ l. flush (take (e - a) (drop a s)) (lex l)) (sym r.rest))
      ∙ word-flush (take (e - a) (drop a s)) (lex (drop e s)) n

  pub word_none : e ≤ a → a_word (lex (drop at s)) ≡ bad
  unfolding lex_from alnum_of
  word_none h = ap a_word (at-lex s at a skipped) ∙ go (drop a s) refl
    where
      empty : alnum_of (drop a s) ≡ []
      empty = let z : e - a ≡ 0 = omega arith in sym r.run ∙ ap (λ j. take j (drop a s)) z

      first : (b : ℕ) (l : List ℕ) → (y : Bool) → is_alnum b ≡ y → cond y (b ∷ alnum_of l) [] ≡ [] → is_alnum b ≡ false
      first b l true g n = let z : ◌≡◌ {A = ℕ} 0 1 = cc in absurd (omega arith)
      first b l false g n = g

      go : (l : List ℕ) → drop a s ≡ l → a_word (lex l) ≡ bad
      go [] g = refl
      go (b ∷ l) g = no_word b l (blanks-head (drop at s) (sym skipped ∙ g)) (first b l (is_alnum b) refl (sym (ap alnum_of g) ∙ empty))

-- ── a word that passes a test ──
module _ (p : Name → Bool) (ts : List Token) where
  pub field-none : a_word ts ≡ bad → bad ≡ skim (named p) ts
  field-none e = rw e

  pub field-yes : (w : Name) (us : List Token) → a_word ts ≡ ok w us → p w ≡ true → ok tt us ≡ skim (named p) ts
  field-yes w us e h = rw (e, h)

  pub field-no : (w : Name) (us : List Token) → a_word ts ≡ ok w us → p w ≡ false → bad ≡ skim (named p) ts
  field-no w us e h = rw (e, h)

-- ── numbers ──
pub number-least : (n : ℕ) (w : Name) → n ≤ number_from n w
unfolding number_from
number-least n [] = omega arith
number-least n (b ∷ w) = omega (arith, number-least (10 * n + (b - 48)) w)

pub number-over : (n : ℕ) (w : Name) → 1_000_000 < n → leb n 1_000_000 ≡ leb (number_from n w) 1_000_000
number-over n w h = lt-leb n 1_000_000 h ∙ sym (lt-leb (number_from n w) 1_000_000 (omega (arith, number-least n w)))

pub number-on : (n : ℕ) (w : Name) (i : ℕ) → i < length w → number_from (10 * n + (get_or w i 0 - 48)) (drop (i + 1) w) ≡ number_from n (drop i w)
unfolding number_from
number-on n w i h = rw (add-one i, drop-cons w i 0 h)

pub number-end : (n : ℕ) (w : Name) (i : ℕ) → length w ≤ i → n ≡ number_from n (drop i w)
unfolding number_from
number-end n w i h = rw (drop_of_length-le w h)

pub plain-empty : (w : Name) → length w ≡ 0 → false ≡ plain w
plain-empty [] h = refl
plain-empty (b ∷ w) h = absurd (omega arith)

pub plain-one : (w : Name) → length w ≡ 1 → true ≡ plain w
plain-one [] h = absurd (omega arith)
plain-one (b ∷ []) h = refl
plain-one (b ∷ c ∷ w) h = absurd (omega arith)

pub plain-long : (w : Name) → (length w ≡ 0 → ⊥) → (length w ≡ 1 → ⊥) → not (eqb (get_or w 0 0) 48) ≡ plain w
plain-long [] h k = absurd (h refl)
plain-long (b ∷ []) h k = absurd (k refl)
plain-long (b ∷ c ∷ w) h k = refl

-- ── fewer tokens left means a later position ──
tokens-on : (s : List ℕ) (i : ℕ) → length (lex (drop (suc i) s)) ≤ length (lex (drop i s))
tokens-on [] zero = omega arith
tokens-on [] (suc i) = omega arith
tokens-on (b ∷ s) zero = tail-tokens b s
tokens-on (b ∷ s) (suc i) = tokens-on s i

tokens-later : (s : List ℕ) (d i : ℕ) → length (lex (drop (d + i) s)) ≤ length (lex (drop i s))
tokens-later s zero i = let z : 0 + i ≡ i = omega arith in rw z (omega arith)
tokens-later s (suc d) i = let z : suc d + i ≡ suc (d + i) = omega arith in rw z (omega (arith, tokens-on s (d + i), tokens-later s d i))

pub bytes-fall : (s : List ℕ) (at r : ℕ) → length (lex (drop r s)) < length (lex (drop at s)) → length s - r < length s - at
unfolding lex_from
bytes-fall s at r h = go (leb at r) refl (leb (length s) at) refl
  where
    go : (y : Bool) → leb at r ≡ y → (z : Bool) → leb (length s) at ≡ z → length s - r < length s - at
    go y e true g = absurd (omega (arith, ap (λ l. length (lex l)) (drop_of_length-le s (leb-true _ _ g))))
    go true e false g =
        let i = leb-true at r e in
        let j = leb-false (length s) at g in
        let n : (r ≡ at → ⊥) = λ k. omega (arith, ap (λ x. length (lex (drop x s))) k) in
        omega arith
    go false e false g =
        let i = leb-false at r e in
        let z : at - r + r ≡ at = omega arith in
        absurd (omega (arith, tokens-later s (at - r) r, ap (λ x. length (lex (drop x s))) z))
