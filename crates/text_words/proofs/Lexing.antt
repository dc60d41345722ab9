-- The tokens of a text read off its bytes: blanks before a token are nothing, a sign is one byte, a word is a longest run.
-- By recursion on the bytes, going by the class of the first one.
use Prim.Native.Nat.{ℕ, suc, ◌≤◌}
use native.Mathlib.Omega.{arith}
use mathlib.Core.List.{List, [], ◌∷◌, ◌++◌, append_assoc, append-nil}
use mathlib.Core.Bool.{Bool, true, false, cond, false≢true}
use mathlib.Core.Path.{◌≡◌, refl, ap, sym, ◌∙◌}
use borrow.Author.Tests.{ne_eqb}
use lib.ListN.{length}
use Rattle.terms.specs.Names.{Name}
use Rattle.terms.specs.Same.{every}
use Rattle.terms.specs.Characters.Class.{capital, small, digit, bracket, blank, other}
use Rattle.terms.specs.Characters.{Class, class_of, is_blank, alnum, is_alnum}
use Rattle.text.specs.Tokens.{Token, flush, step, lex_from, lex}
use Rattle.text.specs.Tokens.Token.{word, sign}
use Rattle.text.specs.Grammar.{the, a_word, end}
use Rattle.text.specs.Grammar.Rest.{bad}
use Rattle.text_words.specs.Bytes.{after_blanks, after_alnum, alnum_of}

-- ── blanks ──
pub lex-blanks : (l : List ℕ) → lex (after_blanks l) ≡ lex l
unfolding after_blanks lex_from
lex-blanks [] = refl
lex-blanks (b ∷ l) = go (class_of b) refl (lex-blanks l)
  where
    go : (k : Class) → class_of b ≡ k → lex (after_blanks l) ≡ lex l → lex (cond (is_blank k) (after_blanks l) (b ∷ l)) ≡ step k [] b (λ v. lex_from v l)
    go capital e h = ap (λ k. step k [] b (λ v. lex_from v l)) e
    go small e h = ap (λ k. step k [] b (λ v. lex_from v l)) e
    go digit e h = ap (λ k. step k [] b (λ v. lex_from v l)) e
    go bracket e h = ap (λ k. step k [] b (λ v. lex_from v l)) e
    go blank e h = h
    go other e h = ap (λ k. step k [] b (λ v. lex_from v l)) e

-- past the blanks stands no blank
pub blanks-head : (l : List ℕ) {b : ℕ} {m : List ℕ} → after_blanks l ≡ b ∷ m → is_blank (class_of b) ≡ false
unfolding after_blanks
blanks-head [] e = let z : ◌≡◌ {A = ℕ} 0 1 = cc in absurd (omega arith)
blanks-head (a ∷ l) {b} {m} e = go (is_blank (class_of a)) refl e (λ h. blanks-head l h)
  where
    go : (y : Bool) → is_blank (class_of a) ≡ y → cond y (after_blanks l) (a ∷ l) ≡ b ∷ m → (after_blanks l ≡ b ∷ m → is_blank (class_of b) ≡ false) → is_blank (class_of b) ≡ false
    go true h e k = k e
    go false h e k = let i : a ≡ b = cc in rw (← i) h

-- ── what begins with a letter or digit begins with a word ──
-- a test of tokens that a word fails, failed by a word that is begun
module _ {A : Type 0} (f : List Token → A) (x : A) (word-fails : (w : Name) (ts : List Token) → f (word w ∷ ts) ≡ x) where
  begun-fails : (b : ℕ) (w l : List ℕ) → f (lex_from (b ∷ w) l) ≡ x
  unfolding lex_from
  begun-fails b w [] = word-fails (b ∷ w) []
  begun-fails b w (a ∷ l) = go (class_of a) (begun-fails b (w ++ (a ∷ [])) l)
    where
      go : (k : Class) → f (lex_from (b ∷ (w ++ (a ∷ []))) l) ≡ x → f (step k (b ∷ w) a (λ v. lex_from v l)) ≡ x
      go capital h = h
      go small h = h
      go digit h = h
      go bracket h = word-fails (b ∷ w) _
      go blank h = word-fails (b ∷ w) _
      go other h = word-fails (b ∷ w) _

  -- by the first byte, if it is no blank
  pub first-fails : (b : ℕ) (l : List ℕ) → is_blank (class_of b) ≡ false → (f (sign b ∷ lex l) ≡ x) → f (lex (b ∷ l)) ≡ x
  unfolding lex_from
  first-fails b l e s = go (class_of b) e
    where
      go : (k : Class) → is_blank k ≡ false → f (step k [] b (λ v. lex_from v l)) ≡ x
      go capital h = begun-fails b [] l
      go small h = begun-fails b [] l
      go digit h = begun-fails b [] l
      go bracket h = s
      go blank h = absurd (false≢true (sym h))
      go other h = s

pub other_sign : (c b : ℕ) (l : List ℕ) → is_blank (class_of b) ≡ false → (b ≡ c → ⊥) → the c (lex (b ∷ l)) ≡ bad
other_sign c b l e n = first-fails (the c) bad (λ w ts. refl) b l e (rw (ne_eqb b c n))

pub not_end : (b : ℕ) (l : List ℕ) → is_blank (class_of b) ≡ false → end (lex (b ∷ l)) ≡ bad
not_end b l e = first-fails end bad (λ w ts. refl) b l e refl

-- ── words ──
lex-run : (w l : List ℕ) → lex_from w l ≡ flush (w ++ alnum_of l) (lex (after_alnum l))
unfolding lex_from alnum_of after_alnum
lex-run w [] = rw append-nil
lex-run w (b ∷ l) = go (class_of b) refl (lex-run (w ++ (b ∷ [])) l ∙ ap (λ v. flush v (lex (after_alnum l))) (append_assoc w (b ∷ []) (alnum_of l)))
  where
    go : (k : Class) → class_of b ≡ k → lex_from (w ++ (b ∷ [])) l ≡ flush (w ++ (b ∷ alnum_of l)) (lex (after_alnum l))
        → step k w b (λ v. lex_from v l) ≡ flush (w ++ cond (alnum k) (b ∷ alnum_of l) []) (lex (cond (alnum k) (after_alnum l) (b ∷ l)))
    go capital e h = h
    go small e h = h
    go digit e h = h
    go bracket e h = rw (append-nil, e)
    go blank e h = rw (append-nil, e)
    go other e h = rw (append-nil, e)

pub lex-word : (l : List ℕ) → lex l ≡ flush (alnum_of l) (lex (after_alnum l))
lex-word l = lex-run [] l

pub alnum_of-alnum : (l : List ℕ) → every is_alnum (alnum_of l) ≡ true
unfolding every alnum_of
alnum_of-alnum [] = refl
alnum_of-alnum (b ∷ l) = go (is_alnum b) refl (alnum_of-alnum l)
  where
    go : (y : Bool) → is_alnum b ≡ y → every is_alnum (alnum_of l) ≡ true → every is_alnum (cond y (b ∷ alnum_of l) []) ≡ true
    go true e h = rw e h
    go false e h = refl

-- no word where no letter or digit stands, past the blanks
pub no_word : (b : ℕ) (l : List ℕ) → is_blank (class_of b) ≡ false → is_alnum b ≡ false → a_word (lex (b ∷ l)) ≡ bad
unfolding lex_from
no_word b l e n = go (class_of b) e n
  where
    go : (k : Class) → is_blank k ≡ false → alnum k ≡ false → a_word (step k [] b (λ v. lex_from v l)) ≡ bad
    go capital h n = absurd (false≢true (sym n))
    go small h n = absurd (false≢true (sym n))
    go digit h n = absurd (false≢true (sym n))
    go bracket h n = refl
    go blank h n = absurd (false≢true (sym h))
    go other h n = refl

-- ── fewer tokens are left where fewer bytes are ──
flush-length : (w : Name) (ts : List Token) → (length ts ≤ length (flush w ts)) × (length (flush w ts) ≤ suc (length ts))
flush-length [] ts = (omega arith, omega arith)
flush-length (b ∷ w) ts = (omega arith, omega arith)

pub tail-tokens : (b : ℕ) (l : List ℕ) → length (lex l) ≤ length (lex (b ∷ l))
unfolding lex_from
tail-tokens b l = go (class_of b)
  where
    begun : length (lex l) ≤ length (lex_from (b ∷ []) l)
    begun =
        let h = (flush-length (alnum_of l) (lex (after_alnum l))).1 in
        omega (arith, ap length (lex-word l), ap length (lex-run (b ∷ []) l))

    go : (k : Class) → length (lex l) ≤ length (step k [] b (λ v. lex_from v l))
    go capital = begun
    go small = begun
    go digit = begun
    go bracket = omega arith
    go blank = omega arith
    go other = omega arith
