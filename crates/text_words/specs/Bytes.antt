-- What the positions that the code answers with stand for: what is left of a text s, as bytes and as tokens.
-- Serves inner contracts only.
use Rattle.std.specs.Prelude.{ℕ, ◌-◌, ◌≤◌, ◌<◌, Bool, cond, List, [], ◌∷◌, ◌≡◌, Option, Some, None, leb, length, take, drop}
use Rattle.terms.specs.Names.{Name}
use Rattle.terms.specs.Characters.{class_of, is_blank, is_alnum, is_digit}
use Rattle.text.specs.Tokens.{lex, number}
use Rattle.text.specs.Grammar.{Rest, Reader, the}
use Rattle.text.specs.Grammar.Rest.{ok, bad}

abbrev pub digit_at : ℕ → Bool
digit_at b = is_digit (class_of b)

-- the bytes past the blanks
unfoldable pub after_blanks : List ℕ → List ℕ
after_blanks [] = []
after_blanks (b ∷ l) = cond (is_blank (class_of b)) (after_blanks l) (b ∷ l)

-- the bytes past the letters and digits, and these themselves
unfoldable pub after_alnum : List ℕ → List ℕ
after_alnum [] = []
after_alnum (b ∷ l) = cond (is_alnum b) (after_alnum l) (b ∷ l)

unfoldable pub alnum_of : List ℕ → Name
alnum_of [] = []
alnum_of (b ∷ l) = cond (is_alnum b) (b ∷ alnum_of l) []

-- the letters and digits from `at` on end at r
pub record Run (s : List ℕ) (at r : ℕ) : Type 0 where
  pub low : at ≤ r
  pub high : at < r → r ≤ length s
  pub rest : drop r s ≡ after_alnum (drop at s)
  pub run : take (r - at) (drop at s) ≡ alnum_of (drop at s)

-- r is the word's number, or both are above 1,000,000
pub record Counted (w : Name) (r : ℕ) : Type 0 where
  pub small : leb r 1_000_000 ≡ leb (number w) 1_000_000
  pub exact : number w ≤ 1_000_000 → r ≡ number w

-- read up to the position r, or not there
abbrev pub ended : List ℕ → Option ℕ → Rest (Unit {0})
ended s None = bad
ended s (Some r) = ok tt (lex (drop r s))

-- a byte that is a token by itself
abbrev pub IsSign : ℕ → Type 0
IsSign c = (l : List ℕ) → the c (lex (c ∷ l)) ≡ ok tt (lex l)

-- ── readers, with what was read forgotten or changed ──
abbrev pub mapped : {A B : Type 0} → (A → B) → Rest A → Rest B
mapped f (ok a ts) = ok (f a) ts
mapped f bad = bad

abbrev pub skim : {A : Type 0} → Reader A → Reader (Unit {0})
skim r ts = mapped (λ a. tt) (r ts)
