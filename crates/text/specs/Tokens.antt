-- Tokens and numbers: document 01, *Reading*, and the timers of *The term and the network*.
use Rattle.std.specs.Prelude.{ℕ, zero, suc, ◌+◌, ◌-◌, ◌*◌, ◌/◌, ◌%◌, List, [], ◌∷◌, ◌++◌, Bool, true, false, ◌&&◌, not, eqb, leb, ltb}
use Rattle.terms.specs.Names.{Name, same_name}
use Rattle.terms.specs.Same.{every}
use Rattle.terms.specs.Rules.{some}
use Rattle.terms.specs.Characters.Class.{capital, small, digit, bracket, blank, other}
use Rattle.terms.specs.Characters.{Class, class_of, is_digit}
use Rattle.terms.specs.Letters.{member, is_name, is_location, is_small, is_identifier}

-- ── tokens: a longest run of letters and digits, or any other byte that is no blank ──
-- Splitting into tokens never fails. A byte that no form has is a sign that no rule of the grammar accepts.
pub data Token : Type 0 where
  word : Name → Token
  sign : ℕ → Token

-- the word w, if there is one, before ts
abbrev pub flush : Name → List Token → List Token
flush [] ts = ts
flush (b ∷ w) ts = word (b ∷ w) ∷ ts

-- b comes after the letters and digits w; k gives the tokens that follow
abbrev pub step : Class → Name → ℕ → (Name → List Token) → List Token
step capital w b k = k (w ++ (b ∷ []))
step small w b k = k (w ++ (b ∷ []))
step digit w b k = k (w ++ (b ∷ []))
step bracket w b k = flush w (sign b ∷ k [])
step blank w b k = flush w (k [])
step other w b k = flush w (sign b ∷ k [])

unfoldable pub lex_from : Name → List ℕ → List Token
lex_from w [] = flush w []
lex_from w (b ∷ bs) = step (class_of b) w b (λ v. lex_from v bs)

-- blanks may stand between tokens, before the first and after the last
abbrev pub lex : List ℕ → List Token
lex s = lex_from [] s

-- the signs ( ) [ ] , | . =
abbrev pub opens : ℕ
opens = 40

abbrev pub closes : ℕ
closes = 41

abbrev pub left : ℕ
left = 91

abbrev pub right : ℕ
right = 93

abbrev pub comma : ℕ
comma = 44

abbrev pub bar : ℕ
bar = 124

abbrev pub dot : ℕ
dot = 46

abbrev pub equals : ℕ
equals = 61

-- ── numbers ──
-- the number that the digits w stand for, after the number n
unfoldable pub number_from : ℕ → Name → ℕ
number_from n [] = n
number_from n (b ∷ w) = number_from (10 * n + (b - 48)) w

abbrev pub number : Name → ℕ
number w = number_from 0 w

-- not empty, and no leading zero
abbrev pub plain : Name → Bool
plain [] = false
plain (b ∷ []) = true
plain (b ∷ c ∷ w) = not (eqb b 48)

-- a whole number from 0 to 1,000,000; one of any number of digits above that is none
unfoldable pub is_ticks : Name → Bool
is_ticks w = plain w && every (λ b. is_digit (class_of b)) w && leb (number w) 1_000_000

-- the digits of n, the last one apart, where k gives those of a lesser number
abbrev pub last_digit : Bool → ℕ → (ℕ → Name) → Name
last_digit true n k = (48 + n) ∷ []
last_digit false n k = k (n / 10) ++ ((48 + n % 10) ∷ [])

-- f bounds the number of digits less one
unfoldable pub digits_of : ℕ → ℕ → Name
digits_of zero n = (48 + n) ∷ []
digits_of (suc f) n = last_digit (ltb n 10) n (digits_of f)

abbrev pub digits : ℕ → Name
digits n = digits_of n n

-- all of the above, for `unfolding tokenwise`
unfoldable pub tokenwise : Unit {0}
unfolding same_name every some class_of lex_from member is_name is_location is_small is_identifier number_from is_ticks digits_of
tokenwise = tt
