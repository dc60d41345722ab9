-- What the code finds at a position of a text s, where the tokens from there on are known.
-- Serves inner contracts only.
use Rattle.std.specs.Prelude.{ℕ, zero, suc, ◌+◌, ◌≤◌, min, List, ◌∷◌, Bool, true, false, cond, Option, Some, None, ◌≡◌, ltb, length, drop, set}
use Rattle.terms.specs.Names.{Name}
use Rattle.terms.specs.Terms.{Value}
use Rattle.terms.specs.Terms.Value.{loc, var}
use Rattle.terms.specs.Characters.{is_capital}
use Rattle.terms.specs.Letters.{first_is}
use Rattle.text.specs.Tokens.{Token, lex, opens, closes, comma}
use Rattle.text.specs.Tokens.Token.{sign}
use Rattle.text.specs.Syntax.{Span}
use Rattle.text.specs.Tree.{timer_of}
use Rattle.text.specs.Grammar.{next}
use Rattle.text.specs.Write.{value_t, joined_t, list_t}
use Rattle.text.specs.WellFormed.{Each, WellValue}
use Rattle.table.specs.declared.Key.{Key}
use Rattle.table.specs.Words.{locs_at, own_at}
use Rattle.table.specs.Tests.{key_name}
use Rattle.table.specs.Valid.{index}
use Rattle.text_build.specs.declared.Scope.{Scope}
use Rattle.text_build.specs.Keys.{key_of}
use Rattle.text_build.specs.Tables.{held_in, number_in, enlist, key_words}
use Rattle.text_build.specs.Rows.{scope_names, timer_word}
use Rattle.text_build.specs.Put.{offsets, arg_numbers, enter_values, first₄}
use Rattle.text_put.specs.declared.Named.{Named}
use Rattle.text_put.specs.declared.Timed.{Timed}
use Rattle.text_put.specs.declared.Pair.{Pair}
use Rattle.text_put.specs.declared.Front.{Front}
use Rattle.text_put.specs.declared.Args.{Args}

-- something was read, and P holds of it
abbrev pub Gives : {A : Type 0} → (A → Type 0) → Option A → Type 0
Gives P None = ⊥
Gives P (Some r) = P r

-- the word x, before the tokens us
pub record NameIs (s : List ℕ) (r : Named) (x : Name) (us : List Token) : Type 0 where
  pub left : lex (drop r.end s) ≡ us
  pub key : r.key ≡ key_of x
  pub capital : r.capital ≡ first_is is_capital x

pub record TimerIs (s : List ℕ) (r : Timed) (t : Span) (us : List Token) : Type 0 where
  pub left : lex (drop r.end s) ≡ us
  pub timer : r.t ≡ timer_word (timer_of t)

pub record PairIs (s : List ℕ) (r : Pair) (t : Span) (x : Name) (us : List Token) : Type 0 where
  pub left : lex (drop r.end s) ≡ us
  pub timer : r.t ≡ timer_word (timer_of t)
  pub key : r.key ≡ key_of x
  pub capital : r.capital ≡ first_is is_capital x

pub record FrontIs (s : List ℕ) (r : Front) (c : Name) (t : Span) (x : Name) (us : List Token) : Type 0 where
  pub left : lex (drop r.end s) ≡ us
  pub chan : r.chan ≡ key_of c
  pub timer : r.t ≡ timer_word (timer_of t)
  pub key : r.key ≡ key_of x
  pub capital : r.capital ≡ first_is is_capital x

-- the name of a value, and whether it is a location
abbrev pub name_of : Value → Name
name_of (loc l) = l
name_of (var x) = x

abbrev pub is_loc : Value → Bool
is_loc (loc l) = true
is_loc (var x) = false

-- the number of a value by its name, and the script with it entered: a location is entered, a variable has a slot
abbrev pub number_by : List ℕ → Scope → Key → Bool → ℕ
number_by w sc k b = cond b (number_in w locs_at (held_in w 1) (key_name k)) (64 + index (scope_names w (offsets sc)) (key_name k))

abbrev pub enter_by : List ℕ → Key → Bool → List ℕ
enter_by w k b = cond b (enlist w locs_at 1 k) w

pub record ValueBy (w v : List ℕ) (sc : Scope) (k : Key) (b : Bool) (r : ℕ) : Type 0 where
  pub number : r ≡ number_by w sc k b
  pub after : v ≡ enter_by w k b

-- ── an input's name, whose slot is j ──
-- the scope of its P: the name that the part at i binds is entered if it is not there, and there is space
abbrev pub entered_by : Scope → ℕ → ℕ → Scope
entered_by sc i j = cond (ltb j sc.n) sc (cond (ltb sc.n 8) (record { n = sc.n + 1; at = set sc.at sc.n (own_at i) }) sc)

-- a ninth is noted
abbrev pub marked_by : List ℕ → Scope → ℕ → List ℕ
marked_by w sc j = cond (ltb j sc.n) w (cond (ltb sc.n 8) w (set w 4 1))

pub record Marked (w v : List ℕ) (sc : Scope) (k : Key) (j r : ℕ) : Type 0 where
  pub after : v ≡ marked_by w sc j
  pub slot : r ≡ index (scope_names v (offsets sc)) (key_name k)
  pub few : r ≤ 8

-- the words k with the word number n, if it is one of four, replaced
abbrev pub with_word : Key → ℕ → ℕ → Key
with_word k zero v = record { a = v; b = k.b; c = k.c; d = k.d }
with_word k (suc zero) v = record { a = k.a; b = v; c = k.c; d = k.d }
with_word k (suc (suc zero)) v = record { a = k.a; b = k.b; c = v; d = k.d }
with_word k (suc (suc (suc zero))) v = record { a = k.a; b = k.b; c = k.c; d = v }
with_word k (suc (suc (suc (suc n)))) v = k

-- values joined by commas and closed by `)` stand at a position of the text
pub record ValuesAt (s : List ℕ) (at : ℕ) : Type 0 where
  pub first : Value
  pub more : List Value
  pub left : List Token
  pub is : lex (drop at s) ≡ joined_t comma value_t first more (sign closes ∷ left)
  pub well : Each WellValue (first ∷ more)

abbrev pub values_of : {s : List ℕ} {at : ℕ} → ValuesAt s at → List Value
values_of x = x.first ∷ x.more

-- nothing, or values in brackets
pub record ListAt (s : List ℕ) (at : ℕ) : Type 0 where
  pub what : List Value
  pub left : List Token
  pub is : lex (drop at s) ≡ list_t value_t what left
  pub well : Each WellValue what
  pub over : next opens left ≡ false

-- the arguments vs of a call, before the tokens us
pub record ArgsAre (s w v : List ℕ) (sc : Scope) (r : Args) (vs : List Value) (us : List Token) : Type 0 where
  pub left : lex (drop r.end s) ≡ us
  pub count : r.n ≡ min (length vs) 5
  pub words : key_words r.first ≡ first₄ (arg_numbers w sc vs)
  pub after : v ≡ enter_values w vs
