-- A part up to its first process: what is written of it, and what is left to read; parts and processes put into their rows.
-- Serves inner contracts only.
use Rattle.std.specs.Prelude.{ℕ, suc, ◌-◌, List, ◌∷◌, false, ◌≡◌, drop}
use Rattle.terms.specs.Names.{Name, bytes}
use Rattle.terms.specs.Terms as T
use Rattle.terms.specs.Terms.{Value}
use Rattle.text.specs.Tokens.{Token, lex, opens, closes, comma, bar}
use Rattle.text.specs.Tokens.Token.{word, sign}
use Rattle.text.specs.Syntax.{Part, Process}
use Rattle.text.specs.Syntax.Part.{stop, go, out, inp, call}
use Rattle.text.specs.Tree.{settle, settle_p}
use Rattle.text.specs.Grammar.{next}
use Rattle.text.specs.Write.{timer_t, value_t, list_t, part_t, process_t}
use Rattle.text.specs.WellFormed.{WellPart, WellProcess}
use Rattle.text_parts.specs.declared.Form.{Form}
use Rattle.text_parts.specs.declared.Form.TheVariants.{Leaf, One, Two}
use Rattle.text_words.specs.declared.Sort.{Sort}
use Rattle.text_words.specs.Sorts.{sort_of}
use Rattle.table.specs.declared.Key.{Key}
use Rattle.table.specs.Size.{size, size_p}
use Rattle.text_build.specs.declared.Scope.{Scope}
use Rattle.text_build.specs.Keys.{key_of}
use Rattle.text_build.specs.Put.{opened, inner_scope, scope_mark, put_part, put}
use Rattle.text_put.specs.declared.Open.{Open}
use Rattle.text_put.specs.declared.Placed.{Placed}

-- ── a part or a process stands at a position of the text ──
pub record PartAt (s : List ℕ) (at : ℕ) : Type 0 where
  pub what : Part
  pub left : List Token
  pub is : lex (drop at s) ≡ part_t what left
  pub well : WellPart (settle what)
  pub over : next opens left ≡ false

pub record ProcessAt (s : List ℕ) (at : ℕ) : Type 0 where
  pub what : Process
  pub left : List Token
  pub is : lex (drop at s) ≡ process_t what left
  pub well : WellProcess (settle_p what)
  pub over : next opens left ≡ false
  pub last : next bar left ≡ false

-- ── what is left of a part behind what was read of it ──
abbrev pub rest : Part → List Token → List Token
rest stop us = us
rest (go t v p) us = process_t p (sign closes ∷ us)
rest (out c t v p q) us = process_t p (sign comma ∷ process_t q (sign closes ∷ us))
rest (inp c t y p q) us = process_t p (sign comma ∷ process_t q (sign closes ∷ us))
rest (call d vs) us = us

-- a part's first word, and the part's tokens behind it
abbrev pub head_name : Part → Name
head_name stop = bytes "stop"
head_name (go t v p) = bytes "go"
head_name (out c t v p q) = bytes "out"
head_name (inp c t y p q) = bytes "in"
head_name (call d vs) = d

abbrev pub tail_t : Part → List Token → List Token
tail_t stop us = us
tail_t (go t v p) us = sign opens ∷ timer_t t (sign comma ∷ value_t v (sign comma ∷ rest (go t v p) us))
tail_t (out c t v p q) us = sign opens ∷ word c ∷ sign comma ∷ timer_t t (sign comma ∷ value_t v (sign comma ∷ rest (out c t v p q) us))
tail_t (inp c t y p q) us = sign opens ∷ word c ∷ sign comma ∷ timer_t t (sign comma ∷ word y ∷ sign comma ∷ rest (inp c t y p q) us)
tail_t (call d vs) us = list_t value_t vs us

-- the part behind its first word, which is of the sort k and has the letters x
pub record TailAt (s : List ℕ) (at : ℕ) (k : Sort) (x : Key) : Type 0 where
  pub what : Part
  pub left : List Token
  pub is : lex (drop at s) ≡ tail_t what left
  pub well : WellPart (settle what)
  pub over : next opens left ≡ false
  pub sort : k ≡ sort_of (head_name what)
  pub key : x ≡ key_of (head_name what)

-- how many processes a form has, and a part
abbrev pub arms_of : Form → ℕ
arms_of Leaf = 0
arms_of One = 1
arms_of Two = 2

abbrev pub arms : Part → ℕ
arms stop = 0
arms (go t v p) = 1
arms (out c t v p q) = 2
arms (inp c t y p q) = 2
arms (call d vs) = 0

-- the scope of a part's P
abbrev pub within : List ℕ → ℕ → Scope → T.Part → Scope
within w i sc T.stop = sc
within w i sc (T.go t v p) = sc
within w i sc (T.out c t v p q) = sc
within w i sc (T.inp c t y p q) = inner_scope w i sc y
within w i sc (T.call d vs) = sc

-- the script before a part's row is written: a ninth name in scope is noted
abbrev pub noted : List ℕ → Scope → T.Part → List ℕ
noted w sc T.stop = w
noted w sc (T.go t v p) = w
noted w sc (T.out c t v p q) = w
noted w sc (T.inp c t y p q) = scope_mark w sc y
noted w sc (T.call d vs) = w

-- the row of the part's term is written, with its names entered
pub record OpenIs (s w v : List ℕ) (i : ℕ) (sc : Scope) (r : Open) (a : Part) (us : List Token) : Type 0 where
  pub left : lex (drop r.end s) ≡ rest a us
  pub form : arms_of r.form ≡ arms a
  pub inner : r.inner ≡ within w i sc (settle a)
  pub after : v ≡ opened (noted w sc (settle a)) i sc (settle a)

-- ── put ──
pub record PartPut (s w v : List ℕ) (i : ℕ) (sc : Scope) (r : Placed) (a : Part) (us : List Token) : Type 0 where
  pub left : lex (drop r.end s) ≡ us
  pub after : v ≡ put_part (settle a) i sc w
  pub low : r.low ≡ suc i - size (settle a)

pub record ProcessPut (s w v : List ℕ) (i : ℕ) (sc : Scope) (r : Placed) (p : Process) (us : List Token) : Type 0 where
  pub left : lex (drop r.end s) ≡ us
  pub after : v ≡ put (settle_p p) i sc w
  pub low : r.low ≡ suc i - size_p (settle_p p)
