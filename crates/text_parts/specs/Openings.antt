-- A part up to its first process, with the tree forgotten: what the code reads before the two readers call each other.
-- Serves inner contracts only.
use Rattle.std.specs.Prelude.{Bool}
use Rattle.terms.specs.Names.{Name}
use Rattle.terms.specs.Letters.{is_small, is_identifier}
use Rattle.text.specs.Tokens.{opens, comma}
use Rattle.text.specs.Grammar.{Reader, bind, give, fail, the, a_word, named, list_of, a_timer, a_value, Head, head_of, ◌>>=◌, ◌>>◌}
use Rattle.text.specs.Grammar.Head.{stops, goes, sends, receives, calls, nothing}
use Rattle.text_words.specs.Bytes.{skim}
use Rattle.text_words.specs.Sorts.{is_timer}

-- the part is over, or one or two processes are to come
pub data Opening : Type 0 where
  leaf single double : Opening

-- the grammar's `comm_form` and `part_form` up to the first process
abbrev pub comm_open : {A : Type 0} → Reader A → Reader Opening
comm_open r = do
  the opens
  skim (named is_small)
  the comma
  skim a_timer
  the comma
  skim r
  the comma
  give double

abbrev pub open_form : Head → Reader Opening
open_form stops = give leaf
open_form goes = do
  the opens
  skim a_timer
  the comma
  skim a_value
  the comma
  give single
open_form sends = comm_open a_value
open_form receives = comm_open (named is_small)
open_form calls = do
  skim (list_of a_value)
  give leaf
open_form nothing = fail

unfoldable pub an_opening : Reader Opening
an_opening = do
  w ← a_word
  open_form (head_of w)

-- ── the same field by field ──
-- a word that passes a test, and a comma
abbrev pub field_form : (Name → Bool) → Reader (Unit {0})
field_form p ts = bind (skim (named p) ts) (λ u. the comma)

abbrev pub go_form : Reader Opening
go_form = do
  the opens
  field_form is_timer
  field_form is_identifier
  give single

-- a timer and a word, each with its comma
abbrev pub pair_form : (Name → Bool) → Reader (Unit {0})
pair_form p ts = bind (field_form is_timer ts) (λ u. field_form p)

abbrev pub comm_form : (Name → Bool) → Reader Opening
comm_form p = do
  the opens
  field_form is_small
  pair_form p
  give double
