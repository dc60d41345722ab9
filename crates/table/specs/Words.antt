-- The words of a script. A script has 111,888 words, written once by reading and then only lent; no content is without a meaning.
--
--   0 .. 7         how many parts, locations, channels and definitions it holds; a word in which reading notes that a name or a variable did not fit, 0 in
--                  what it accepts, and which nothing else looks at; three words not used
--   8 .. 775       32 definitions of 24 words: number of parameters, place of the body, identifier (4), four parameters (4 each), two not used
--   776 .. 1031    64 locations' names of 4 words
--   1032 .. 1287   64 channels' names of 4 words
--   1288 .. 99591  4,096 parts of 24 words
--   99592          the edition
--   99593 .. 99599 not used
--   99600 .. 111887 64 rows of 192 rights, a row for each location: to send and to receive on each of 64 channels, to leave for each of 64 locations;
--                  1 gives the right, any other word does not
--
-- A part: 0 kind; 1 channel or definition; 2 timer; 3 value, an input's slot, or a call's number of arguments; 4 place of P; 5 place of Q;
-- 6 place of the next part of its process and one, or 0; 7 the least place of the process from here on; 8 how many variables are in scope;
-- 9 .. 16 where their names stand; 17 .. 20 a call's arguments, or the name that an input binds; three words not used.
-- A value below 64 is a location; 64 and more is a variable, by its slot: its index in the scope.
use Rattle.std.specs.Prelude.{ℕ, ◌+◌, ◌-◌, ◌*◌, ◌/◌, ◌%◌, List, [], ◌∷◌, map, Bool, false, cond, eqb, leb, get_or, take}
use Rattle.terms.specs.Names.{Name}
use Rattle.terms.specs.Terms.{RightsOf}
use Rattle.table.specs.declared.Head.{Head}
use Rattle.table.specs.declared.Head.TheVariants.{Stop, Go, Out, In, Call}

-- ── the layout's numbers ──
-- how many words a script has, and a state: 256 components, and behind them 16 words for the total, the count of messages and what is spare
abbrev pub script_words : ℕ
script_words = 111_888

abbrev pub state_words : ℕ
state_words = 4_112

-- where the names of locations and of channels begin, and the parts
abbrev pub locs_at : ℕ
locs_at = 776

abbrev pub chans_at : ℕ
chans_at = 1_032

abbrev pub parts_at : ℕ
parts_at = 1_288

-- where the rows of parts end
abbrev pub parts_end : ℕ
parts_end = 99_592

-- where the edition stands, directly behind them
abbrev pub edition_at : ℕ
edition_at = parts_end

-- where the rights begin, how many words the row of a location has, and where in it those to send, to receive and to leave begin
abbrev pub rights_at : ℕ
rights_at = 99_600

abbrev pub rights_size : ℕ
rights_size = 192

abbrev pub send_field : ℕ
send_field = 0

abbrev pub receive_field : ℕ
receive_field = 64

abbrev pub leave_field : ℕ
leave_field = 128

-- where the name that the input at place 0 binds stands
abbrev pub owns_at : ℕ
owns_at = 1_305

-- how many words the row of a part or of a definition has, and a component, of which those from comp_used on are spare
abbrev pub row_size : ℕ
row_size = 24

abbrev pub comp_size : ℕ
comp_size = 16

abbrev pub comp_used : ℕ
comp_used = 13

-- where in a state the two words of the total stand, the low one first, where the count of messages stands, and where what is spare begins
abbrev pub total_at : ℕ
total_at = 4_096

abbrev pub count_at : ℕ
count_at = 4_098

abbrev pub ledger_end : ℕ
ledger_end = 4_099

-- where in the row of definition 0 its number of parameters, the place of its body, its identifier and its four parameters stand
abbrev pub defs_at : ℕ
defs_at = 8

abbrev pub bodies_at : ℕ
bodies_at = 9

abbrev pub ids_at : ℕ
ids_at = 10

abbrev pub first_param : ℕ
first_param = 14

abbrev pub second_param : ℕ
second_param = 18

abbrev pub third_param : ℕ
third_param = 22

abbrev pub fourth_param : ℕ
fourth_param = 26

-- how many words a name has
abbrev pub name_size : ℕ
name_size = 4

-- the words of a part's row, as the head of this file lists them: those of the scope begin at slot_field, those of a call's arguments or of a bound name at arg_field
abbrev pub kind_field : ℕ
kind_field = 0

abbrev pub name_field : ℕ
name_field = 1

abbrev pub timer_field : ℕ
timer_field = 2

abbrev pub value_field : ℕ
value_field = 3

abbrev pub first_field : ℕ
first_field = 4

abbrev pub second_field : ℕ
second_field = 5

abbrev pub next_field : ℕ
next_field = 6

abbrev pub low_field : ℕ
low_field = 7

abbrev pub count_field : ℕ
count_field = 8

abbrev pub slot_field : ℕ
slot_field = 9

abbrev pub arg_field : ℕ
arg_field = 17

-- a name stands before this word: its four words are before the end of the rows of parts
abbrev pub last_name : ℕ
last_name = parts_end - 3

abbrev pub word : List ℕ → ℕ → ℕ
word w i = get_or w i 0

-- ── how many of each, and the edition as a number ──
abbrev pub parts_in : List ℕ → ℕ
parts_in w = word w 0

abbrev pub locs_in : List ℕ → ℕ
locs_in w = word w 1

abbrev pub chans_in : List ℕ → ℕ
chans_in w = word w 2

abbrev pub defs_in : List ℕ → ℕ
defs_in w = word w 3

abbrev pub edition_in : List ℕ → ℕ
edition_in w = word w edition_at

-- ── rights, by the numbers of locations and channels ──
unfoldable pub right_at : List ℕ → ℕ → ℕ → ℕ → Bool
right_at w f l x = eqb (word w (rights_at + l * rights_size + (f + x))) 1

unfoldable pub rights_in : List ℕ → RightsOf ℕ ℕ
rights_in w = record { send = right_at w send_field; receive = right_at w receive_field; leave = right_at w leave_field }

-- ── names: four words of four bytes, the first letter lowest; zeros after the last letter are no letters ──
abbrev pub four_bytes : ℕ → List ℕ → List ℕ
four_bytes a l = (a % 256) ∷ (a / 256 % 256) ∷ (a / 65_536 % 256) ∷ (a / 16_777_216 % 256) ∷ l

abbrev pub is_zero : List ℕ → ℕ → Bool
is_zero [] b = eqb b 0
is_zero (c ∷ l) b = false

unfoldable pub strip : List ℕ → Name
strip [] = []
strip (b ∷ l) = cond (is_zero (strip l) b) [] (b ∷ strip l)

unfoldable pub letters : ℕ → ℕ → ℕ → ℕ → Name
letters a b c d = strip (four_bytes a (four_bytes b (four_bytes c (four_bytes d []))))

-- the name that stands at the word o
unfoldable pub name_at : List ℕ → ℕ → Name
name_at w o = letters (word w o) (word w (o + 1)) (word w (o + 2)) (word w (o + 3))

unfoldable pub loc_name : List ℕ → ℕ → Name
loc_name w l = name_at w (locs_at + l * name_size)

unfoldable pub chan_name : List ℕ → ℕ → Name
chan_name w c = name_at w (chans_at + c * name_size)

-- ── definitions ──
unfoldable pub arity_of : List ℕ → ℕ → ℕ
arity_of w d = word w (defs_at + d * row_size)

unfoldable pub body_of : List ℕ → ℕ → ℕ
body_of w d = word w (bodies_at + d * row_size)

unfoldable pub def_name : List ℕ → ℕ → Name
def_name w d = name_at w (ids_at + d * row_size)

-- where the parameters' names stand
unfoldable pub params_at : List ℕ → ℕ → List ℕ
params_at w d = take (arity_of w d) ((first_param + d * row_size) ∷ (second_param + d * row_size) ∷ (third_param + d * row_size) ∷ (fourth_param + d * row_size) ∷ [])

unfoldable pub params_of : List ℕ → ℕ → List Name
params_of w d = map (name_at w) (params_at w d)

-- ── parts ──
abbrev pub field : List ℕ → ℕ → ℕ → ℕ
field w i k = word w (parts_at + i * row_size + k)

-- a part without its inner processes, which are places, and without a call's arguments, which stand in its row
unfoldable pub head_at : List ℕ → ℕ → Head
head_at w i =
    cond (eqb (field w i kind_field) 1) (Go (field w i timer_field) (field w i value_field) (field w i first_field))
    (cond (eqb (field w i kind_field) 2) (Out (field w i name_field) (field w i timer_field) (field w i value_field) (field w i first_field) (field w i second_field))
    (cond (eqb (field w i kind_field) 3) (In (field w i name_field) (field w i timer_field) (field w i value_field) (field w i first_field) (field w i second_field))
    (cond (eqb (field w i kind_field) 4) (Call (field w i name_field) (field w i value_field))
    Stop)))

-- the arguments of the call at a place: argument k, the four words for them, the first n
abbrev pub arg_at : List ℕ → ℕ → ℕ → ℕ
arg_at w i k = field w i (arg_field + k)

abbrev pub arg_words : List ℕ → ℕ → List ℕ
arg_words w i = arg_at w i 0 ∷ arg_at w i 1 ∷ arg_at w i 2 ∷ arg_at w i 3 ∷ []

abbrev pub args_at : List ℕ → ℕ → ℕ → List ℕ
args_at w i n = take n (arg_words w i)

-- the next part of the process: 0, or its place and one
unfoldable pub next_at : List ℕ → ℕ → ℕ
next_at w i = field w i next_field

unfoldable pub low_at : List ℕ → ℕ → ℕ
low_at w i = field w i low_field

-- where the name that an input binds stands
unfoldable pub own_at : ℕ → ℕ
own_at i = owns_at + i * row_size

unfoldable pub bound_at : List ℕ → ℕ → Name
bound_at w i = name_at w (own_at i)

-- at most 8
abbrev pub at_most8 : ℕ → ℕ
at_most8 n = cond (leb n 8) n 8

-- where the names in scope stand, in order, and the names
unfoldable pub scope_at : List ℕ → ℕ → List ℕ
scope_at w i =
    take (at_most8 (field w i count_field))
    (field w i 9 ∷ field w i 10 ∷ field w i 11 ∷ field w i 12 ∷ field w i 13 ∷ field w i 14 ∷ field w i 15 ∷ field w i 16 ∷ [])

unfoldable pub names_at : List ℕ → ℕ → List Name
names_at w i = map (name_at w) (scope_at w i)
