-- What the second pass of reading writes: for a process at a place, the rows of its parts in text order from that place down.
-- A part's P lies directly below it, its Q directly below P's last row, the next part of its process directly below these.
-- Names are written as numbers: a location, a channel or an identifier by its position among those that the script holds, a variable by its
-- slot, the first index of its name in the scope. A name that is not there gets the number behind the last one: questions 6 and 7 find it.
use Rattle.std.specs.Prelude.{ℕ, suc, ◌+◌, ◌-◌, min, List, [], ◌∷◌, ◌++◌, map, Bool, true, cond, ◌&&◌, ◌≡◌, eqb, leb, ltb, length, get_or}
use Rattle.terms.specs.Names.{Name}
use Rattle.terms.specs.Terms.{Timer, Value, Part, Process}
use Rattle.terms.specs.Terms.Timer.{ticks, inf}
use Rattle.terms.specs.Terms.Value.{loc, var}
use Rattle.terms.specs.Terms.Part.{stop, go, out, inp, call}
use Rattle.terms.specs.Terms.Process.{one, ◌∥◌}
use Rattle.terms.specs.Same.{every}
use Rattle.terms.specs.Letters.{is_small}
use Rattle.text.specs.Questions.{Place}
use Rattle.table.specs.declared.Head.{Head}
use Rattle.table.specs.declared.Head.TheVariants.{Stop, Go, Out, In, Call}
use Rattle.table.specs.Words.{locs_in, chans_in, defs_in, name_at, loc_name, chan_name, def_name, arity_of, field, head_at, next_at, low_at, own_at, bound_at, scope_at, arg_words, count_field, kind_field}
use Rattle.table.specs.Meaning.{list_from}
use Rattle.table.specs.Valid.{index}
use Rattle.table.specs.Size.{size, size_p}

-- ── the names that a script holds, by number ──
unfoldable pub locs_of : List ℕ → List Name
locs_of w = list_from 0 (locs_in w) (loc_name w)

unfoldable pub chans_of : List ℕ → List Name
chans_of w = list_from 0 (chans_in w) (chan_name w)

unfoldable pub ids_of : List ℕ → List Name
ids_of w = list_from 0 (defs_in w) (def_name w)

-- the names that stand at the words os
abbrev pub scope_names : List ℕ → List ℕ → List Name
scope_names w os = map (name_at w) os

-- ── the words of a part ──
unfoldable pub timer_word : Timer → ℕ
timer_word (ticks n) = n
timer_word inf = 1_000_001

-- where the names ys are in scope
unfoldable pub value_word : List ℕ → List Name → Value → ℕ
value_word w ys (loc l) = index (locs_of w) l
value_word w ys (var x) = 64 + index ys x

abbrev pub arg_word : List ℕ → List Name → List Value → ℕ → ℕ
arg_word w ys vs k = get_or (map (value_word w ys) vs) k 0

abbrev pub four_words : List ℕ → List Name → List Value → List ℕ
four_words w ys vs = arg_word w ys vs 0 ∷ arg_word w ys vs 1 ∷ arg_word w ys vs 2 ∷ arg_word w ys vs 3 ∷ []

-- the place of a part's P, and that of its Q
abbrev pub first_place : ℕ → ℕ
first_place i = i - 1

abbrev pub second_place : ℕ → Process → ℕ
second_place i p = i - 1 - size_p p

-- (a call's number of arguments stops at 5: question 6 finds more than 4)
unfoldable pub head_of : List ℕ → ℕ → List Name → Part → Head
head_of w i ys stop = Stop
head_of w i ys (go t v p) = Go (timer_word t) (value_word w ys v) (first_place i)
head_of w i ys (out c t v p q) = Out (index (chans_of w) c) (timer_word t) (value_word w ys v) (first_place i) (second_place i p)
head_of w i ys (inp c t y p q) = In (index (chans_of w) c) (timer_word t) (index ys y) (first_place i) (second_place i p)
head_of w i ys (call d vs) = Call (index (ids_of w) d) (min (length vs) 5)

-- the scope of the P of an input at i that binds y: its name is entered if it is not there
unfoldable pub entering : List ℕ → ℕ → List ℕ → Name → List ℕ
entering w i os y = cond (ltb (index (scope_names w os) y) (length os)) os (os ++ (own_at i ∷ []))

-- the words for the arguments of a call, and none of another part
unfoldable pub args_of : List ℕ → List Name → Part → List ℕ
args_of w ys stop = []
args_of w ys (go t v p) = []
args_of w ys (out c t v p q) = []
args_of w ys (inp c t y p q) = []
args_of w ys (call d vs) = four_words w ys vs

unfoldable pub of_call : Head → List ℕ → List ℕ
of_call Stop xs = []
of_call (Go t v p) xs = []
of_call (Out c t v p q) xs = []
of_call (In c t k p q) xs = []
of_call (Call d n) xs = xs

-- the row at i holds the head h with the arguments xs if it is a call, the next part n, the least place l, and the scope os
pub record Row (w : List ℕ) (i : ℕ) (h : Head) (xs : List ℕ) (n l : ℕ) (os : List ℕ) : Type 0 where
  pub kind : leb (field w i kind_field) 4 ≡ true
  pub head : head_at w i ≡ h
  pub args : of_call h (arg_words w i) ≡ of_call h xs
  pub next : next_at w i ≡ n
  pub low : low_at w i ≡ l
  pub few : leb (field w i count_field) 8 ≡ true
  pub scope : scope_at w i ≡ os

-- ── the rows of a process ──
abbrev mutual
  -- what stands below the part at i
  pub Below : List ℕ → Part → ℕ → List ℕ → Type 0
  Below w stop i os = Unit {0}
  Below w (go t v p) i os = Stands w p (first_place i) os
  Below w (out c t v p q) i os = Stands w p (first_place i) os × Stands w q (second_place i p) os
  Below w (inp c t y p q) i os = (bound_at w i ≡ y) × Stands w p (first_place i) (entering w i os y) × Stands w q (second_place i p) os
  Below w (call d vs) i os = Unit {0}

  -- the process stands at i, with the names at os in scope
  pub Stands : List ℕ → Process → ℕ → List ℕ → Type 0
  Stands w (one a) i os = Row w i (head_of w i (scope_names w os) a) (args_of w (scope_names w os) a) 0 (suc i - size a) os × Below w a i os
  Stands w (a ∥ p) i os =
      Row w i (head_of w i (scope_names w os) a) (args_of w (scope_names w os) a) (suc (i - size a)) (suc i - (size a + size_p p)) os × Below w a i os × Stands w p (i - size a) os

-- ── what the script must hold for the part of a place, so that its numbers stand for its names ──
unfoldable pub timed : Timer → Bool
timed (ticks n) = leb n 1_000_000
timed inf = true

unfoldable pub value_known : List ℕ → List Name → Value → Bool
value_known w ys (loc l) = ltb (index (locs_of w) l) (locs_in w)
value_known w ys (var x) = ltb (index ys x) (length ys)

unfoldable pub chan_known : List ℕ → Name → Bool
chan_known w c = ltb (index (chans_of w) c) (chans_in w)

-- a held definition with as many parameters
unfoldable pub call_known : List ℕ → Name → List Value → Bool
call_known w d vs =
    ltb (index (ids_of w) d) (defs_in w) && (eqb (length vs) (arity_of w (index (ids_of w) d)) && leb (length vs) 4)

unfoldable pub part_known : List ℕ → List Name → Part → Bool
part_known w ys stop = true
part_known w ys (go t v p) = timed t && value_known w ys v
part_known w ys (out c t v p q) = chan_known w c && (timed t && value_known w ys v)
part_known w ys (inp c t y p q) = chan_known w c && (timed t && is_small y)
part_known w ys (call d vs) = call_known w d vs && every (value_known w ys) vs

unfoldable pub place_known : List ℕ → Place → Bool
place_known w x = part_known w x.scope x.part
