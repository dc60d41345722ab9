-- A place of the table under the values of some of its slots, as the writer carries them: eight numbers,
-- where one below 64 is the location that the slot holds, and one of 64 or more says that it holds none and its own name is written.
-- Serves inner contracts only.
use Rattle.std.specs.Prelude.{ℕ, ◌<◌, List, [], ◌∷◌, map, true, cond, ◌≡◌, ltb, length}
use Rattle.terms.specs.Names.{Name, same_name}
use Rattle.terms.specs.Terms.{Value, Part, Process}
use Rattle.terms.specs.Substitution.{Held, Env, sub, sub_p, sub_v}
use Rattle.terms.specs.Substitution.Held.{unset, is}
use Rattle.terms.specs.Clock.{ticks_of}
use Rattle.table.specs.Words.{parts_in, loc_name, names_at}
use Rattle.table.specs.Meaning.{value_of, with_timer, part_at, process_at}
use Rattle.table.specs.Valid.{script_ok}

-- what the number of a slot says
unfoldable pub shown : List ℕ → ℕ → Held
shown w v = cond (ltb v 64) (is (loc_name w v)) unset

-- the names of a list with what another list holds for them, in order
unfoldable pub holds : List Name → List Held → Env
holds [] hs x = unset
holds (y ∷ ys) [] x = unset
holds (y ∷ ys) (h ∷ hs) x = cond (same_name y x) h (holds ys hs x)

-- the values vs of the slots for the names in scope at a place
unfoldable pub some_at : List ℕ → ℕ → List ℕ → Env
some_at w i vs = holds (names_at w i) (map (shown w) vs)

-- a value's word at a place, the part at a place with the timer t, and the process at a place, under the values vs
abbrev pub value_seen : List ℕ → ℕ → List ℕ → ℕ → Value
value_seen w i vs v = sub_v (some_at w i vs) (value_of w (names_at w i) v)

unfoldable pub part_seen : List ℕ → ℕ → ℕ → List ℕ → Part
part_seen w i t vs = with_timer (ticks_of t) (sub (part_at w i) (some_at w i vs))

unfoldable pub process_seen : List ℕ → ℕ → List ℕ → Process
process_seen w i vs = sub_p (process_at w i) (some_at w i vs)

-- a place of a script whose parts pass question 17, with eight values
pub record Places (w : List ℕ) (i : ℕ) (vs : List ℕ) : Type 0 where
  pub good : script_ok w ≡ true
  pub within : i < parts_in w
  pub slots : length vs ≡ 8
