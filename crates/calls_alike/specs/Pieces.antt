-- The pieces in which two parts of the table are compared: what stands before the inner processes, and these.
-- Serves inner contracts only.
use Rattle.std.specs.Prelude.{ℕ, ◌+◌, ◌-◌, List, [], ◌∷◌, map, true, cond, ◌≡◌, ltb, get_or}
use Rattle.terms.specs.Terms.{Value, Part, Process}
use Rattle.terms.specs.Terms.Value.{loc, var}
use Rattle.terms.specs.Terms.Part.{stop, go, out, inp, call}
use Rattle.terms.specs.Terms.Process.{one}
use Rattle.terms.specs.Same.{every}
use Rattle.terms.specs.Clock.{ticks_of}
use Rattle.table.specs.Words.{name_at, loc_name, def_name, field, names_at, args_at, kind_field, name_field, slot_field, value_field}
use Rattle.table.specs.Valid.{ref_ok}
use Rattle.text_process.specs.Values.{value_seen, part_seen}

-- ── a part in two pieces ──
abbrev pub halt : Process
halt = one stop

-- a part with `stop` for each inner process
unfoldable pub opening : Part → Part
opening stop = stop
opening (go t v p) = go t v halt
opening (out c t v p q) = out c t v halt halt
opening (inp c t y p q) = inp c t y halt halt
opening (call i vs) = call i vs

-- the inner processes of a part, in order
unfoldable pub inner : Part → List Process
inner stop = []
inner (go t v p) = p ∷ []
inner (out c t v p q) = p ∷ q ∷ []
inner (inp c t y p q) = p ∷ q ∷ []
inner (call i vs) = []

-- the kind of the part at a place: 0 stop, 1 go, 2 out, 3 in, 4 call
abbrev pub kind_at : List ℕ → ℕ → ℕ
kind_at w i = field w i kind_field

-- ── values ──
-- the location that a value's slot holds, or the value's own word where it holds none
unfoldable pub resolved : List ℕ → ℕ → ℕ
resolved vs a =
    cond (ltb a 64) a
    (cond (ltb 7 (a - 64)) a
    (cond (ltb (get_or vs (a - 64) 0) 64) (get_or vs (a - 64) 0) a))

-- what a resolved word stands for at a place: a location, or the variable of its slot
unfoldable pub named : List ℕ → ℕ → ℕ → Value
named w i a = cond (ltb a 64) (loc (loc_name w a)) (var (name_at w (field w i (slot_field + (a - 64)))))

-- the value of the part at a place is in range
abbrev pub ValueOk : List ℕ → ℕ → Type 0
ValueOk w i = ref_ok w (names_at w i) (field w i value_field) ≡ true

-- the first n arguments of a call are in range, and what these stand for
abbrev pub ArgsOk : List ℕ → ℕ → ℕ → Type 0
ArgsOk w i n = every (ref_ok w (names_at w i)) (args_at w i n) ≡ true

unfoldable pub args_seen : List ℕ → ℕ → List ℕ → ℕ → List Value
args_seen w i vs n = map (value_seen w i vs) (args_at w i n)

-- ── parts under the values of the slots ──
-- a call; a `go` with the timer t, up to its process; the inner processes of a part, whatever its timer
unfoldable pub call_seen : List ℕ → ℕ → List ℕ → Part
call_seen w i vs = call (def_name w (field w i name_field)) (args_seen w i vs (field w i value_field))

unfoldable pub go_seen : List ℕ → ℕ → ℕ → List ℕ → Part
go_seen w i t vs = go (ticks_of t) (value_seen w i vs (field w i value_field)) halt

unfoldable pub inner_seen : List ℕ → ℕ → List ℕ → List Process
inner_seen w i vs = inner (part_seen w i 0 vs)
