-- The tick, one component written at a time: what the contracts of `pass` cite.
-- Serves inner contracts only.
use Rattle.std.specs.Prelude.{ℕ, zero, suc, ◌<◌, Option, Some, None, List, [], ◌∷◌, ◌++◌, Bool, true, false, cond, not, eqb, ltb}
use Rattle.terms.specs.Clock.{less_raw}
use Rattle.table.specs.declared.Comp.{Comp}
use Rattle.table.specs.declared.Head.{Head}
use Rattle.table.specs.declared.Head.TheVariants.{Stop, Go, Out, In, Call}
use Rattle.table.specs.Words.{head_at, next_at}
use Rattle.table.specs.Split.{fresh, split_at, timed, expired_at, passed}
use Rattle.table.specs.Fire.{passed_all}
use Rattle.calls_pass.specs.declared.Turn.{Turn}

-- a component that is written whole, and is then done with
abbrev pub whole : Comp → Turn
whole d = record { comp = d; next = None }

-- the place of the next part, where a part says of it 0 for none, or the place and one
abbrev pub place_of : ℕ → Option ℕ
place_of zero = None
place_of (suc j) = Some j

-- a place that comes next, if there is one, is below n
abbrev pub Within : ℕ → Option ℕ → Type 0
Within n None = Unit {0}
Within n (Some j) = j < n

-- how many components are done with by a turn after which this part comes next
abbrev pub step_of : Option ℕ → ℕ
step_of None = 1
step_of (Some j) = 0

-- the part of c at the place j, and then the next one
abbrev pub part_of : List ℕ → Comp → ℕ → Turn
part_of w c j = record { comp = fresh w c.loc c.vals j; next = place_of (next_at w j) }

-- an `in` or `out` with its Q at q
unfoldable pub else_turn : List ℕ → Comp → ℕ → Turn
else_turn w c q = cond (expired_at w c) (part_of w c q) (whole (timed c (less_raw c.timer)))

-- a component that is ready where the tick is, with the head h
unfoldable pub wait_turn : List ℕ → Comp → Head → Turn
wait_turn w c Stop = whole c
wait_turn w c (Go t v p) = whole (timed c (less_raw c.timer))
wait_turn w c (Out d t v p q) = else_turn w c q
wait_turn w c (In d t k p q) = else_turn w c q
wait_turn w c (Call d n) = whole c

-- the first turn of a component that the tick touches
unfoldable pub touched_turn : List ℕ → Comp → Turn
touched_turn w c = cond (ltb c.mark 64) (part_of w c c.place) (wait_turn w c (head_at w c.place))

-- a ready component with the head h, where the tick is: its timer is lowered or kept, and that is all
unfoldable pub only_waits : List ℕ → Comp → Head → Bool
only_waits w c Stop = false
only_waits w c (Go t v p) = true
only_waits w c (Out d t v p q) = not (expired_at w c)
only_waits w c (In d t k p q) = not (expired_at w c)
only_waits w c (Call d n) = false

unfoldable pub waits_on : List ℕ → Comp → Bool
waits_on w c = cond (ltb c.mark 64) false (only_waits w c (head_at w c.place))

-- the first turn of a component in the tick at l
unfoldable pub first_turn : List ℕ → ℕ → Comp → Turn
first_turn w l c =
    cond (ltb c.mark 64)
    (cond (eqb c.mark l) (part_of w c c.place) (whole c))
    (cond (eqb c.loc l) (wait_turn w c (head_at w c.place)) (whole c))

-- the turn of c where the parts from the place j on are left of it; or its first turn
unfoldable pub turn_of : List ℕ → ℕ → Comp → Option ℕ → Turn
turn_of w l c None = first_turn w l c
turn_of w l c (Some j) = part_of w c j

-- what is left to be written of c
unfoldable pub rest_of : List ℕ → ℕ → Comp → Option ℕ → List Comp
rest_of w l c None = passed w l c
rest_of w l c (Some j) = split_at w c.loc c.vals j

-- what is left to be written of components of which the first has had its turns up to next
unfoldable pub remaining : List ℕ → ℕ → List Comp → Option ℕ → List Comp
remaining w l [] next = []
remaining w l (c ∷ cs) next = rest_of w l c next ++ passed_all w l cs
