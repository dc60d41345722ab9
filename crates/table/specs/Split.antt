-- What a tick makes of the components that it splits, ticks or lets pass, on the table. Document 01, *The tick at l*; Meaning says what these stand for.
-- Serves inner contracts only.
use Rattle.std.specs.Prelude.{ℕ, zero, suc, List, [], ◌∷◌, Bool, cond, eqb, ltb}
use Rattle.terms.specs.Terms.{expired, due}
use Rattle.terms.specs.Clock.{ticks_of, less_raw, edition_of}
use Rattle.waits.specs.Waits.{longer}
use Rattle.table.specs.declared.Head.{Head}
use Rattle.table.specs.declared.Head.TheVariants.{Stop, Go, Out, In, Call}
use Rattle.table.specs.declared.Comp.{Comp}
use Rattle.table.specs.Words.{edition_in, head_at, next_at}

-- a part's own timer; 0 where it has none
unfoldable pub timer_in : Head → ℕ
timer_in Stop = 0
timer_in (Go t v p) = t
timer_in (Out c t v p q) = t
timer_in (In c t k p q) = t
timer_in (Call d n) = 0

-- the part at a place as a component of its own, unmarked, with the timer that it is written with; it has not waited yet
unfoldable pub fresh : List ℕ → ℕ → List ℕ → ℕ → Comp
fresh w l vs i = record { loc = l; mark = 64; place = i; timer = timer_in (head_at w i); vals = vs; wait = 0 }

unfoldable pub and_then : (ℕ → List Comp) → ℕ → List Comp
and_then f zero = []
and_then f (suc j) = f j

-- the parts of the process at a place, from left to right; at most n
unfoldable pub parts_from : List ℕ → ℕ → List ℕ → ℕ → ℕ → List Comp
parts_from w l vs zero i = []
parts_from w l vs (suc n) i = fresh w l vs i ∷ and_then (parts_from w l vs n) (next_at w i)

unfoldable pub split_at : List ℕ → ℕ → List ℕ → ℕ → List Comp
split_at w l vs i = parts_from w l vs (suc i) i

-- the component after a tick that lowers or keeps its timer, which is t then: it has waited one tick more
unfoldable pub timed : Comp → ℕ → Comp
timed c t = record { loc = c.loc; mark = c.mark; place = c.place; timer = t; vals = c.vals; wait = longer c.wait }

-- The tests of a component's timer are those of the timer that it stands for: a ready `in` or `out` that takes its Q under the script's edition, a ready `go` that must move.
unfoldable pub expired_at : List ℕ → Comp → Bool
expired_at w c = expired (edition_of (edition_in w)) (ticks_of c.timer)

unfoldable pub due_at : Comp → Bool
due_at c = due (ticks_of c.timer)

-- an `in` or `out` with its Q at q
unfoldable pub or_else : List ℕ → Comp → ℕ → List Comp
or_else w c q = cond (expired_at w c) (split_at w c.loc c.vals q) (timed c (less_raw c.timer) ∷ [])

-- a component that is ready where the tick is
unfoldable pub waited : List ℕ → Comp → Head → List Comp
waited w c Stop = c ∷ []
waited w c (Go t v p) = timed c (less_raw c.timer) ∷ []
waited w c (Out d t v p q) = or_else w c q
waited w c (In d t k p q) = or_else w c q
waited w c (Call d n) = c ∷ []

-- a component in the tick at l
unfoldable pub passed : List ℕ → ℕ → Comp → List Comp
passed w l c =
    cond (ltb c.mark 64)
    (cond (eqb c.mark l) (split_at w c.loc c.vals c.place) (c ∷ []))
    (cond (eqb c.loc l) (waited w c (head_at w c.place)) (c ∷ []))
