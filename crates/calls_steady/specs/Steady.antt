-- Which components are still one component after a step or a tick at l, whatever they do there. Where all are, question 13 is answered by yes, and no copy of
-- the components is kept. It looks at no timer and at no partner, so it may say no of one that would stay one.
-- Serves inner contracts only.
use Rattle.std.specs.Prelude.{ℕ, List, Bool, true, cond, ◌&&◌, eqb, ltb}
use Rattle.table.specs.declared.Comp.{Comp}
use Rattle.table.specs.declared.Head.{Head}
use Rattle.table.specs.declared.Head.TheVariants.{Stop, Go, Out, In, Call}
use Rattle.table.specs.Words.{body_of, head_at, next_at}

-- has the tick at l anything to do with c?
unfoldable pub touches : ℕ → Comp → Bool
touches l c = cond (ltb c.mark 64) (eqb c.mark l) (eqb c.loc l)

-- the process at the place i has one part
unfoldable pub one_part : List ℕ → ℕ → Bool
one_part w i = eqb (next_at w i) 0

-- whatever a part with this head becomes, by its action or by a tick
unfoldable pub leaves_one : List ℕ → Head → Bool
leaves_one w Stop = true
leaves_one w (Go t v p) = one_part w p
leaves_one w (Out h t v p q) = one_part w p && one_part w q
leaves_one w (In h t k p q) = one_part w p && one_part w q
leaves_one w (Call d n) = one_part w (body_of w d)

-- a marked component splits at a tick where it acted, an unmarked one acts or ticks where it stands
unfoldable pub stays_one : List ℕ → ℕ → Comp → Bool
stays_one w l c =
    cond (ltb c.mark 64)
    (cond (eqb c.mark l) (one_part w c.place) true)
    (cond (eqb c.loc l) (leaves_one w (head_at w c.place)) true)
