-- Which channels are heard at a location, and what presses there: what the contracts of `forced` cite.
-- Serves inner contracts only.
use Rattle.std.specs.Prelude.{ℕ, ◌<◌, List, Bool, false, cond, ◌&&◌, ◌≡◌, Option, Some, None, get_or}
use Rattle.table.specs.declared.Comp.{Comp}
use Rattle.table.specs.declared.Head.{Head}
use Rattle.table.specs.declared.Head.TheVariants.{Stop, Go, Out, In, Call}
use Rattle.table.specs.Words.{head_at}
use Rattle.table.specs.Fire.{ready_at, sent_on, must_act, heard_at}

-- the channel of an input
unfoldable pub heard_on : Head → Option ℕ
heard_on Stop = None
heard_on (Go t v p) = None
heard_on (Out h t v p q) = None
heard_on (In h t k p q) = Some h
heard_on (Call d n) = None

-- the channel that c hears if it is ready at l
unfoldable pub hears_at : List ℕ → ℕ → Comp → Option ℕ
hears_at w l c = cond (ready_at l c) (heard_on (head_at w c.place)) None

-- the channel of an output; `sent_on` of the table has 64 for none
unfoldable pub sends_on : Head → Option ℕ
sends_on Stop = None
sends_on (Go t v p) = None
sends_on (Out h t v p q) = Some h
sends_on (In h t k p q) = None
sends_on (Call d n) = None

-- ys has the channels that one of cs, ready at l, hears
abbrev pub Heard : List ℕ → ℕ → List Comp → List Bool → Type 0
Heard w l cs ys = (h : ℕ) → h < 64 → get_or ys h false ≡ heard_at w l cs h

-- where ys are heard: must c act before the tick at l?
unfoldable pub pressed_by : List ℕ → ℕ → List Bool → Comp → Bool
pressed_by w l ys c = ready_at l c && must_act w (get_or ys (sent_on (head_at w c.place)) false) c (head_at w c.place)
