-- Marks at places, one for each component that names a place: what the contracts of `marks`, `ears` and `press` cite.
-- Serves inner contracts only.
use Rattle.std.specs.Prelude.{ℕ, ◌+◌, ◌*◌, ◌<◌, List, Bool, false, cond, ◌≡◌, eqb, ltb, Option, Some, None, get_or}
use Rattle.terms.specs.Rules.{some}
use Rattle.table.specs.declared.Comp.{Comp}
use Rattle.table.specs.declared.Head.{Head}
use Rattle.table.specs.declared.Head.TheVariants.{Stop, Go, Out, In, Call}
use Rattle.table.specs.Words.{head_at}
use Rattle.table.specs.Fire.{must_act}
use Rattle.calls_must.specs.Heard.{sends_on}

abbrev pub is_marked : List Bool → ℕ → Bool
is_marked ys k = get_or ys k false

-- the place k is this one
abbrev pub is_place : ℕ → Option ℕ → Bool
is_place k (Some p) = eqb p k
is_place k None = false

-- of the places below n, those are marked in ys that f gives for one of cs
abbrev pub Marked : ℕ → (Comp → Option ℕ) → List Comp → List Bool → Type 0
Marked n f cs ys = (k : ℕ) → k < n → is_marked ys k ≡ some (λ c. is_place k (f c)) cs

-- the place of what a part at the location l hears: its location and channel
unfoldable pub ear_in : ℕ → Head → Option ℕ
ear_in l Stop = None
ear_in l (Go t v p) = None
ear_in l (Out h t v p q) = None
ear_in l (In h t k p q) = Some (l * 64 + h)
ear_in l (Call d n) = None

unfoldable pub ear_of : List ℕ → Comp → Option ℕ
ear_of w c = cond (ltb c.mark 64) None (ear_in c.loc (head_at w c.place))

-- is the channel heard at l, where ys are heard?
abbrev pub is_heard : List Bool → ℕ → Option ℕ → Bool
is_heard ys l (Some h) = is_marked ys (l * 64 + h)
is_heard ys l None = false

-- where ys are heard: must c, which is unmarked and has the head h, act before a tick?
unfoldable pub presses_in : List ℕ → List Bool → Comp → Head → Bool
presses_in w ys c h = must_act w (is_heard ys c.loc (sends_on h)) c h

-- the location of a component that presses
unfoldable pub press_of : List ℕ → List Bool → Comp → Option ℕ
press_of w ys c = cond (ltb c.mark 64) None (cond (presses_in w ys c (head_at w c.place)) (Some c.loc) None)
