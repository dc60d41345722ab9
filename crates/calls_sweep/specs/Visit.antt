-- One position of a step's sweep: what the contracts of `sweep` cite.
-- Serves inner contracts only.
use Rattle.std.specs.Prelude.{ℕ, ◌*◌, ◌≤◌, List, [], ◌∷◌, map, cond, ◌≡◌, Option, Some, None, is_some, length, take, drop}
use Rattle.terms.specs.Rules.Answer.{accepted}
use Rattle.terms.specs.Rules.Kind.{calls, moves}
use Rattle.waits.specs.Waits.{messages}
use Rattle.table.specs.declared.Comp.{Comp}
use Rattle.table.specs.declared.State.{State}
use Rattle.table.specs.declared.Head.{Head}
use Rattle.table.specs.declared.Head.TheVariants.{Stop, Go, Out, In, Call}
use Rattle.table.specs.Words.{state_words, head_at}
use Rattle.table.specs.Meaning.{PastKept, comps_of}
use Rattle.table.specs.Fire.{Left, alone_at, together_at, ready_at, sent_on, right_in, must_act}
use Rattle.calls_sweep.specs.declared.Act.{Act}
use Rattle.calls_sweep.specs.declared.Act.TheVariants.{Calls, Moves, Sends}
use Rattle.calls_sweep.specs.declared.Visit.{Visit}
use Rattle.calls_sweep.specs.Sweep.{sweep_at, rec_of}

-- the channel that a component with the head h sends on, 64 for none: without its right it sends on none
unfoldable pub sends_by : List ℕ → Comp → Head → ℕ
sends_by w c h = cond (right_in w c h) (sent_on h) 64

-- of a component that is ready at l
unfoldable pub sends_at : List ℕ → ℕ → Comp → ℕ
sends_at w l c = cond (ready_at l c) (sends_by w c (head_at w c.place)) 64

-- what a part does by itself
unfoldable pub act_of : Head → Option Act
act_of Stop = None
act_of (Go t v p) = Some Moves
act_of (Out h t v p q) = Some Sends
act_of (In h t k p q) = None
act_of (Call d n) = Some Calls

-- what is done, where x is the first that hears, if there is one: what must act acts
unfoldable pub act_by : List ℕ → Option ℕ → Comp → Head → Option Act
act_by w x c h = cond (must_act w (is_some x) c h) (act_of h) None

unfoldable pub act_here : List ℕ → ℕ → Comp → Option ℕ → Option Act
act_here w l c x = cond (ready_at l c) (act_by w x c (head_at w c.place)) None

-- what becomes of the component c at the position and of e, its partner or itself
pub record Performed (w : List ℕ) (k : Option Act) (c e : Comp) (r : Visit) : Type 0 where
  pub slots-x : length r.x.vals ≡ 8
  pub slots-y : length r.y.vals ≡ 8
  pub none : k ≡ None → (r.x ≡ c) × (r.y ≡ e)
  pub call : k ≡ Some Calls → (f : Left) → alone_at w calls c ≡ accepted f → (f.after ≡ r.x ∷ []) × (r.y ≡ r.x)
  pub move : k ≡ Some Moves → (f : Left) → alone_at w moves c ≡ accepted f → (f.after ≡ r.x ∷ []) × (r.y ≡ r.x)
  pub pair : k ≡ Some Sends → (f : Left) → together_at w c e ≡ accepted f → f.after ≡ r.x ∷ r.y ∷ []

-- the position of the partner, or the own one
abbrev pub other_of : ℕ → Option ℕ → ℕ
other_of p None = p
other_of p (Some q) = q

-- the record of an action
abbrev pub rec_by : Act → ℕ → ℕ → List ℕ
rec_by Calls p q = 1 ∷ p ∷ 0 ∷ []
rec_by Moves p q = 2 ∷ p ∷ 0 ∷ []
rec_by Sends p q = 3 ∷ p ∷ q ∷ []

-- how many messages are sent, and how long their senders had waited, where n is the wait of the component that acts
abbrev pub sent_by : Option Act → ℕ
sent_by None = 0
sent_by (Some Calls) = 0
sent_by (Some Moves) = 0
sent_by (Some Sends) = 1

abbrev pub wait_by : Option Act → ℕ → ℕ
wait_by None n = 0
wait_by (Some Calls) n = 0
wait_by (Some Moves) n = 0
wait_by (Some Sends) n = n

-- the sweep over all positions: its records in front of those that were lent, how many, the components it leaves, how many messages it sends, and how long
-- their senders had waited together
pub record SweepsAs (w : List ℕ) (l : ℕ) (st : State) (after : List ℕ) (before acts : List (List ℕ)) (count sent sum : ℕ) : Type 0 where
  pub room : length acts ≡ length before
  pub records : take count acts ≡ map rec_of (sweep_at w l 0 st.n (comps_of st)).actions
  pub rest : drop count acts ≡ drop count before
  pub number : count ≡ length (sweep_at w l 0 st.n (comps_of st)).actions
  pub few : count ≤ st.n
  pub comps : comps_of (record { c = after; n = st.n }) ≡ (sweep_at w l 0 st.n (comps_of st)).comps
  pub sent_is : sent ≡ messages (sweep_at w l 0 st.n (comps_of st)).actions
  pub sum_is : sum ≡ (sweep_at w l 0 st.n (comps_of st)).sum
  pub small : sum ≤ 1_000_000 * sent
  pub slotted : length after ≡ state_words
  pub past : PastKept st.n st.c after
