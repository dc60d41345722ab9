-- The actions of a step on the table: what the contracts of `sweep` cite.
-- proofs/Sweeps says that this is the step's sweep of the rules (Step of the crate terms).
use Rattle.std.specs.Prelude.{ℕ, zero, suc, ◌+◌, List, [], ◌∷◌, ◌++◌, cond, get_or}
use Rattle.terms.specs.Rules.{Answer, Action, ◌>>=◌, at}
use Rattle.terms.specs.Rules.Answer.{refused, accepted}
use Rattle.terms.specs.Rules.Kind.{calls, moves}
use Rattle.terms.specs.Rules.Action.{single, pair}
use Rattle.table.specs.declared.Comp.{Comp}
use Rattle.table.specs.declared.Head.{Head}
use Rattle.table.specs.declared.Head.TheVariants.{Stop, Go, Out, In, Call}
use Rattle.table.specs.Words.{head_at}
use Rattle.table.specs.Meaning.{waits_of}
use Rattle.table.specs.Split.{due_at}
use Rattle.table.specs.Fire.{ActedAt, may_meet, act_on, ready_at}
use Rattle.calls_wait.specs.Waits.{partner_at}

-- ── which action fires at a component that stands at p ──
-- of a component ready at l with this head; a `go` that is due and lacks its right is refused when it is fired, and then nothing is
unfoldable pub chosen_by : List ℕ → ℕ → ℕ → Comp → List Comp → Head → Answer Action
chosen_by w l p c cs Stop = refused 0
chosen_by w l p c cs (Go u v q) = cond (due_at c) (accepted (single moves p)) (refused 0)
chosen_by w l p c cs (Out h u v q r) = cond (may_meet w c.loc h) (partner_at w l h cs >>= λ q. accepted (pair p q)) (refused 8)
chosen_by w l p c cs (In h u k q r) = refused 0
chosen_by w l p c cs (Call d n) = accepted (single calls p)

unfoldable pub choice_at : List ℕ → ℕ → ℕ → Comp → List Comp → Answer Action
choice_at w l p c cs = cond (ready_at l c) (chosen_by w l p c cs (head_at w c.place)) (refused 0)

-- ── the sweep ──
-- the actions fired, the components they leave, and how long the senders of their messages had waited together
pub record SweptAt : Type 0 where
  pub actions : List Action
  pub comps : List Comp
  pub sum : ℕ

-- how long the sender of an action's message had waited; 0 where there is none
abbrev pub sent_wait : Action → List Comp → ℕ
sent_wait (single k p) cs = 0
sent_wait (pair p q) cs = get_or (waits_of cs) p 0

abbrev pub idle_at : List Comp → SweptAt
idle_at cs = record { actions = []; comps = cs; sum = 0 }

abbrev pub took_at : Action → Answer ActedAt → List Comp → SweptAt
took_at a (refused n) cs = idle_at cs
took_at a (accepted r) cs = record { actions = a ∷ []; comps = r.comps; sum = sent_wait a cs }

abbrev pub taken_at : List ℕ → Answer Action → List Comp → SweptAt
taken_at w (refused n) cs = idle_at cs
taken_at w (accepted a) cs = took_at a (act_on w a cs) cs

abbrev pub visit_at : List ℕ → ℕ → ℕ → Answer Comp → List Comp → SweptAt
visit_at w l p (refused n) cs = idle_at cs
visit_at w l p (accepted c) cs = taken_at w (choice_at w l p c cs) cs

abbrev pub followed_at : SweptAt → (List Comp → SweptAt) → SweptAt
followed_at r k = record { actions = r.actions ++ (k r.comps).actions; comps = (k r.comps).comps; sum = r.sum + (k r.comps).sum }

-- n positions upward from p
unfoldable pub sweep_at : List ℕ → ℕ → ℕ → ℕ → List Comp → SweptAt
sweep_at w l p zero cs = idle_at cs
sweep_at w l p (suc n) cs = followed_at (visit_at w l p (at cs p) cs) (sweep_at w l (suc p) n)

-- ── records ──
-- a record has the kind and the positions; q is 0 for kinds 1 and 2
abbrev pub rec_of : Action → List ℕ
rec_of (single calls p) = 1 ∷ p ∷ 0 ∷ []
rec_of (single moves p) = 2 ∷ p ∷ 0 ∷ []
rec_of (pair p q) = 3 ∷ p ∷ q ∷ []
