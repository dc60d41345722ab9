-- The records of a step as the line is made of them: what the contracts of the code cite.
-- proofs/Labels says that an action of a step has the same label in the network before the step.
-- Serves inner contracts only.
use Rattle.std.specs.Prelude.{ℕ, ◌≤◌, List, [], ◌∷◌, map, Bool, true, ◌≡◌, length, get_or, take}
use Rattle.terms.specs.Terms.{Label}
use Rattle.terms.specs.Rules.{Answer, Acted, ok}
use Rattle.terms.specs.Rules.Answer.{refused, accepted}
use Rattle.terms.specs.Step.{fires}
use Rattle.table.specs.declared.State.{State}
use Rattle.table.specs.Words.{loc_name}
use Rattle.table.specs.Meaning.{context_of, net_of}
use Rattle.table.specs.Valid.{valid}
use Rattle.calls_act.specs.Acted.{action_allowed}
use Rattle.calls_sweep.specs.Sweep.{rec_of}

-- the label of an action, if it is accepted
abbrev pub label_by : Answer Acted → List Label
label_by (refused n) = []
label_by (accepted a) = a.label ∷ []

-- what the rules answer to the action of a record
abbrev pub answer_by : List ℕ → State → List ℕ → Answer Acted
answer_by w st e = action_allowed w st (get_or e 0 0) (get_or e 1 0) (get_or e 2 0)

abbrev pub label_in : List ℕ → State → List ℕ → List Label
label_in w st e = label_by (answer_by w st e)

-- the action of a record may fire
abbrev pub may_fire : List ℕ → State → List ℕ → Bool
may_fire w st e = ok (answer_by w st e)

-- the first n records are those of the actions of the step at the location numbered l
pub record Holds (w : List ℕ) (st : State) (l : ℕ) (records : List (List ℕ)) (n : ℕ) : Type 0 where
  pub good : valid w st ≡ true
  pub within : n ≤ length records
  pub actions : take n records ≡ map rec_of (fires (context_of w) (loc_name w l) (net_of w st)).actions
