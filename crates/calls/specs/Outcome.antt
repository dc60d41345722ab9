-- One outcome, of the calls: document 02, R-13. Where the test says yes, accepted proposals at the location leave the same components at the same positions,
-- whatever their records are, and so does the accepted step there; and all of them fire as many actions. A proposal that fires less is refused, by 12. The proofs
-- are `proposals-alike` and `proposal-like-step` in proofs/Outcome.
use Rattle.std.specs.Prelude.{ℕ, List, true, ◌≡◌, length}
use Rattle.terms.specs.Rules.Answer.{accepted}
use Rattle.waits.specs.Counted.{Counted}
use Rattle.table.specs.declared.State.{State}
use Rattle.calls_step.specs.Stepped.{Step, step_answer}
use Rattle.calls_profile.specs.Profiled.{test_answer}
use Rattle.calls_propose.specs.declared.Record.{Record}
use Rattle.calls_propose.specs.Proposed.{propose_answer}

abbrev pub ProposalsAlike : Type 0
ProposalsAlike = (w : List ℕ) (st : State) (l : ℕ) (rs qs : List Record) (x y : Counted) → test_answer w st l ≡ accepted true
    → propose_answer w st l rs ≡ accepted x → propose_answer w st l qs ≡ accepted y → (x.comps ≡ y.comps) × (length rs ≡ length qs)

abbrev pub ProposalLikeStep : Type 0
ProposalLikeStep = (w : List ℕ) (st : State) (l size : ℕ) (rs : List Record) (x : Counted) (s : Step) → test_answer w st l ≡ accepted true
    → propose_answer w st l rs ≡ accepted x → step_answer w st l size ≡ accepted s → (x.comps ≡ s.comps) × (length rs ≡ length s.actions)
