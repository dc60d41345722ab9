-- One outcome: document 02, R-13. A whole step is `whole_step` of the crate terms: actions that all fire at one location, in any order, by the rules and so by
-- the definitions, the edition and the rights of its context, and then the tick there; it knows no table limits. Document 02 claims it of an unmarked network;
-- it holds of every one, since what is marked takes part in no action. The proofs are `single-outcome` and `step-outcome` in proofs/Single.
use mathlib.Core.List.{List, Permᴰ}
use Rattle.std.specs.Prelude.{true, ◌≡◌}
use Rattle.terms.specs.Names.{Name}
use Rattle.terms.specs.Terms.{Component, Context}
use Rattle.terms.specs.Rules.{Action}
use Rattle.terms.specs.Rules.Answer.{accepted}
use Rattle.terms.specs.Step.{Done, Swept, whole_step, step}
use Rattle.terms.specs.Same.{same}
use Rattle.laws.specs.Exchange.{network_in}
use Rattle.profile.specs.Profile.{conforms}

-- At a location that conforms, two whole steps, whatever actions they have and in whatever order.
pub record TwoSteps (d : Context) (l : Name) (xs ys : List Action) (net : List Component) (r s : Done) : Type 0 where
  pub conforming : conforms l net ≡ true
  pub one : whole_step d l xs net ≡ accepted r
  pub other : whole_step d l ys net ≡ accepted s

-- They end in the same network, with the same components at the same positions, letter by letter; and they have the same labels, each as often.
pub record OneOutcome (d : Context) (r s : Done) : Type 0 where
  pub same-network : same (network_in d r.comps) (network_in d s.comps) ≡ true
  pub ends : r.comps ≡ s.comps
  pub labels : Permᴰ r.labels s.labels

-- The claim.
abbrev pub SingleOutcome : Type 0
SingleOutcome = (d : Context) (l : Name) (xs ys : List Action) (net : List Component) (r s : Done) → TwoSteps d l xs ys net r s → OneOutcome d r s

-- The engine's own step is one of them, and the rules allow it everywhere: so every whole step comes to what the engine's step comes to.
abbrev pub StepOutcome : Type 0
StepOutcome = (d : Context) (l : Name) (net : List Component) → conforms l net ≡ true
    → (s : Swept) × (step d l net ≡ accepted s)
    × ((xs : List Action) (r : Done) → whole_step d l xs net ≡ accepted r → OneOutcome d r (record { labels = s.labels; comps = s.comps }))
