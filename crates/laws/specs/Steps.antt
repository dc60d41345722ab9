-- The engine's own steps at two locations in either order: document 02, R-7, of the step of document 01. What such a step fires it chooses itself, by
-- positions. The proofs are `steps-exchange` and `asked-before` in proofs/Steps.
use Rattle.std.specs.Prelude.{List, true, false, ◌≡◌}
use Rattle.terms.specs.Names.{Name, same_name}
use Rattle.terms.specs.Terms.{Component, Context}
use Rattle.terms.specs.Rules.{some, unmarked}
use Rattle.terms.specs.Rules.Answer.{accepted}
use Rattle.terms.specs.Step.{Swept, step}
use Rattle.terms.specs.Same.{every}
use Rattle.laws.specs.Exchange.{moves_to}

-- From an unmarked network the step at l leads to r, and then that at m to s. Neither moves a component to the other's location.
pub record StepsInTurn (d : Context) (l m : Name) (net : List Component) (r s : Swept) : Type 0 where
  pub differ : same_name l m ≡ false
  pub unmarked-all : every unmarked net ≡ true
  pub first : step d l net ≡ accepted r
  pub second : step d m r.comps ≡ accepted s
  pub none-to-m : some (moves_to m) r.labels ≡ false
  pub none-to-l : some (moves_to l) s.labels ≡ false

-- The step at m and then that at l fire what they fired, and lead to the same components at the same positions.
pub record StepsExchanged (d : Context) (l m : Name) (net : List Component) (r s : Swept) : Type 0 where
  pub s' : Swept
  pub r' : Swept
  pub first : step d m net ≡ accepted s'
  pub second : step d l s'.comps ≡ accepted r'
  pub labels-m : s'.labels ≡ s.labels
  pub labels-l : r'.labels ≡ r.labels
  pub ends : r'.comps ≡ s.comps

abbrev pub StepsExchange : Type 0
StepsExchange = (d : Context) (l m : Name) (net : List Component) (r s : Swept) → StepsInTurn d l m net r s → StepsExchanged d l m net r s

-- What is asked about moves may be asked of both steps from the network before either: the step at m then has the labels that it has from there.
abbrev pub AskedBefore : Type 0
AskedBefore = (d : Context) (l m : Name) (net : List Component) (r s₀ : Swept) → same_name l m ≡ false → every unmarked net ≡ true
    → step d l net ≡ accepted r → step d m net ≡ accepted s₀ → some (moves_to m) r.labels ≡ false → some (moves_to l) s₀.labels ≡ false
    → (s : Swept) × StepsInTurn d l m net r s × (s.labels ≡ s₀.labels)
