-- Two locations in either order: document 02, R-7. A whole step is `whole_step` of the crate terms: actions that all fire at one location, by the rules and so
-- by the definitions, the edition and the rights of its context, and then the tick there; it knows no table limits. The proofs are `exchange`,
-- `any-positions`, `exchange-back` and `goes_on` in proofs/Exchange, and `in-space` in proofs/Space.
use Rattle.std.specs.Prelude.{◌≤◌, Bool, true, false, ◌≡◌, length}
use mathlib.Core.List.{List, [], ◌∷◌, Permᴰ}
use Rattle.terms.specs.Names.{Name, same_name}
use Rattle.terms.specs.Terms.{Component, Context, Label, Network}
use Rattle.terms.specs.Terms.Label.{called, moved, sent}
use Rattle.terms.specs.Rules.{Answer, Firing, Action, ◌>>=◌, some, firing_at, act, unmarked}
use Rattle.terms.specs.Rules.Answer.{accepted}
use Rattle.terms.specs.Step.{Done, whole_step}
use Rattle.terms.specs.Same.{every, same}

-- ── the same actions, positions aside ──
-- Of each action of a list, fired one after another: its kind, and its components as they stood before it. Lists that give the same here have the same
-- actions, positions aside: as many, of the same kinds, on equal components, in the same order.
unfoldable pub firings : Context → List Action → List Component → Answer (List Firing)
firings d [] net = accepted []
firings d (a ∷ xs) net = firing_at a net >>= λ x. act d a net >>= λ r. firings d xs r.comps >>= λ fs. accepted (x ∷ fs)

-- ── what is asked of the two steps ──
-- the label of a move to k
unfoldable pub moves_to : Name → Label → Bool
moves_to k (called i l) = false
moves_to k (moved v l) = same_name v k
moves_to k (sent c v l) = false

-- From an unmarked network a whole step at l, with the actions xs, and then one at m, with ys, are allowed. Neither moves a component to the other's
-- location. Only moves that fire count, not a `go` that is left standing.
pub record InTurn (d : Context) (l m : Name) (xs ys : List Action) (net : List Component) (r s : Done) : Type 0 where
  pub differ : same_name l m ≡ false
  pub unmarked-all : every unmarked net ≡ true
  pub first : whole_step d l xs net ≡ accepted r
  pub second : whole_step d m ys r.comps ≡ accepted s
  pub none-to-m : some (moves_to m) r.labels ≡ false
  pub none-to-l : some (moves_to l) s.labels ≡ false

-- ── what then holds ──
abbrev pub network_in : Context → List Component → Network
network_in d net = record { defs = d.defs; comps = net }

-- The step at m, with ys', and then that at l, with xs', are allowed; each has the actions that it had, positions aside, and the labels that it had, in order; and
-- they lead to the same network, whose components are the same letter by letter, each as often.
pub record Exchanged (d : Context) (l m : Name) (xs ys : List Action) (net : List Component) (r s : Done) (ys' xs' : List Action) : Type 0 where
  pub s' : Done
  pub r' : Done
  pub first : whole_step d m ys' net ≡ accepted s'
  pub second : whole_step d l xs' s'.comps ≡ accepted r'
  pub same-ys : firings d ys' net ≡ firings d ys r.comps
  pub same-xs : firings d xs' s'.comps ≡ firings d xs net
  pub labels-m : s'.labels ≡ s.labels
  pub labels-l : r'.labels ≡ r.labels
  pub reordered : Permᴰ r'.comps s.comps
  pub same-network : same (network_in d r'.comps) (network_in d s.comps) ≡ true

-- The claim: there are positions for the two steps in the other order.
abbrev pub Exchange : Type 0
Exchange = (d : Context) (l m : Name) (xs ys : List Action) (net : List Component) (r s : Done) → InTurn d l m xs ys net r s
    → (ys' xs' : List Action) × Exchanged d l m xs ys net r s ys' xs'

-- And any positions will do: whichever equal components are taken, the step at m is allowed, and then that at l.
abbrev pub AnyPositions : Type 0
AnyPositions = (d : Context) (l m : Name) (xs ys : List Action) (net : List Component) (r s : Done) → InTurn d l m xs ys net r s
    → (ys' : List Action) → firings d ys' net ≡ firings d ys r.comps
    → (s' : Done) × (whole_step d m ys' net ≡ accepted s') × ((xs' : List Action) → firings d xs' s'.comps ≡ firings d xs net → Exchanged d l m xs ys net r s ys' xs')

-- What is asked of the two steps holds of them in the other order, so that they may be exchanged back.
abbrev pub ExchangeBack : Type 0
ExchangeBack = (d : Context) (l m : Name) (xs ys : List Action) (net : List Component) (r s : Done) (ys' xs' : List Action) → InTurn d l m xs ys net r s
    → (e : Exchanged d l m xs ys net r s ys' xs') → InTurn d m l ys' xs' net e.s' e.r'

-- In a table: a network never gets smaller. So the number of components between the two steps in the other order is at most the last one, which is the
-- same in either order.
abbrev pub InSpace : Type 0
InSpace = (d : Context) (l m : Name) (xs ys : List Action) (net : List Component) (r s : Done) (ys' xs' : List Action) (e : Exchanged d l m xs ys net r s ys' xs')
    → (length e.s'.comps ≤ length s.comps) × (length e.r'.comps ≡ length s.comps)

-- ── the steps that follow ──
-- the whole step at l, with xs, that net allows and that leads to r, has its like from net'
pub record Likewise (d : Context) (l : Name) (xs : List Action) (net net' : List Component) (r : Done) : Type 0 where
  pub actions : List Action
  pub done : Done
  pub step : whole_step d l actions net' ≡ accepted done
  pub same-actions : firings d actions net' ≡ firings d xs net
  pub same-labels : done.labels ≡ r.labels
  pub reordered : Permᴰ done.comps r.comps

-- After the exchange everything goes on as before: from the same components in another order the same whole steps are allowed, positions aside, with the
-- same labels, and lead to the same components; and no whole step leaves a mark.
abbrev pub GoesOn : Type 0
GoesOn = (d : Context) (l : Name) (xs : List Action) (net net' : List Component) (r : Done) → every unmarked net ≡ true → Permᴰ net' net
    → whole_step d l xs net ≡ accepted r → Likewise d l xs net net' r × (every unmarked r.comps ≡ true)
