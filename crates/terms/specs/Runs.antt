-- The straight run, the notes and the grouped run: document 01, *Mixed runs*. No table limits here.
use Rattle.std.specs.Prelude.{ℕ, Bool, true, false, cond, not}
use mathlib.Core.List.{List, [], ◌∷◌, ◌++◌, flat_map}
use Rattle.std.proofs.Math.Bool.{decide}
use Rattle.terms.specs.Names.{Name, same_name}
use Rattle.terms.specs.Terms.{Component, Context, Label}
use Rattle.terms.specs.Terms.Component.{comp}
use Rattle.terms.specs.Rules.{Answer, Firing, Action, ◌>>=◌, seek, only, firing_at, act, tick, tick_all, ruling}
use Rattle.terms.specs.Step.{stepping}
use Rattle.terms.specs.Rules.Answer.{refused, accepted}
use Rattle.terms.specs.Rules.Firing.{alone, together}
use Rattle.terms.specs.Rules.Action.{single, pair}
use Rattle.terms.specs.Same.{equal, same_label, sameness}

-- a call of a mixed list: an action, by its kind and positions, or the tick at a location
pub data Call : Type 0 where
  acting : Action → Call
  ticking : Name → Call

-- what a run is fed of a call: itself, and whether the engine accepted it
pub data Fed : Type 0 where
  fed : Call → Bool → Fed

-- ── notes ──
-- An action with its components as they stood before, which give its location and its kind. The label is kept only to be compared:
-- that each note fires with its action's label is part of the claim.
pub record Note : Type 0 where
  pub firing : Firing
  pub label : Label

unfoldable pub place_of : Component → Name
place_of (comp l m p) = l

-- the location where it fires
unfoldable pub here : Firing → Name
here (alone k c) = place_of c
here (together c e) = place_of c

unfoldable pub is_of : Name → Note → Bool
is_of l n = same_name (here n.firing) l

-- the position of the first component equal to c
unfoldable pub first : Component → List Component → Answer ℕ
first c net = seek (λ x. equal x c) net

unfoldable pub spot : Firing → List Component → Answer Action
spot (alone k c) net = first c net >>= λ p. accepted (single k p)
spot (together c e) net = first c net >>= λ p. first e net >>= λ q. accepted (pair p q)

-- a note fires on the first components equal to its own, with its action's label; the number 0 says that it did not
unfoldable pub fire_note : Context → Note → List Component → Answer (List Component)
fire_note d n g = spot n.firing g >>= λ a. act d a g >>= λ r. cond (same_label r.label n.label) (accepted r.comps) (refused 0)

unfoldable pub fire_notes : Context → List Note → List Component → Answer (List Component)
fire_notes d [] g = accepted g
fire_notes d (n ∷ ns) g = fire_note d n g >>= λ g'. fire_notes d ns g'

-- ── the two runs side by side ──
pub record Ends : Type 0 where
  pub straight : List Component
  pub grouped : List Component

-- s the straight network, g the grouped one, ns the notes. The answer is accepted if each firing and tick is one that the rules allow on
-- its network and each note fires with its action's label.
unfoldable pub runs : Context → List Fed → List Component → List Component → List Note → Answer Ends
runs d [] s g ns = fire_notes d ns g >>= λ g'. accepted (record { straight = s; grouped = g' })
runs d (fed c false ∷ cs) s g ns = runs d cs s g ns
runs d (fed (acting a) true ∷ cs) s g ns =
    firing_at a s >>= λ x. act d a s >>= λ r. runs d cs r.comps g (ns ++ (record { firing = x; label = r.label } ∷ []))
runs d (fed (ticking l) true ∷ cs) s g ns =
    tick d l s >>= λ s'.
    fire_notes d (flat_map (only (is_of l)) ns) g >>= λ g₁.
    tick_all d l g₁ >>= λ g'.
    runs d cs s' g' (flat_map (only (λ n. not (is_of l n))) ns)

-- the grouped run of a list of calls from a network just read
unfoldable pub grouped_run : Context → List Fed → List Component → Answer Ends
grouped_run d cs net = runs d cs net net []

-- the straight run by itself
unfoldable pub straight_run : Context → List Fed → List Component → Answer (List Component)
straight_run d [] s = accepted s
straight_run d (fed c false ∷ cs) s = straight_run d cs s
straight_run d (fed (acting a) true ∷ cs) s = act d a s >>= λ r. straight_run d cs r.comps
straight_run d (fed (ticking l) true ∷ cs) s = tick d l s >>= λ s'. straight_run d cs s'

-- ── a list of calls of any content ──
-- what the rules answer to a call
unfoldable pub answer : Context → Call → List Component → Answer (List Component)
answer d (acting a) s = act d a s >>= λ r. accepted r.comps
answer d (ticking l) s = tick d l s

-- A list of calls one after another, each on the components that the call before it returned or, if refused, left. A call is accepted if the
-- rules accept it and it is not turned down for want of space. What there is space for may depend on more than the components: t is what is kept beside
-- them, `next` what an accepted call makes of it, and `full` says of which calls there is no space.
unfoldable pub judged : {S : Type 0} → Context → (Call → List Component → S → S) → (Call → List Component → S → Bool) → List Call → List Component → S → List Fed
judged d next full [] s t = []
judged d next full (c ∷ cs) s t =
    elim (answer d c s) [
      | refused n ↦ fed c false ∷ judged d next full cs s t
      | accepted s' ↦ cond (full c s t) (fed c false ∷ judged d next full cs s t) (fed c true ∷ judged d next full cs s' (next c s t))
    ]

-- the components at its end
unfoldable pub last_of : {S : Type 0} → Context → (Call → List Component → S → S) → (Call → List Component → S → Bool) → List Call → List Component → S → List Component
last_of d next full [] s t = s
last_of d next full (c ∷ cs) s t =
    elim (answer d c s) [
      | refused n ↦ last_of d next full cs s t
      | accepted s' ↦ cond (full c s t) (last_of d next full cs s t) (last_of d next full cs s' (next c s t))
    ]

-- all definitions of the rules, for `unfolding rules`
unfoldable pub rules : Unit {0}
unfolding ruling stepping sameness place_of here is_of first spot fire_note fire_notes runs grouped_run straight_run answer judged last_of flat_map decide
rules = tt
