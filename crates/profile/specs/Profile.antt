-- The single-outcome profile: document 02, R-13. A location conforms when no ready `go` there has a timer above 0 and each channel has at most one ready sender
-- and at most one ready receiver there. Rights and the edition play no part in it, nor do calls and `stop`, and what is marked is not ready. `conforms` is the
-- test; `Conforming` is the sentence, for every channel at once. The law that they agree is `conforms-exactly` in proofs/Profile.
use mathlib.Core.List.{List, [], ◌∷◌, flat_map}
use Rattle.std.specs.Prelude.{Bool, true, false, cond, ◌&&◌, not, ◌≡◌}
use Rattle.terms.specs.Names.{Name, same_name}
use Rattle.terms.specs.Terms.{Component, due}
use Rattle.terms.specs.Terms.Part.{stop, go, out, inp, call}
use Rattle.terms.specs.Terms.Process.{one, ◌∥◌}
use Rattle.terms.specs.Terms.Component.{comp}
use Rattle.terms.specs.Rules.{some, only, ready}

-- a `go` with a timer above 0, inf included
unfoldable pub late_go : Component → Bool
late_go (comp h m (a ∥ p)) = false
late_go (comp h m (one stop)) = false
late_go (comp h m (one (go t v p))) = not (due t)
late_go (comp h m (one (out c t v p q))) = false
late_go (comp h m (one (inp c t y p q))) = false
late_go (comp h m (one (call i vs))) = false

-- an output on the channel k
unfoldable pub sends_on : Name → Component → Bool
sends_on k (comp h m (a ∥ p)) = false
sends_on k (comp h m (one stop)) = false
sends_on k (comp h m (one (go t v p))) = false
sends_on k (comp h m (one (out c t v p q))) = same_name c k
sends_on k (comp h m (one (inp c t y p q))) = false
sends_on k (comp h m (one (call i vs))) = false

-- an input on the channel k
unfoldable pub receives_on : Name → Component → Bool
receives_on k (comp h m (a ∥ p)) = false
receives_on k (comp h m (one stop)) = false
receives_on k (comp h m (one (go t v p))) = false
receives_on k (comp h m (one (out c t v p q))) = false
receives_on k (comp h m (one (inp c t y p q))) = same_name c k
receives_on k (comp h m (one (call i vs))) = false

-- ── the test ──
-- Of a component and the others behind it, all ready at one location: it is no late `go`, and none of the others is an output or an input as it is, on its
-- channel.
unfoldable pub asks : Component → List Component → Bool
asks (comp h m (a ∥ p)) cs = true
asks (comp h m (one stop)) cs = true
asks (comp h m (one (go t v p))) cs = due t
asks (comp h m (one (out c t v p q))) cs = not (some (sends_on c) cs)
asks (comp h m (one (inp c t y p q))) cs = not (some (receives_on c) cs)
asks (comp h m (one (call i vs))) cs = true

-- of components that are all ready at one location
unfoldable pub choiceless : List Component → Bool
choiceless [] = true
choiceless (c ∷ cs) = asks c cs && choiceless cs

abbrev pub ready_ones : Name → List Component → List Component
ready_ones l net = flat_map (only (ready l)) net

-- the location l conforms
unfoldable pub conforms : Name → List Component → Bool
conforms l net = choiceless (ready_ones l net)

-- ── the sentence ──
unfoldable pub at_most_one : {A : Type 0} → (A → Bool) → List A → Bool
at_most_one f [] = true
at_most_one f (x ∷ xs) = cond (f x) (not (some f xs)) (at_most_one f xs)

pub record Conforming (l : Name) (net : List Component) : Type 0 where
  pub prompt : some late_go (ready_ones l net) ≡ false
  pub senders : (k : Name) → at_most_one (sends_on k) (ready_ones l net) ≡ true
  pub receivers : (k : Name) → at_most_one (receives_on k) (ready_ones l net) ≡ true

abbrev pub ConformsExactly : Type 0
ConformsExactly = (l : Name) (net : List Component) → (conforms l net ≡ true → Conforming l net) × (Conforming l net → conforms l net ≡ true)

-- all of the above, for `unfolding profile`
unfoldable pub profile : Unit {0}
unfolding late_go sends_on receives_on asks choiceless conforms at_most_one
profile = tt
