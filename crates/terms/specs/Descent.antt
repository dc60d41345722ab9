-- Where a component comes from, and where it may stand: document 02, R-6. The claim is `leave-chain` in proofs/Descent, for the engine's calls in the crate
-- `calls`.
--
-- The ancestor of a component is the component just read that it came from. An action replaces components at their own positions, and a tick puts what it
-- makes of a component, that one itself, its Q or its parts, at its position. So the ancestors are kept in a list beside the components, position by position.
use Rattle.std.specs.Prelude.{ℕ, List, [], ◌∷◌, ◌++◌, map, Bool, true, false, not, ◌&&◌, ◌||◌, ◌≡◌}
use Rattle.terms.specs.Names.{Name, same_name}
use Rattle.terms.specs.Terms.{Component, Context, Rights}
use Rattle.terms.specs.Rules.{at, pass}
use Rattle.terms.specs.Rules.Answer.{refused, accepted}
use Rattle.terms.specs.Same.{every}
use Rattle.terms.specs.Runs.{Call, Fed, place_of, answer}
use Rattle.terms.specs.Runs.Call.{acting, ticking}
use Rattle.terms.specs.Runs.Fed.{fed}

-- ── ancestors ──
-- each of what f makes of a component has the ancestor of that component
unfoldable pub inherited : {A B : Type 0} → (B → List B) → List A → List B → List A
inherited f [] cs = []
inherited f (o ∷ os) [] = []
inherited f (o ∷ os) (c ∷ cs) = map (λ x. o) (f c) ++ inherited f os cs

-- the ancestors after an accepted call, where os are those of the components s before it
unfoldable pub ancestors : {A : Type 0} → Context → Call → List A → List Component → List A
ancestors d (acting a) os s = os
ancestors d (ticking l) os s = inherited (pass d (λ m. same_name m l) l) os s

-- The ancestors at the end of a run, as `straight_run` has the components: a call that was refused counts for nothing. (Of a call said to be accepted that the
-- rules refuse there is no run.)
unfoldable pub ancestry : {A : Type 0} → Context → List Fed → List A → List Component → List A
ancestry d [] os s = os
ancestry d (fed c false ∷ cs) os s = ancestry d cs os s
ancestry d (fed c true ∷ cs) os s =
    elim (answer d c s) [
      | refused n ↦ os
      | accepted s' ↦ ancestry d cs (ancestors d c os s) s'
    ]

-- ── chains of leave rights ──
-- A chain leads from l to a location: l itself, or one for which a location that the chain leads to has the leave right.
pub data Leads (r : Rights) (l : Name) : Name → Type 0 where
  stays : Leads r l l
  leaves : {k m : Name} → Leads r l k → r.leave k m ≡ true → Leads r l m

-- two lists of one length, related position by position
pub data Along {A B : Type 0} (R : A → B → Type 0) : List A → List B → Type 0 where
  ended : Along R [] []
  also : {a : A} {b : B} {os : List A} {cs : List B} → R a b → Along R os cs → Along R (a ∷ os) (b ∷ cs)

-- each component of cs stands where its ancestor in os was read, or where a chain of leave rights leads from there
abbrev pub Reached : Rights → List Component → List Component → Type 0
Reached r os cs = Along (λ o c. Leads r (place_of o) (place_of c)) os cs

-- ── what a publisher uses of it ──
-- no leave right leads out of the locations that pass the test
abbrev pub Closed : Rights → (Name → Bool) → Type 0
Closed r inside = (l v : Name) → inside l ≡ true → r.leave l v ≡ true → inside v ≡ true

-- the same as a test, of the locations ls
unfoldable pub closed_in : List Name → Rights → (Name → Bool) → Bool
closed_in ls r inside = every (λ l. every (λ v. not (inside l && r.leave l v) || inside v) ls) ls

-- The component at a position whose ancestor was read inside stands inside.
abbrev pub StaysInside : (Name → Bool) → List Component → List Component → Type 0
StaysInside inside os cs = (i : ℕ) (o c : Component) → at os i ≡ accepted o → at cs i ≡ accepted c → inside (place_of o) ≡ true → inside (place_of c) ≡ true

-- No component stands at p whose ancestor was read where no chain leads to p.
abbrev pub NeverAt : Rights → Name → List Component → List Component → Type 0
NeverAt r p os cs = (i : ℕ) (o c : Component) → at os i ≡ accepted o → at cs i ≡ accepted c → (Leads r (place_of o) p → ⊥) → place_of c ≡ p → ⊥
