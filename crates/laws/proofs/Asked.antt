-- Each half of what is asked about moves is needed, and so is that the network has no mark: each turns away two steps that no positions would exchange.
use Prim.Native.Nat.{ℕ, zero, suc}
use native.Mathlib.Omega.{arith}
use mathlib.Core.List.{List, [], ◌∷◌, cons-eq-cons, cons≢nil}
use mathlib.Core.Bool.{false≢true}
use mathlib.Core.Path.{◌≡◌, refl, ap, sym, ◌∙◌, subst}
use Rattle.terms.specs.Terms.{Component}
use Rattle.terms.specs.Terms.Label.{moved, sent}
use Rattle.terms.specs.Rules.{Action, at, firing_at}
use Rattle.terms.specs.Rules.Answer.{accepted}
use Rattle.terms.specs.Rules.Kind.{calls, moves}
use Rattle.terms.specs.Rules.Firing.{alone, together}
use Rattle.terms.specs.Rules.Action.{single, pair}
use Rattle.terms.specs.Step.{Done, Swept, whole_step}
use Rattle.terms.specs.Runs.{rules}
use Rattle.terms.proofs.Answers.{clash, took, bind_inv}
use Rattle.laws.specs.Exchange.{firings, moves_to, InTurn, Exchanged}
use Rattle.laws.specs.Steps.{StepsInTurn, StepsExchanged}
use Rattle.laws.specs.Examples.{A, B, c, ◌$◌, bare, sender, leaving, net8, arrived, after-a, after-b, M, met, step-a, step-b, marked7}
use Rattle.laws.proofs.Fires.{firings-inv}

-- ── what fires is there ──
-- an output that stands nowhere in the network is not handed over there
no_output : (net : List Component) (c : Component) → ((p : ℕ) → ¬ (at net p ≡ accepted c)) → (a : Action) (e : Component) → ¬ (firing_at a net ≡ accepted (together c e))
unfolding firing_at
no_output net c n (single k p) e h =
    let r = bind_inv (at net p) _ _ h in
    let z : ◌≡◌ {A = ℕ} 0 1 = cc r.2 in
    absurd (omega arith)
no_output net c n (pair p q) e h =
    let r = bind_inv (at net p) _ _ h in
    let t = bind_inv (at net q) _ _ r.2 in
    n p (cc (r.1, t.2))

no-list : (net : List Component) (c e : Component) → ((p : ℕ) → ¬ (at net p ≡ accepted c)) → (xs : List Action) → ¬ (firings bare xs net ≡ accepted (together c e ∷ []))
unfolding firings
no-list net c e n [] h = cons≢nil (sym (took h))
no-list net c e n (a ∷ xs) h =
    let i = firings-inv bare a xs net _ h in
    no_output net c n a e (i.3 ∙ ap accepted (cons-eq-cons.0 i.6).0)

-- actions that fire nothing are none
none-fires : (xs : List Action) (net : List Component) → firings bare xs net ≡ accepted [] → xs ≡ []
none-fires [] net e = refl
none-fires (a ∷ xs) net e = absurd (cons≢nil (firings-inv bare a xs net [] e).6)

-- ── example 8, A and then B ──
-- the first step moves a component to B
pub a-first-moves : (s : Done) → ¬ InTurn bare A B (single moves 0 ∷ []) (pair 0 1 ∷ []) net8 after-a s
unfolding rules moves_to
a-first-moves s t = false≢true (sym t.none-to-m)

-- before it does, what B hands over is not there
not_yet : (p : ℕ) → ¬ (at net8 p ≡ accepted (B $ sender))
unfolding at
not_yet zero e = let z : ◌≡◌ {A = ℕ} 0 1 = cc in absurd (omega arith)
not_yet (suc zero) e = let z : ◌≡◌ {A = ℕ} 0 1 = cc in absurd (omega arith)
not_yet (suc (suc p)) e = clash e

pub a-first-stays : (ys' xs' : List Action) (s : Done) → ¬ Exchanged bare A B (single moves 0 ∷ []) (pair 0 1 ∷ []) net8 after-a s ys' xs'
unfolding rules firings
a-first-stays ys' xs' s e = no-list net8 _ _ not_yet ys' e.same-ys

-- ── example 8, B and then A ──
-- the second step moves a component to B
pub b-first-moves : ¬ InTurn bare B A [] (single moves 0 ∷ []) net8 after-b (record { labels = moved B A ∷ []; comps = M })
unfolding rules moves_to
b-first-moves t = false≢true (sym t.none-to-l)

-- that move is the one at position 0, and after it the tick at B is not allowed
the-move : (a : Action) → firing_at a net8 ≡ accepted (alone moves (A $ leaving)) → a ≡ single moves 0
unfolding firing_at at
the-move (single calls p) e =
    let r = bind_inv (at net8 p) _ _ e in
    let z : ◌≡◌ {A = ℕ} 0 1 = cc r.2 in
    absurd (omega arith)
the-move (single moves zero) e = refl
the-move (single moves (suc zero)) e = let z : ◌≡◌ {A = ℕ} 0 1 = cc in absurd (omega arith)
the-move (single moves (suc (suc p))) e = clash e
the-move (pair p q) e =
    let r = bind_inv (at net8 p) _ _ e in
    let t = bind_inv (at net8 q) _ _ r.2 in
    let z : ◌≡◌ {A = ℕ} 0 1 = cc t.2 in
    absurd (omega arith)

the_step : (ys' : List Action) → firings bare ys' net8 ≡ accepted (alone moves (A $ leaving) ∷ []) → ys' ≡ single moves 0 ∷ []
unfolding firings
the_step [] e = absurd (cons≢nil (sym (took e)))
the_step (a ∷ ys') e =
    let i = firings-inv bare a ys' net8 _ e in
    let j = cons-eq-cons.0 i.6 in
    cons-eq-cons.1 (the-move a (i.3 ∙ ap accepted j.0), none-fires ys' _ (i.5 ∙ ap accepted j.1))

pub b-first-stays : (ys' xs' : List Action) (s : Done) → ¬ Exchanged bare B A [] (single moves 0 ∷ []) net8 after-b s ys' xs'
unfolding rules firings
b-first-stays ys' xs' s e =
    let y = the_step ys' e.same-ys in
    let x = none-fires xs' e.s'.comps e.same-xs in
    let q : after-a ≡ e.s' = took (subst (λ z. whole_step bare A z net8 ≡ accepted e.s') y e.first) in
    let h : whole_step bare B xs' arrived ≡ accepted e.r' = subst (λ (z : Done). whole_step bare B xs' z.comps ≡ accepted e.r') (sym q) e.second in
    clash (subst (λ z. whole_step bare B z arrived ≡ accepted e.r') x h)

-- ── example 7, from the network in which A has marked what stands at B: A and then B ──
pub marked-first : (s : Done) → ¬ InTurn bare A B [] (pair 0 1 ∷ []) marked7 (record { labels = []; comps = arrived }) s
unfolding rules
marked-first s t = false≢true t.unmarked-all

-- while it is marked it is not handed over
still_marked : (p : ℕ) → ¬ (at marked7 p ≡ accepted (B $ sender))
unfolding at
still_marked zero e = let z : ◌≡◌ {A = ℕ} 0 1 = cc in absurd (omega arith)
still_marked (suc zero) e = let z : ◌≡◌ {A = ℕ} 0 1 = cc in absurd (omega arith)
still_marked (suc (suc p)) e = clash e

pub marked-stays : (ys' xs' : List Action) (s : Done) → ¬ Exchanged bare A B [] (pair 0 1 ∷ []) marked7 (record { labels = []; comps = arrived }) s ys' xs'
unfolding rules firings
marked-stays ys' xs' s e = no-list marked7 _ _ still_marked ys' e.same-ys

-- ── example 8, the engine's own steps ──
pub steps-a-moves : (s : Swept) → ¬ StepsInTurn bare A B net8 step-a s
unfolding rules moves_to
steps-a-moves s t = false≢true (sym t.none-to-m)

pub steps-b-moves : ¬ StepsInTurn bare B A net8 step-b (record { actions = single moves 0 ∷ []; labels = moved B A ∷ []; comps = M })
unfolding rules moves_to
steps-b-moves t = false≢true (sym t.none-to-l)

-- A and then B hands over what B and then A does not
pub steps-stay : ¬ StepsExchanged bare A B net8 step-a (record { actions = pair 0 1 ∷ []; labels = sent c B B ∷ []; comps = met })
unfolding rules
steps-stay e =
    let q : step-b ≡ e.s' = took e.first in
    cons≢nil (sym (ap (λ (s : Swept). s.labels) q ∙ e.labels-m))
