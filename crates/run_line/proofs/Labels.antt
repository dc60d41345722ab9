-- An action of a step has the same label in the network before the step: an action that is accepted finds its components unmarked, and what is
-- unmarked in a later network of the step stands at its position since before the first action.
use Prim.Native.Nat.{ℕ}
use native.Mathlib.Omega.{arith}
use mathlib.Core.List.{List, [], ◌∷◌, flat_map}
use mathlib.Core.Bool.{true, false, false≢true}
use mathlib.Core.Logic.{◌⊎◌, inl, inr}
use mathlib.Core.Path.{◌≡◌, refl, ap, sym, subst, ◌∙◌}
use Rattle.terms.specs.Names.{Name, same_name}
use Rattle.terms.specs.Terms.{Part, Component, Context, Label, fires_at}
use Rattle.terms.specs.Terms.Process.{one}
use Rattle.terms.specs.Terms.Mark.{none}
use Rattle.terms.specs.Terms.Component.{comp}
use Rattle.terms.specs.Same.{every}
use Rattle.terms.specs.Rules.{Firing, Action, Acted, ok, at, fire, firing_at, act, ready, tick}
use Rattle.terms.specs.Rules.Answer.{accepted}
use Rattle.terms.specs.Rules.Action.{single, pair}
use Rattle.terms.specs.Step.{Done, act_at, act_all, whole_step, fires}
use Rattle.terms.proofs.Names.{name-refl}
use Rattle.terms.proofs.Answers.{took, bind_inv, cond-inv}
use Rattle.terms.proofs.Mixed.{Shape, shape_of, act-ok}
use Rattle.terms.proofs.Mixed.Shape.{one-shape, two-shape}
use Rattle.terms.proofs.Steps.{act-fewer, step-accepted, step-whole}
use Rattle.run_line.specs.Records.{label_by}

-- what is unmarked in a later network stands at its position in an earlier one
abbrev Stood : List Component → List Component → Type 0
Stood net0 net = (p : ℕ) (l : Name) (a : Part) → at net p ≡ accepted (comp l none (one a)) → at net0 p ≡ accepted (comp l none (one a))

act-stood : (d : Context) (a : Action) (net : List Component) (r : Acted) → act d a net ≡ accepted r → Stood net r.comps
act-stood d a net r e p l b h = go (act-fewer d a net r e p (comp l none (one b)) h)
  where
    go : (at net p ≡ accepted (comp l none (one b))) ⊎ ((k : Name) → ready k (comp l none (one b)) ≡ false) → at net p ≡ accepted (comp l none (one b))
    go (inl h) = h
    go (inr h) = absurd (false≢true (sym (h l) ∙ (unfold ready in name-refl l)))

-- so an action that fires finds the same components before
firing-before : (a : Action) (net0 net : List Component) → Stood net0 net → {x : Firing} {cs : List Component} → Shape x cs → firing_at a net ≡ accepted x → firing_at a net0 ≡ accepted x
unfolding firing_at
firing-before (single k p) net0 net f (one-shape {l = l} {a = a}) e =
    let r = bind_inv (at net p) _ _ e in
    rw (f p l a (cc (r.1, r.2))) (cc r.2)
firing-before (pair p q) net0 net f one-shape e =
    let r = bind_inv (at net p) _ _ e in
    let t = bind_inv (at net q) _ _ r.2 in
    let z : ◌≡◌ {A = ℕ} 0 1 = cc t.2 in
    absurd (omega arith)
firing-before (single k p) net0 net f (two-shape n) e =
    let r = bind_inv (at net p) _ _ e in
    let z : ◌≡◌ {A = ℕ} 0 1 = cc r.2 in
    absurd (omega arith)
firing-before (pair p q) net0 net f (two-shape {l = l} {a = a} {b = b} n) e =
    let r = bind_inv (at net p) _ _ e in
    let t = bind_inv (at net q) _ _ r.2 in
    rw (f p l a (cc (r.1, t.2)), f q l b (cc (t.1, t.2)))

-- an accepted action is accepted in the network before, with its label
act-before : (d : Context) (a : Action) (net0 net : List Component) (r : Acted) → Stood net0 net → act d a net ≡ accepted r → (s : Acted) × (act d a net0 ≡ accepted s) × (s.label ≡ r.label)
unfolding act
act-before d a net0 net r f e =
    let u = bind_inv (firing_at a net) _ r e in
    let t = bind_inv (fire d u.0) _ r u.2 in
    let b = firing-before a net0 net f (shape_of d u.0 t.0 t.1) u.1 in
    (_, act-ok d a net0 u.0 t.0 b t.1, ap (λ z. z.label) (took t.2))

-- an action that fires at l is one that is accepted
at-inv : (d : Context) (l : Name) (a : Action) (net : List Component) (r : Acted) → act_at d l a net ≡ accepted r → act d a net ≡ accepted r
unfolding act_at
at-inv d l a net r e =
    let v = bind_inv (act d a net) _ r e in
    v.1 ∙ ap accepted (cond-inv (same_name (fires_at v.0.label) l) v.0 r 16 v.2).1

-- ── a list of actions, each on what those before it left ──
pub record Before (d : Context) (net0 : List Component) (xs : List Action) (ls : List Label) : Type 0 where
  pub labels : ls ≡ flat_map (λ a. label_by (act d a net0)) xs
  pub fire : every (λ a. ok (act d a net0)) xs ≡ true

all-before : (d : Context) (l : Name) (xs : List Action) (net0 net : List Component) (s : Done) → Stood net0 net → act_all d l xs net ≡ accepted s → Before d net0 xs s.labels
unfolding act_all flat_map every
all-before d l [] net0 net s f e = record { labels = ap (λ z. z.labels) (sym (took e)); fire = refl }
all-before d l (a ∷ xs) net0 net s f e =
    let u = bind_inv (act_at d l a net) _ s e in
    let t = bind_inv (act_all d l xs u.0.comps) _ s u.2 in
    let v = at-inv d l a net u.0 u.1 in
    let b = act-before d a net0 net u.0 f v in
    let r = all-before d l xs net0 u.0.comps t.0 (λ p h b e. f p h b (act-stood d a net u.0 v p h b e)) t.1 in
    record {
      labels = ap (λ z. z.labels) (sym (took t.2)) ∙ rw (b.1, b.2, r.labels);
      fire = rw (b.1, r.fire);
    }

-- the actions of the step at l
pub step-before : (d : Context) (l : Name) (net : List Component) → Before d net (fires d l net).actions (fires d l net).labels
unfolding whole_step
step-before d l net =
    let w = step-whole d l net _ (step-accepted d l net) in
    let u = bind_inv (act_all d l (fires d l net).actions net) _ _ w in
    let t = bind_inv (tick d l u.0.comps) _ _ u.2 in
    subst (Before d net (fires d l net).actions) (ap (λ z. z.labels) (took t.2)) (all-before d l (fires d l net).actions net net u.0 (λ p h b e. e) u.1)
