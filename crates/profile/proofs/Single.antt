-- At a location that conforms all whole steps end in the same network and have the same labels, each as often: document 02, R-13.
-- Idea: by position, each component that could fire has fired in its one way when the tick is allowed (Places). The labels by weight: what a step fires is what the
-- network allows there, each once, since a firing takes away itself and no other that is allowed, and at the end none is allowed.
use Prim.Native.Nat.{ℕ}
use native.Mathlib.Omega.{arith}
use mathlib.Core.List.{List, flat_map}
use mathlib.Core.Bool.{true, false}
use mathlib.Core.Path.{◌≡◌, refl, ap, sym, ◌∙◌, subst}
use Rattle.terms.specs.Names.{Name}
use Rattle.terms.specs.Terms.{Component, Context, Label}
use Rattle.terms.specs.Rules.{Answer, Firing, Fired, Action, fire, forced, pass}
use Rattle.terms.specs.Rules.Answer.{refused, accepted}
use Rattle.terms.specs.Runs.{Note}
use Rattle.terms.specs.Step.{Done}
use Rattle.terms.specs.Same.{same_label, same}
use Rattle.terms.proofs.Names.{label_eq, label-refl}
use Rattle.terms.proofs.Sums.{total, ◌≈◌, Each}
use Rattle.terms.proofs.Sums.Each.{each_nil, each-cons}
use Rattle.terms.proofs.Mixed.{pre, mine, permuted-by}
use Rattle.terms.proofs.Same.{same_self}
use Rattle.terms.proofs.Steps.{step-accepted, step-whole}
use Rattle.laws.specs.Exchange.{network_in}
use Rattle.laws.proofs.Fires.{GoodAt, labels_of, Does, does, plain, plain-on, held_plain, Whole, whole, on, forced-on}
use Rattle.profile.specs.Profile.{conforms}
use Rattle.profile.specs.Outcome.{SingleOutcome, StepOutcome}
use Rattle.profile.proofs.Profile.{conforms-exactly, Sole, sole, sole-part}
use Rattle.profile.proofs.Places.{same-places}
use Rattle.profile.proofs.Allowed.{allowed, allowed-≈, holding, holding-total, all-fired, none_allowed}

-- ── what a whole step fires is what is allowed among the unmarked components ──
module _ (d : Context) (l : Name) (xs : List Action) (net : List Component) (z : Done) (k : Sole l net) (r : Does d l xs net z) (e : forced d l z.comps ≡ false) where
  rest : List Component
  rest = plain z.comps

  -- the unmarked ones are those that fire and the rest
  parted : ◌≈◌ (plain net) (holding r.notes rest)
  unfolding rest
  parted w = held_plain d l xs net z r w ∙ sym (holding-total w r.notes (plain z.comps))

  sole-plain : Sole l (plain net)
  sole-plain = sole-part l net (plain net) (λ w. 0) (λ w. omega (arith, plain-on l w net)) k

  sole-rest : Sole l rest
  unfolding rest
  sole-rest = sole-part l (plain net) (plain z.comps) (λ w. pre (on l w) r.notes) (λ w. held_plain d l xs net z r (on l w)) sole-plain

  rest-free : forced d l rest ≡ false
  unfolding rest
  rest-free = forced-on d l (plain z.comps) z.comps (λ w. plain-on l w z.comps) ∙ e

  step-fires : (W : Firing → ℕ) → total (λ n. W n.firing) r.notes ≡ allowed d l W (plain net)
  step-fires W =
      let h = holding r.notes rest in
      let k = sole-part l (plain net) h (λ w. 0) (λ w. omega (arith, parted (on l w))) sole-plain in
      omega (arith, allowed-≈ d l W (plain net) h parted, all-fired d l W r.each rest k, none_allowed d l W rest rest-free sole-rest)

-- the weight of the label of what fires
labelled : (Label → ℕ) → Answer Fired → ℕ
labelled v (refused n) = 0
labelled v (accepted f) = v f.label

label-total : (d : Context) (l : Name) (v : Label → ℕ) {ns : List Note} → Each (GoodAt d l) ns → total v (labels_of ns) ≡ total (λ n. labelled v (fire d n.firing)) ns
unfolding total labelled
label-total d l v each_nil = refl
label-total d l v (each-cons {x = n} g gs) = let h : labelled v (fire d n.firing) ≡ v n.label = rw g.good.fires in omega (arith, h, label-total d l v gs)

-- ── two whole steps ──
module _ (d : Context) (l : Name) (xs ys : List Action) (net : List Component) (r s : Done) (t : conforms l net ≡ true) (w₁ : Whole d l xs net r) (w₂ : Whole d l ys net s) where
  d₁ : Does d l xs net w₁.mid
  d₁ = does d l xs net w₁.mid w₁.acts

  d₂ : Does d l ys net w₂.mid
  d₂ = does d l ys net w₂.mid w₂.acts

  as-often : (W : Firing → ℕ) → total (λ n. W n.firing) d₁.notes ≡ total (λ n. W n.firing) d₂.notes
  as-often W = step-fires d l xs net w₁.mid (sole l net t) d₁ w₁.free W ∙ sym (step-fires d l ys net w₂.mid (sole l net t) d₂ w₂.free W)

  same_ends : r.comps ≡ s.comps
  same_ends =
      let p = same-places d l xs ys net w₁.mid w₂.mid ((conforms-exactly l net).0 t) w₁.acts w₂.acts w₁.free w₂.free in
      sym w₁.ends ∙ ap (flat_map (pass d (mine l) l)) p ∙ w₂.ends

  same-labels : ◌≈◌ r.labels s.labels
  same-labels v =
      omega (
        arith,
        ap (total v) w₁.labels,
        ap (total v) w₂.labels,
        ap (total v) d₁.labels,
        ap (total v) d₂.labels,
        label-total d l v d₁.each,
        label-total d l v d₂.each,
        as-often (λ x. labelled v (fire d x)),
      )

-- ── the claim ──
pub single-outcome : SingleOutcome
single-outcome d l xs ys net r s h =
    let w₁ = whole d l xs net r h.one in
    let w₂ = whole d l ys net s h.other in
    let e = same_ends d l xs ys net r s h.conforming w₁ w₂ in
    record {
      same-network = subst (λ cs. same (network_in d r.comps) (network_in d cs) ≡ true) e (same_self (network_in d r.comps));
      ends = e;
      labels = permuted-by same_label label_eq label-refl _ _ (same-labels d l xs ys net r s h.conforming w₁ w₂);
    }

-- and of the engine's own step
pub step-outcome : StepOutcome
step-outcome d l net t =
    let e = step-accepted d l net in
    (_, e, λ xs r h. single-outcome d l xs _ net r _ (record { conforming = t; one = h; other = step-whole d l net _ e }))
