-- Accepted proposals at a location that conforms, and the step there, leave the same components at the same positions and fire as many actions.
-- Each is a whole step of the rules, of which there is one outcome (Single of the crate profile).
use Prim.Native.Nat.{ℕ, suc}
use mathlib.Core.List.{List, [], ◌∷◌}
use mathlib.Core.Bool.{true}
use mathlib.Core.Path.{◌≡◌, refl, sym, ap, ◌∙◌}
use lib.Dec.{ltb}
use lib.ListN.{length}
use Rattle.terms.specs.Names.{Name}
use Rattle.terms.specs.Terms.{Component, Context}
use Rattle.terms.specs.Rules.{Action}
use Rattle.terms.specs.Rules.Answer.{accepted}
use Rattle.terms.specs.Step.{Done, act_at, act_all, whole_step}
use Rattle.terms.specs.Rules as R
use Rattle.terms.proofs.Answers.{took, bind_inv}
use Rattle.terms.proofs.Mixed.{perm-long}
use Rattle.profile.proofs.Single.{single-outcome}
use Rattle.table.specs.declared.State.{State}
use Rattle.table.specs.Words.{locs_in, loc_name}
use Rattle.table.specs.Meaning.{context_of, net_of}
use Rattle.table.specs.Valid.{valid}
use Rattle.calls_profile.specs.Profiled.{conforms_in, test_rule, test_answer}
use Rattle.calls_propose.specs.declared.Record.{Record}
use Rattle.calls.specs.Run.{named_by}
use Rattle.calls.specs.Outcome.{ProposalsAlike, ProposalLikeStep}
use Rattle.calls.proofs.Straight.{asked-inv, step-allowed, proposal-allowed}

-- a label for each action
labels-long : (d : Context) (l : Name) (xs : List Action) (net : List Component) (r : Done) → act_all d l xs net ≡ accepted r → length r.labels ≡ length xs
unfolding act_all
labels-long d l [] net r e = ap (λ (z : Done). length z.labels) (sym (took e))
labels-long d l (x ∷ xs) net r e =
    let u = bind_inv (act_at d l x net) _ r e in
    let t = bind_inv (act_all d l xs u.0.comps) _ r u.2 in
    ap (λ (z : Done). length z.labels) (sym (took t.2)) ∙ ap suc (labels-long d l xs u.0.comps t.0 t.1)

whole_long : (d : Context) (l : Name) (xs : List Action) (net : List Component) (r : Done) → whole_step d l xs net ≡ accepted r → length r.labels ≡ length xs
unfolding whole_step
whole_long d l xs net r e =
    let u = bind_inv (act_all d l xs net) _ r e in
    let t = bind_inv (R.tick d l u.0.comps) _ r u.2 in
    ap (λ (z : Done). length z.labels) (sym (took t.2)) ∙ labels-long d l xs net u.0 u.1

wholes-alike : (w : List ℕ) (st : State) (l : ℕ) (xs ys : List Action) (r s : Done) → test_answer w st l ≡ accepted true → whole_step (context_of w) (loc_name w l) xs (net_of w st) ≡ accepted r
    → whole_step (context_of w) (loc_name w l) ys (net_of w st) ≡ accepted s → (r.comps ≡ s.comps) × (length xs ≡ length ys)
unfolding test_answer test_rule conforms_in
wholes-alike w st l xs ys r s t e f =
    let a = asked-inv 17 (valid w st) _ true t in
    let b = asked-inv 8 (ltb l (locs_in w)) _ true a.1 in
    let o = single-outcome (context_of w) (loc_name w l) xs ys (net_of w st) r s (record { conforming = took b.1; one = e; other = f }) in
    (o.ends, sym (whole_long _ _ xs _ r e) ∙ perm-long o.labels ∙ whole_long _ _ ys _ s f)

named-long : (rs : List Record) → length (named_by rs) ≡ length rs
named-long [] = refl
named-long (r ∷ rs) = ap suc (named-long rs)

pub proposals-alike : ProposalsAlike
proposals-alike w st l rs qs x y t e f =
    let p = wholes-alike w st l (named_by rs) (named_by qs) _ _ t (proposal-allowed w st l rs x e).1 (proposal-allowed w st l qs y f).1 in
    (p.0, sym (named-long rs) ∙ p.1 ∙ named-long qs)

pub proposal-like-step : ProposalLikeStep
proposal-like-step w st l size rs x s t e f =
    let p = wholes-alike w st l (named_by rs) s.actions _ _ t (proposal-allowed w st l rs x e).1 (step-allowed w st l size s f).1 in
    (p.0, sym (named-long rs) ∙ p.1)
