-- Demand 3 for the rules where a full table and a full message count are the reasons to turn down what they allow: a case of the claim for whatever is kept
-- beside the components. And over any list of calls, and over a whole step, waits, total and count stay as question 17 has them. By induction on the list.
use Prim.Native.Nat.{ℕ, suc}
use mathlib.Core.List.{List, [], ◌∷◌, Permᴰ}
use mathlib.Core.Bool.{Bool, true, false, cond}
use mathlib.Core.Path.{◌≡◌, refl, ap, subst, ◌∙◌}
use lib.Dec.{ltb}
use Rattle.terms.specs.Names.{Name, same_name}
use Rattle.terms.specs.Terms.{Component, Context, fires_at}
use Rattle.terms.specs.Rules.{Answer, Action, Acted, act, tick, unmarked}
use Rattle.terms.specs.Rules.Answer.{refused, accepted}
use Rattle.terms.specs.Rules.Action.{single, pair}
use Rattle.terms.specs.Step.{Done, Swept, act_at, act_all, fires, step}
use Rattle.terms.specs.Runs.{Call, answer, grouped_run, last_of}
use Rattle.waits.specs.Waits.{Tally, begun, act_tally, acts_tally, tick_tally, step_tally, countable}
use Rattle.waits.specs.Counted.{call_tally, Kept}
use Rattle.waits.specs.Limits.{full, judged_in_space, last_in_space, tallied_in_space}
use Rattle.terms.proofs.Answers.{took, bind_inv, cond-inv}
use Rattle.terms.proofs.Names.{and-inv}
use Rattle.terms.proofs.Sums.{Each}
use Rattle.terms.proofs.Mixed.{mixed-list}
use Rattle.terms.proofs.Steps.{fires-acts}
use Rattle.waits.proofs.Waits.{call_kept, tick-kept, act-kept, act-size, begun_kept}

-- the claim on components, with both reasons; which message an equal component sends, and so the grouped run's total, is no part of it
pub mixed-in-space : (d : Context) (cs : List Call) (net : List Component) (t : Tally) → Each (λ c. unmarked c ≡ true) net
    → (y : List Component) × (grouped_run d (judged_in_space d cs net t) net ≡ accepted (record { straight = last_in_space d cs net t; grouped = y })) × Permᴰ y (last_in_space d cs net t)
mixed-in-space d = mixed-list d (call_tally d) (full d)

-- ── any list of calls ──
module _ (d : Context) where
  pub list-kept : (cs : List Call) (s : List Component) (t : Tally) → Kept s t → Kept (last_in_space d cs s t) (tallied_in_space d cs s t)
  unfolding last_of tallied_in_space
  list-kept [] s t k = k
  list-kept (c ∷ cs) s t k = go (answer d c s) refl (full d c s t) refl (list-kept cs)
    where
      go : (a : Answer (List Component)) → answer d c s ≡ a → (b : Bool) → full d c s t ≡ b → ((s : List Component) (t : Tally) → Kept s t → Kept (last_in_space d cs s t) (tallied_in_space d cs s t))
          → Kept (elim a [ refused n ↦ last_in_space d cs s t | accepted s' ↦ cond b (last_in_space d cs s t) (last_in_space d cs s' (call_tally d c s t)) ])
          (elim a [ refused n ↦ tallied_in_space d cs s t | accepted s' ↦ cond b (tallied_in_space d cs s t) (tallied_in_space d cs s' (call_tally d c s t)) ])
      go (refused n) e b h i = i s t k
      go (accepted s') e true h i = i s t k
      go (accepted s') e false h i = i s' (call_tally d c s t) (call_kept d c s s' t e h k)

  -- from a network just read, whatever calls are given
  pub read_kept : (cs : List Call) (net : List Component) → Kept (last_in_space d cs net (begun net)) (tallied_in_space d cs net (begun net))
  read_kept cs net = list-kept cs net (begun net) (begun_kept net)

-- ── a whole step ──
pub first-countable : (a : Action) (xs : List Action) (n : ℕ) → countable (a ∷ xs) n ≡ true → countable (a ∷ []) n ≡ true
unfolding countable
first-countable (single k p) xs n h = refl
first-countable (pair p q) xs n h = rw (and-inv (ltb n 1_000_000) (countable xs (suc n)) h).0

pub rest-countable : (a : Action) (xs : List Action) (t : Tally) → countable (a ∷ xs) t.count ≡ true → countable xs (act_tally a t).count ≡ true
unfolding countable act_tally
rest-countable (single k p) xs t h = h
rest-countable (pair p q) xs t h = (and-inv (ltb t.count 1_000_000) (countable xs (suc t.count)) h).1

one-act : (d : Context) (l : Name) (a : Action) (cs : List Component) (t : Tally) (r : Acted) → act_at d l a cs ≡ accepted r → countable (a ∷ []) t.count ≡ true → Kept cs t → Kept r.comps (act_tally a t)
unfolding act_at
one-act d l a cs t r e h k =
    let u = bind_inv (act d a cs) _ r e in
    let v = cond-inv (same_name (fires_at u.0.label) l) u.0 r 16 u.2 in
    act-kept a cs r.comps t (act-size d a cs r (u.1 ∙ ap accepted v.1)) h k

acts-kept : (d : Context) (l : Name) (xs : List Action) (cs : List Component) (t : Tally) (r : Done) → act_all d l xs cs ≡ accepted r → countable xs t.count ≡ true → Kept cs t → Kept r.comps (acts_tally xs t)
unfolding act_all acts_tally
acts-kept d l [] cs t r e h k = subst (λ r. Kept (Done.comps r) t) (took e) k
acts-kept d l (a ∷ xs) cs t r e h k =
    let u = bind_inv (act_at d l a cs) _ r e in
    let s = bind_inv (act_all d l xs u.0.comps) _ r u.2 in
    let i = one-act d l a cs t u.0 u.1 (first-countable a xs t.count h) k in
    subst (λ r. Kept (Done.comps r) (acts_tally xs (act_tally a t))) (took s.2) (acts-kept d l xs u.0.comps (act_tally a t) s.0 s.1 (rest-countable a xs t h) i)

-- a step that question 18 does not turn down
pub step_kept : (d : Context) (l : Name) (cs : List Component) (t : Tally) (s : Swept) → step d l cs ≡ accepted s → countable (fires d l cs).actions t.count ≡ true → Kept cs t → Kept s.comps (step_tally d l cs t)
unfolding step step_tally
step_kept d l cs t s e h k =
    let u = bind_inv (tick d l (fires d l cs).comps) _ s e in
    let i = acts-kept d l (fires d l cs).actions cs t _ (fires-acts d l cs) h k in
    subst (λ s. Kept (Swept.comps s) (tick_tally d l (fires d l cs).comps (acts_tally (fires d l cs).actions t))) (took u.2) (tick-kept d l (fires d l cs).comps u.0 (acts_tally (fires d l cs).actions t) u.1 i)
