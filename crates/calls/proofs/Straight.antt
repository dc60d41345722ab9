-- What each call of a list is for the straight run of the rules: an accepted one is taken as the rules have it, a step of either sort or a proposal as its
-- actions one by one and then the tick; a refused one counts for nothing. By the equation of each call, then by induction on the list.
use Prim.Native.Nat.{ℕ}
use mathlib.Core.List.{List, [], ◌∷◌, ◌++◌, map}
use mathlib.Core.Bool.{Bool, true, false}
use mathlib.Core.Path.{◌≡◌, refl, sym, ap, subst, ◌∙◌}
use lib.Dec.{ltb, leb}
use lib.ListN.{length}
use Rattle.terms.specs.Names.{Name, same_name}
use Rattle.terms.specs.Terms.{Component, Context, Label, fires_at}
use Rattle.terms.specs.Rules.{Answer, Action, ◌>>=◌, act, tick, ok}
use Rattle.terms.specs.Rules as R
use Rattle.terms.specs.Rules.Answer.{refused, accepted}
use Rattle.terms.specs.Step.{Done, act_at, act_all, whole_step, fires, step}
use Rattle.terms.specs.Runs.{Fed, straight_run}
use Rattle.terms.specs.Runs.Call.{acting, ticking}
use Rattle.terms.specs.Runs.Fed.{fed}
use Rattle.terms.proofs.Answers.{clash, took, bind_inv, cond-inv}
use Rattle.terms.proofs.Steps.{step-whole}
use Rattle.waits.specs.Waits.{step_tally, countable}
use Rattle.waits.specs.Counted.{Counted, Acted, act_counted}
use Rattle.table.specs.declared.State.{State}
use Rattle.table.specs.Words.{locs_in, loc_name}
use Rattle.table.specs.Meaning.{context_of, net_of, tally_of, counted_of}
use Rattle.table.specs.Valid.{valid}
use Rattle.calls_act.specs.Acted.{asked, action_of, action_rule, action_answer}
use Rattle.calls_tick.specs.Ticked.{room, tick_counted, tick_rule, tick_answer}
use Rattle.calls_step.specs.Stepped.{Step, step_of, step_counted, step_rule, step_answer}
use Rattle.calls_profile.specs.Profiled.{conforms_in, conforming_rule, conforming_answer}
use Rattle.calls_propose.specs.declared.Record.{Record}
use Rattle.calls_propose.specs.Proposed.{here_only, record_rule, records_rule, propose_rule, propose_answer}
use Rattle.calls.specs.Run.{Given, answer_to, DoesAs, action_for, named, named_by, acted, whole, step_feeds, proposal_feeds, feeds, Run}
use Rattle.calls.specs.Run as G
use Rattle.calls.specs.Run.Run.{over, then}

pub asked-inv : {A : Type 0} (n : ℕ) (b : Bool) (x : Answer A) (a : A) → asked n b x ≡ accepted a → (b ≡ true) × (x ≡ accepted a)
asked-inv n true x a e = (refl, e)
asked-inv n false x a e = clash e

room-inv : (cs ds : List Component) → room cs ≡ accepted ds → cs ≡ ds
unfolding room
room-inv cs ds e = took (asked-inv 13 (leb (length cs) 256) (accepted cs) ds e).1

-- ── one call that is accepted ──
-- a tick that there is space for is one that the rules allow
counted-allowed : (d : Context) (l : Name) (k x : Counted) → tick_counted d l k ≡ accepted x → tick d l k.comps ≡ accepted x.comps
unfolding tick_counted
counted-allowed d l k x e =
    let u = bind_inv (tick d l k.comps >>= room) _ x e in
    let r = bind_inv (tick d l k.comps) room u.0 u.1 in
    r.1 ∙ ap accepted (room-inv r.0 u.0 r.2 ∙ ap (λ z. z.comps) (took u.2))

tick-allowed : (w : List ℕ) (st : State) (l : ℕ) (x : Counted) → tick_answer w st l ≡ accepted x → tick (context_of w) (loc_name w l) (net_of w st) ≡ accepted x.comps
unfolding tick_answer tick_rule
tick-allowed w st l x e =
    let a = asked-inv 17 (valid w st) _ x e in
    let b = asked-inv 8 (ltb l (locs_in w)) _ x a.1 in
    counted-allowed (context_of w) (loc_name w l) (counted_of w st) x b.1

-- and so is an action
act-counted : (d : Context) (a : Action) (k : Counted) (r : Acted) → act_counted d a k ≡ accepted r → act d a k.comps ≡ accepted (record { label = r.label; comps = r.comps })
unfolding act_counted
act-counted d a k r e =
    let u = bind_inv (act d a k.comps) _ r e in
    let c = cond-inv (countable (a ∷ []) k.tally.count) _ r 18 u.2 in
    u.1 ∙ ap (λ z. accepted (record { label = z.label; comps = z.comps })) c.1

action-allowed : (w : List ℕ) (st : State) (k p q : ℕ) (r : Acted) → action_answer w st k p q ≡ accepted r → act (context_of w) (named k p q) (net_of w st) ≡ accepted (record { label = r.label; comps = r.comps })
unfolding action_answer action_rule
action-allowed w st k p q r e =
    let a = asked-inv 17 (valid w st) _ r e in
    go (action_of k p q) a.1
  where
    go : (x : Answer Action) → (x >>= λ a. act_counted (context_of w) a (counted_of w st)) ≡ accepted r → act (context_of w) (action_for x p q) (net_of w st) ≡ accepted (record { label = r.label; comps = r.comps })
    go (refused n) e = clash e
    go (accepted a) e = act-counted (context_of w) a (counted_of w st) r e

-- ── actions one by one, then the tick ──
act-straight : (d : Context) (x : Action) (net : List Component) (r : R.Acted) (fs : List Fed) → act d x net ≡ accepted r → straight_run d (acted x ∷ fs) net ≡ straight_run d fs r.comps
unfolding straight_run
act-straight d x net r fs e = rw e

here-straight : (d : Context) (l : Name) (x : Action) (net : List Component) (r : R.Acted) (fs : List Fed) → act_at d l x net ≡ accepted r → straight_run d (acted x ∷ fs) net ≡ straight_run d fs r.comps
unfolding act_at
here-straight d l x net r fs e =
    let a = bind_inv (act d x net) _ r e in
    let c = cond-inv (same_name (fires_at a.0.label) l) a.0 r 16 a.2 in
    act-straight d x net r fs (a.1 ∙ ap accepted c.1)

acts-straight : (d : Context) (l : Name) (xs : List Action) (net : List Component) (s : Done) (fs : List Fed) → act_all d l xs net ≡ accepted s → straight_run d (map acted xs ++ fs) net ≡ straight_run d fs s.comps
unfolding act_all
acts-straight d l [] net s fs e = ap (λ z. straight_run d fs z.comps) (took e)
acts-straight d l (x ∷ xs) net s fs e =
    let u = bind_inv (act_at d l x net) _ s e in
    let t = bind_inv (act_all d l xs u.0.comps) _ s u.2 in
    here-straight d l x net u.0 (map acted xs ++ fs) u.1 ∙ acts-straight d l xs u.0.comps t.0 fs t.1 ∙ ap (λ z. straight_run d fs z.comps) (took t.2)

tick-straight : (d : Context) (l : Name) (net after : List Component) → tick d l net ≡ accepted after → straight_run d (fed (ticking l) true ∷ []) net ≡ accepted after
unfolding straight_run
tick-straight d l net after e = rw e

whole-straight : (d : Context) (l : Name) (xs : List Action) (net : List Component) (r : Done) → whole_step d l xs net ≡ accepted r → straight_run d (whole l xs) net ≡ accepted r.comps
unfolding whole_step
whole-straight d l xs net r e =
    let x = bind_inv (act_all d l xs net) _ r e in
    let t = bind_inv (tick d l x.0.comps) _ r x.2 in
    acts-straight d l xs net x.0 _ x.1 ∙ tick-straight d l x.0.comps t.0 t.1 ∙ ap accepted (ap (λ z. z.comps) (took t.2))

-- ── a step and a proposal that are accepted are whole steps of the rules ──
pub step-allowed : (w : List ℕ) (st : State) (l size : ℕ) (s : Step) → step_answer w st l size ≡ accepted s
    → (ls : List Label) × (whole_step (context_of w) (loc_name w l) s.actions (net_of w st) ≡ accepted (record { labels = ls; comps = s.comps }))
unfolding step_answer step_rule step_counted
step-allowed w st l size s e =
    let a = asked-inv 17 (valid w st) _ s e in
    let b = asked-inv 8 (ltb l (locs_in w)) _ s a.1 in
    let c = asked-inv 15 (leb (length (fires (context_of w) (loc_name w l) (net_of w st)).actions) size) _ s b.1 in
    let n = asked-inv 18 (countable (fires (context_of w) (loc_name w l) (net_of w st)).actions (tally_of st).count) _ s c.1 in
    let r = bind_inv (step (context_of w) (loc_name w l) (net_of w st)) _ s n.1 in
    let m = bind_inv (room r.0.comps) _ s r.2 in
    let t₀ = step_tally (context_of w) (loc_name w l) (net_of w st) (tally_of st) in
    let q : step_of r.0.actions r.0.comps t₀ ≡ s = ap (λ cs. step_of r.0.actions cs t₀) (room-inv r.0.comps m.0 m.1) ∙ took m.2 in (
      r.0.labels,
      subst (λ z. whole_step (context_of w) (loc_name w l) z.actions (net_of w st) ≡ accepted (record { labels = r.0.labels; comps = z.comps })) q (step-whole (context_of w) (loc_name w l) (net_of w st) r.0 r.1),
    )

-- what the records leave is what their actions leave
records-allowed : (d : Context) (l : Name) (rs : List Record) (k after : Counted) → records_rule d l rs k ≡ accepted after
    → (ls : List Label) × (act_all d l (named_by rs) k.comps ≡ accepted (record { labels = ls; comps = after.comps }))
unfolding records_rule record_rule here_only act_all act_at
records-allowed d l [] k after e = ([], ap (λ z. accepted (record { labels = []; comps = z.comps })) (took e))
records-allowed d l (r ∷ rs) k after e =
    let u = bind_inv (action_of r.kind r.p r.q >>= λ a. act_counted d a k >>= here_only l) _ after e in
    let a = bind_inv (action_of r.kind r.p r.q) _ u.0 u.1 in
    let x = bind_inv (act_counted d a.0 k) _ u.0 a.2 in
    let c = cond-inv (same_name (fires_at x.0.label) l) _ u.0 16 x.2 in
    let z : named r.kind r.p r.q ≡ a.0 = ap (λ y. action_for y r.p r.q) a.1 in
    let t = records-allowed d l rs u.0 after u.2 in
    let i : act_all d l (named_by rs) x.0.comps ≡ accepted (record { labels = t.0; comps = after.comps }) = ap (λ (y : Counted). act_all d l (named_by rs) y.comps) c.1 ∙ t.1 in
    (x.0.label ∷ t.0, rw (z, act-counted d a.0 k x.0 x.1, c.0, i))

pub proposal-allowed : (w : List ℕ) (st : State) (l : ℕ) (rs : List Record) (x : Counted) → propose_answer w st l rs ≡ accepted x
    → (ls : List Label) × (whole_step (context_of w) (loc_name w l) (named_by rs) (net_of w st) ≡ accepted (record { labels = ls; comps = x.comps }))
unfolding propose_answer propose_rule whole_step
proposal-allowed w st l rs x e =
    let a = asked-inv 17 (valid w st) _ x e in
    let b = asked-inv 8 (ltb l (locs_in w)) _ x a.1 in
    let r = bind_inv (records_rule (context_of w) (loc_name w l) rs (counted_of w st)) _ x b.1 in
    let t = records-allowed (context_of w) (loc_name w l) rs (counted_of w st) r.0 r.1 in
    (t.0, rw (t.1, counted-allowed (context_of w) (loc_name w l) r.0 x r.2))

-- an accepted conforming step is an accepted step
conforming-step : (w : List ℕ) (st : State) (l size : ℕ) (s : Step) → conforming_answer w st l size ≡ accepted s → step_answer w st l size ≡ accepted s
unfolding step_answer conforming_answer conforming_rule
conforming-step w st l size s e =
    let a = asked-inv 17 (valid w st) _ s e in
    let b = asked-inv 8 (ltb l (locs_in w)) _ s a.1 in
    let c = asked-inv 26 (conforms_in w st l) _ s b.1 in
    rw a.0 c.1

-- the answer x of a call that does what the step does where it is accepted
step-fed : (w : List ℕ) (st : State) (l size : ℕ) (x : Answer Step) (k : ℕ) (next : State) → ((s : Step) → x ≡ accepted s → step_answer w st l size ≡ accepted s)
    → DoesAs w st (x >>= λ s. accepted (record { comps = s.comps; tally = s.tally })) k next → straight_run (context_of w) (step_feeds (loc_name w l) x) (net_of w st) ≡ accepted (net_of w next)
step-fed w st l size (refused n) k next f h = unfold straight_run in ap (λ z. accepted (net_of w z)) (sym h.1)
step-fed w st l size (accepted s) k next f h = whole-straight (context_of w) (loc_name w l) s.actions (net_of w st) _ (step-allowed w st l size s (f s refl)).1 ∙ ap accepted (sym h.comps)

-- ── one call of a list ──
run-append : (d : Context) (xs ys : List Fed) (net : List Component) → straight_run d (xs ++ ys) net ≡ (straight_run d xs net >>= straight_run d ys)
unfolding straight_run
run-append d [] ys net = refl
run-append d (fed c false ∷ xs) ys net = run-append d xs ys net
run-append d (fed (acting a) true ∷ xs) ys net = go (act d a net) (λ m. run-append d xs ys m)
  where
    go : (x : Answer R.Acted) → ((m : List Component) → straight_run d (xs ++ ys) m ≡ (straight_run d xs m >>= straight_run d ys))
        → (x >>= λ r. straight_run d (xs ++ ys) r.comps) ≡ ((x >>= λ r. straight_run d xs r.comps) >>= straight_run d ys)
    go (refused n) h = refl
    go (accepted r) h = h r.comps
run-append d (fed (ticking l) true ∷ xs) ys net = go (tick d l net) (λ m. run-append d xs ys m)
  where
    go : (x : Answer (List Component)) → ((m : List Component) → straight_run d (xs ++ ys) m ≡ (straight_run d xs m >>= straight_run d ys))
        → (x >>= λ m. straight_run d (xs ++ ys) m) ≡ ((x >>= λ m. straight_run d xs m) >>= straight_run d ys)
    go (refused n) h = refl
    go (accepted m) h = h m

call-straight : (w : List ℕ) (st : State) (g : Given) (k : ℕ) (next : State) → DoesAs w st (answer_to w st g) k next → straight_run (context_of w) (feeds w st g) (net_of w st) ≡ accepted (net_of w next)
unfolding answer_to feeds
call-straight w st (G.action k p q) j next h = go (action_answer w st k p q) refl h
  where
    go : (x : Answer Acted) → action_answer w st k p q ≡ x → DoesAs w st (x >>= λ a. accepted (record { comps = a.comps; tally = a.tally })) j next → straight_run (context_of w) (fed (acting (named k p q)) (ok x) ∷ []) (net_of w st) ≡ accepted (net_of w next)
    go (refused n) e h = unfold straight_run in ap (λ z. accepted (net_of w z)) (sym h.1)
    go (accepted a) e h = unfold straight_run in rw (action-allowed w st k p q a e) (ap accepted (sym h.comps))
call-straight w st (G.tick l) j next h = go (tick_answer w st l) refl h
  where
    go : (x : Answer Counted) → tick_answer w st l ≡ x → DoesAs w st x j next → straight_run (context_of w) (fed (ticking (loc_name w l)) (ok x) ∷ []) (net_of w st) ≡ accepted (net_of w next)
    go (refused n) e h = unfold straight_run in ap (λ z. accepted (net_of w z)) (sym h.1)
    go (accepted cs) e h = tick-straight (context_of w) (loc_name w l) (net_of w st) cs.comps (tick-allowed w st l cs e) ∙ ap accepted (sym h.comps)
call-straight w st (G.step l size) j next h = step-fed w st l size (step_answer w st l size) j next (λ s e. e) h
call-straight w st (G.conforming_step l size) j next h = step-fed w st l size (conforming_answer w st l size) j next (conforming-step w st l size) h
call-straight w st (G.proposal l rs) j next h = go (propose_answer w st l rs) refl h
  where
    go : (x : Answer Counted) → propose_answer w st l rs ≡ x → DoesAs w st x j next → straight_run (context_of w) (proposal_feeds (loc_name w l) rs x) (net_of w st) ≡ accepted (net_of w next)
    go (refused n) e h = unfold straight_run in ap (λ z. accepted (net_of w z)) (sym h.1)
    go (accepted x) e h = whole-straight (context_of w) (loc_name w l) _ (net_of w st) _ (proposal-allowed w st l rs x e).1 ∙ ap accepted (sym h.comps)

-- ── the list ──
pub straight-run : (w : List ℕ) {st last : State} {gs : List Given} {ks : List ℕ} {fs : List Fed} → Run w st gs ks fs last → straight_run (context_of w) fs (net_of w st) ≡ accepted (net_of w last)
straight-run w over = unfold straight_run in refl
straight-run w (then {st = st} {next = next} {g = g} {k = k} {fs = fs} d r) = run-append (context_of w) (feeds w st g) fs (net_of w st) ∙ rw (call-straight w st g k next d) (straight-run w r)
