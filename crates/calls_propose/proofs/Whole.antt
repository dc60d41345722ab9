-- A proposal whose kinds are all in range, and for whose messages there is a count, is a whole step of the rules with question 13 after it, and what is kept
-- beside the components is what its actions one by one and then its tick leave. By induction on the list: a record is the action that it names.
use Prim.Native.Nat.{ℕ}
use mathlib.Core.List.{List, [], ◌∷◌}
use mathlib.Core.Bool.{Bool, true, false, cond}
use mathlib.Core.Path.{◌≡◌, refl, ap, ◌∙◌}
use lib.Dec.{ltb}
use Rattle.terms.specs.Names.{Name, same_name}
use Rattle.terms.specs.Terms.{Component, Context, fires_at}
use Rattle.terms.specs.Rules.{Answer, Action, Acted, ◌>>=◌, act}
use Rattle.terms.specs.Rules.Answer.{refused, accepted}
use Rattle.terms.specs.Step.{Done, act_at, act_all}
use Rattle.terms.proofs.Answers.{took, bind_inv}
use Rattle.waits.specs.Waits.{Tally, act_tally, acts_tally, countable}
use Rattle.waits.specs.Counted.{Counted, act_counted}
use Rattle.waits.specs.Counted as C
use Rattle.waits.proofs.Limits.{first-countable, rest-countable}
use Rattle.table.specs.declared.State.{State}
use Rattle.table.specs.Words.{locs_in, loc_name}
use Rattle.table.specs.Meaning.{context_of, net_of, tally_of}
use Rattle.calls_act.specs.Acted.{asked, action_of}
use Rattle.calls_tick.specs.Ticked.{tick_counted}
use Rattle.calls_propose.specs.declared.Record.{Record}
use Rattle.calls_propose.specs.Proposed.{here_only, record_rule, records_rule, propose_rule, actions_of}

-- components with what is kept beside them
abbrev with-tally : Tally → List Component → Counted
with-tally t cs = record { comps = cs; tally = t }

-- the label of an action before those of s
abbrev behind : Acted → Done → Done
behind r s = record { labels = r.label ∷ s.labels; comps = s.comps }

-- what an action leaves, with what is kept beside it
abbrev tallied : Tally → Acted → C.Acted
tallied t r = record { label = r.label; comps = r.comps; tally = t }

module _ (d : Context) (l : Name) where
  -- an action that is counted, if it fires at l
  counted-here : (a : Action) (k : Counted) → countable (a ∷ []) k.tally.count ≡ true → (act_counted d a k >>= here_only l) ≡ (act_at d l a k.comps >>= λ x. accepted (with-tally (act_tally a k.tally) x.comps))
  unfolding act_counted act_at here_only
  counted-here a k h = rw h (go (act d a k.comps))
    where
      fires : (r : Acted) (b : Bool) → cond b (accepted (with-tally (act_tally a k.tally) r.comps)) (refused 16) ≡ (cond b (accepted r) (refused 16) >>= λ x. accepted (with-tally (act_tally a k.tally) x.comps))
      fires r true = refl
      fires r false = refl

      go : (x : Answer Acted) → ((x >>= λ r. accepted (tallied (act_tally a k.tally) r)) >>= λ y. cond (same_name (fires_at y.label) l) (accepted (record { comps = y.comps; tally = y.tally })) (refused 16))
          ≡ ((x >>= λ r. cond (same_name (fires_at r.label) l) (accepted r) (refused 16)) >>= λ x. accepted (with-tally (act_tally a k.tally) x.comps))
      go (refused n) = refl
      go (accepted r) = fires r (same_name (fires_at r.label) l)

  -- an action, then what those after it leave
  then-all : (a : Action) (xs : List Action) (rs : List Record) (k : Counted) → ((cs : List Component) → records_rule d l rs (with-tally (act_tally a k.tally) cs) ≡ (act_all d l xs cs >>= λ s. accepted (with-tally (acts_tally xs (act_tally a k.tally)) s.comps)))
      → ((act_at d l a k.comps >>= λ x. accepted (with-tally (act_tally a k.tally) x.comps)) >>= records_rule d l rs) ≡ (act_all d l (a ∷ xs) k.comps >>= λ s. accepted (with-tally (acts_tally (a ∷ xs) k.tally) s.comps))
  unfolding act_all acts_tally
  then-all a xs rs k h = go (act_at d l a k.comps)
    where
      t : Tally
      t = acts_tally xs (act_tally a k.tally)

      last : (r : Acted) (y : Answer Done) → (y >>= λ s. accepted (with-tally t s.comps)) ≡ ((y >>= λ s. accepted (behind r s)) >>= λ s. accepted (with-tally t s.comps))
      last r (refused n) = refl
      last r (accepted s) = refl

      go : (x : Answer Acted) → ((x >>= λ y. accepted (with-tally (act_tally a k.tally) y.comps)) >>= records_rule d l rs)
          ≡ ((x >>= λ r. act_all d l xs r.comps >>= λ s. accepted (behind r s)) >>= λ s. accepted (with-tally (acts_tally xs (act_tally a k.tally)) s.comps))
      go (refused n) = refl
      go (accepted r) = h r.comps ∙ last r (act_all d l xs r.comps)

  records-all : (rs : List Record) (xs : List Action) → actions_of rs ≡ accepted xs → (k : Counted) → countable xs k.tally.count ≡ true
      → records_rule d l rs k ≡ (act_all d l xs k.comps >>= λ s. accepted (with-tally (acts_tally xs k.tally) s.comps))
  unfolding records_rule record_rule actions_of act_all acts_tally
  records-all [] xs e k h = rw (← took e)
  records-all (r ∷ rs) xs e k h =
      let a = bind_inv (action_of r.kind r.p r.q) _ xs e in
      let b = bind_inv (actions_of rs) _ xs a.2 in
      let z : (a.0 ∷ b.0) ≡ xs = took b.2 in
      let c : countable (a.0 ∷ b.0) k.tally.count ≡ true = ap (λ y. countable y k.tally.count) z ∙ h in
      ap (λ x. (x >>= λ y. act_counted d y k >>= here_only l) >>= records_rule d l rs) a.1
      ∙ ap (λ x. x >>= records_rule d l rs) (counted-here a.0 k (first-countable a.0 b.0 k.tally.count c))
      ∙ then-all a.0 b.0 rs k (λ cs. records-all rs b.0 b.1 (with-tally (act_tally a.0 k.tally) cs) (rest-countable a.0 b.0 k.tally c))
      ∙ ap (λ y. act_all d l y k.comps >>= λ s. accepted (with-tally (acts_tally y k.tally) s.comps)) z

pub proposal-whole : (w : List ℕ) (st : State) (l : ℕ) (rs : List Record) (xs : List Action) → actions_of rs ≡ accepted xs → countable xs (tally_of st).count ≡ true
    → propose_rule w st l rs ≡ asked 8 (ltb l (locs_in w)) (act_all (context_of w) (loc_name w l) xs (net_of w st) >>= λ s. tick_counted (context_of w) (loc_name w l) (record { comps = s.comps; tally = acts_tally xs (tally_of st) }))
unfolding propose_rule
proposal-whole w st l rs xs e h =
    ap (asked 8 (ltb l (locs_in w))) (ap (λ x. x >>= tick_counted (context_of w) (loc_name w l)) (records-all (context_of w) (loc_name w l) rs xs e (record { comps = net_of w st; tally = tally_of st }) h) ∙ go (act_all (context_of w) (loc_name w l) xs (net_of w st)))
  where
    go : (x : Answer Done) → ((x >>= λ s. accepted (with-tally (acts_tally xs (tally_of st)) s.comps)) >>= tick_counted (context_of w) (loc_name w l))
        ≡ (x >>= λ s. tick_counted (context_of w) (loc_name w l) (record { comps = s.comps; tally = acts_tally xs (tally_of st) }))
    go (refused n) = refl
    go (accepted s) = refl
