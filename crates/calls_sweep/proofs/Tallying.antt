-- Waits, total and count after the actions of a sweep: those that the actions give one by one.
-- By induction on the positions; at each the action's own law on the table.
use Prim.Native.Nat.{ℕ, zero, suc, ◌+◌}
use native.Mathlib.Omega.{arith}
use mathlib.Core.List.{List, [], ◌∷◌, ◌++◌}
use mathlib.Core.Path.{◌≡◌, refl, sym, ap, ◌∙◌}
use Rattle.terms.specs.Rules.{Answer, Action, at}
use Rattle.terms.specs.Rules.Answer.{refused, accepted}
use Rattle.terms.specs.Rules.Action.{single, pair}
use Rattle.waits.specs.Waits.{Tally, act_tally, acts_tally, messages}
use Rattle.waits.proofs.Counting.{messages-append, acts-append}
use Rattle.table.specs.declared.Comp.{Comp}
use Rattle.table.specs.Meaning.{waits_of}
use Rattle.table.specs.Fire.{ActedAt, act_on}
use Rattle.table_waits.proofs.Waits.{tally-is, act-waits}
use Rattle.calls_sweep.specs.Sweep.{choice_at, SweptAt, sent_wait, idle_at, took_at, taken_at, visit_at, sweep_at}

-- components with a total and a count beside them
abbrev tallied : List Comp → ℕ → ℕ → Tally
tallied cs t n = record { waits = waits_of cs; total = t; count = n }

module _ (w : List ℕ) where
  -- what the actions of r make of what is kept beside cs
  abbrev Tallies : List Comp → SweptAt → Type 0
  Tallies cs r = (t n : ℕ) → acts_tally r.actions (tallied cs t n) ≡ tallied r.comps (t + r.sum) (n + messages r.actions)

  idle-tallies : (cs : List Comp) → Tallies cs (idle_at cs)
  unfolding acts_tally messages
  idle-tallies cs t n = tally-is (tallied cs t n) (tallied cs (t + 0) (n + 0)) refl (omega arith) (omega arith)

  total_of : (a : Action) (cs : List Comp) (t n : ℕ) → (act_tally a (tallied cs t n)).total ≡ t + sent_wait a cs
  unfolding act_tally
  total_of (single k p) cs t n = omega arith
  total_of (pair p q) cs t n = refl

  count_of : (a : Action) (cs : List Comp) (t n : ℕ) → (act_tally a (tallied cs t n)).count ≡ n + messages (a ∷ [])
  unfolding act_tally messages
  count_of (single k p) cs t n = omega arith
  count_of (pair p q) cs t n = omega arith

  took-tallies : (a : Action) (x : Answer ActedAt) (cs : List Comp) → act_on w a cs ≡ x → Tallies cs (took_at a x cs)
  unfolding acts_tally
  took-tallies a (refused m) cs e t n = idle-tallies cs t n
  took-tallies a (accepted r) cs e t n = tally-is (act_tally a (tallied cs t n)) (tallied r.comps (t + sent_wait a cs) (n + messages (a ∷ []))) (sym (act-waits w a cs (tallied cs t n) refl r e)) (total_of a cs t n) (count_of a cs t n)

  visit-tallies : (l p : ℕ) (x : Answer Comp) (cs : List Comp) → Tallies cs (visit_at w l p x cs)
  visit-tallies l p (refused m) cs = idle-tallies cs
  visit-tallies l p (accepted c) cs = go (choice_at w l p c cs)
    where
      go : (y : Answer Action) → Tallies cs (taken_at w y cs)
      go (refused m) = idle-tallies cs
      go (accepted a) = took-tallies a (act_on w a cs) cs refl

  pub sweep-tallies : (l p m : ℕ) (cs : List Comp) (t n : ℕ)
      → acts_tally (sweep_at w l p m cs).actions (record { waits = waits_of cs; total = t; count = n })
      ≡ record { waits = waits_of (sweep_at w l p m cs).comps; total = t + (sweep_at w l p m cs).sum; count = n + messages (sweep_at w l p m cs).actions }
  unfolding sweep_at
  sweep-tallies l p zero cs t n = idle-tallies cs t n
  sweep-tallies l p (suc m) cs t n =
      let r = visit_at w l p (at cs p) cs in
      let s = sweep_at w l (suc p) m r.comps in
      acts-append r.actions s.actions (tallied cs t n)
      ∙ ap (acts_tally s.actions) (visit-tallies l p (at cs p) cs t n)
      ∙ sweep-tallies l (suc p) m r.comps (t + r.sum) (n + messages r.actions)
      ∙ tally-is (tallied s.comps (t + r.sum + s.sum) (n + messages r.actions + messages s.actions)) (tallied s.comps (t + (r.sum + s.sum)) (n + messages (r.actions ++ s.actions))) refl (omega arith) (omega (arith, messages-append r.actions s.actions))
