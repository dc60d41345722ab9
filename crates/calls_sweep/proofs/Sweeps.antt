-- The sweep on a valid table stands for the sweep of the rules: the same actions, and components that stand for the rules' ones.
-- By induction on the positions; at each the choice is the same, whatever number says that there is none.
use Prim.Native.Nat.{ℕ, zero, suc, ◌<◌}
use mathlib.Core.List.{List, ◌++◌, map}
use mathlib.Core.Bool.{Bool, true, false, cond, ◌&&◌}
use mathlib.Core.Path.{◌≡◌, refl, sym, ap, subst, ◌∙◌, fun_ext}
use lib.Dec.{ltb}
use lib.ListN.{length, length-map}
use Rattle.terms.specs.Same.{every}
use Rattle.terms.specs.Rules.{Answer, Action, ◌>>=◌, ok, at, fire, due_go}
use Rattle.terms.specs.Rules.Answer.{refused, accepted}
use Rattle.terms.specs.Rules.Kind.{calls, moves}
use Rattle.terms.specs.Rules.Firing.{alone}
use Rattle.terms.specs.Rules.Action.{single, pair}
use Rattle.terms.specs.Step.{Swept, foremost, partner, choice, idle, took_place, taken, followed, visit, sweep, fires}
use Rattle.table.specs.declared.Comp.{Comp}
use Rattle.table.specs.declared.Head.{Head}
use Rattle.table.specs.declared.Head.TheVariants.{Stop, Go, Out, In, Call}
use Rattle.table.specs.Words.{locs_in, loc_name, head_at}
use Rattle.table.specs.Meaning.{context_of, means}
use Rattle.table.specs.Valid.{script_ok, comp_ok}
use Rattle.table.specs.Split.{due_at}
use Rattle.table.specs.Fire.{may_meet, granted_at, rightly, right_in, ActedAt, act_on, alone_at, becomes_at, ready_at, hears, fits_alone}
use Rattle.table.proofs.Tests.{CompFine, comp-fine}
use Rattle.terms.proofs.Lists.{every-at}
use Rattle.table.proofs.Fires.{map_a, acted_of, at_map}
use Rattle.table.proofs.Granted.{act-means}
use Rattle.table.proofs.ValidBool.{and-true, and-false}
use Rattle.table.proofs.Ticks.{ready-means, alone-ok, due-here, is_due, is-ready, meets}
use Rattle.table.proofs.Kept.{ok_a, good_acted, act-kept}
use Rattle.calls_wait.specs.Waits.{waits, before_at, partner_at}
use Rattle.calls_wait.proofs.Partners.{foremost-nothing, partner-stands}
use Rattle.calls_sweep.specs.Sweep.{chosen_by, choice_at, SweptAt, idle_at, took_at, taken_at, visit_at, followed_at, sweep_at}

-- ── the choice ──
-- the same action, or none in either
abbrev Agree : Answer Action → Answer Action → Type 0
Agree (refused m) (refused n) = Unit {0}
Agree (refused m) (accepted b) = ⊥
Agree (accepted a) (refused n) = ⊥
Agree (accepted a) (accepted b) = a ≡ b

agree_refl : (x : Answer Action) → Agree x x
agree_refl (refused n) = tt
agree_refl (accepted a) = refl

module _ (w : List ℕ) (good : script_ok w ≡ true) (l : ℕ) (inl : l < locs_in w) where
  -- what the rules choose at a component ready at l, by its head
  by-head : (p : ℕ) (c : Comp) (cs : List Comp) (h : Head)
      → Agree (cond (ok (becomes_at w calls c h >>= rightly w)) (accepted (single calls p)) (cond (is_due c h) (accepted (single moves p)) (foremost before_at (λ e. ready_at l e && (meets h (head_at w e.place) && right_in w c h)) cs >>= λ q. accepted (pair p q))))
      (chosen_by w l p c cs h)
  unfolding becomes_at rightly granted_at is_due meets right_in chosen_by
  by-head p c cs Stop = rw (foremost-nothing before_at _ cs (λ e. and-false (ready_at l e))) tt
  by-head p c cs (Go t v q) = go (due_at c)
    where
      go : (b : Bool) → Agree (cond b (accepted (single moves p)) (foremost before_at (λ e. ready_at l e && false) cs >>= λ q. accepted (pair p q))) (cond b (accepted (single moves p)) (refused 0))
      go true = refl
      go false = rw (foremost-nothing before_at _ cs (λ e. and-false (ready_at l e))) tt
  by-head p c cs (Out h t v q r) = go (may_meet w c.loc h)
    where
      go : (b : Bool) → Agree (foremost before_at (λ e. ready_at l e && (hears h (head_at w e.place) && b)) cs >>= λ q. accepted (pair p q)) (cond b (partner_at w l h cs >>= λ q. accepted (pair p q)) (refused 8))
      go true = unfold partner_at in rw (ap (λ k. foremost before_at k cs) (fun_ext (λ e. ap (◌&&◌ (ready_at l e)) (and-true (hears h (head_at w e.place)))))) (agree_refl (foremost before_at (waits w l h) cs >>= λ q. accepted (pair p q)))
      go false = rw (foremost-nothing before_at _ cs (λ e. ap (◌&&◌ (ready_at l e)) (and-false (hears h (head_at w e.place))) ∙ and-false (ready_at l e))) tt
  by-head p c cs (In h t k q r) = rw (foremost-nothing before_at _ cs (λ e. and-false (ready_at l e))) tt
  by-head p c cs (Call d n) = refl

  choice-agrees : (p : ℕ) (c : Comp) (cs : List Comp) → CompFine w c → every (comp_ok w) cs ≡ true → Agree (choice (context_of w) (loc_name w l) p (means w c) (map (means w) cs)) (choice_at w l p c cs)
  unfolding choice choice_at
  choice-agrees p c cs f e = rw (ready-means w good l c inl f) (go (ready_at l c) refl)
    where
      go : (b : Bool) → ready_at l c ≡ b
          → Agree (cond b (cond (ok (fire (context_of w) (alone calls (means w c)))) (accepted (single calls p)) (cond (due_go (means w c)) (accepted (single moves p)) (partner (context_of w) (loc_name w l) (means w c) (map (means w) cs) >>= λ q. accepted (pair p q)))) (refused 0))
          (cond b (chosen_by w l p c cs (head_at w c.place)) (refused 0))
      go false q = tt
      go true q =
          let r = is-ready w good l c q in
          let a : ok (fire (context_of w) (alone calls (means w c))) ≡ ok (becomes_at w calls c (head_at w c.place) >>= rightly w) = alone-ok w good calls c f ∙ (free-alone c r.free) in
          rw (a, due-here w good c r.free, partner-stands w good l inl c cs f e r) (by-head p c cs (head_at w c.place))
        where
          free-alone : (c : Comp) → ltb c.mark 64 ≡ false → ok (alone_at w calls c) ≡ ok (becomes_at w calls c (head_at w c.place) >>= rightly w)
          free-alone c e = unfold alone_at fits_alone in rw e

  -- ── what a choice leaves ──
  pub record Like (r : Swept) (s : SweptAt) : Type 0 where
    pub actions : r.actions ≡ s.actions
    pub comps : r.comps ≡ map (means w) s.comps
    pub fine : every (comp_ok w) s.comps ≡ true
    pub size : length s.comps ≡ length r.comps

  idle-like : (cs : List Comp) → every (comp_ok w) cs ≡ true → Like (idle (map (means w) cs)) (idle_at cs)
  unfolding idle
  idle-like cs e = record { actions = refl; comps = refl; fine = e; size = sym (length-map cs (means w)) }

  took-like : (a : Action) (cs : List Comp) → every (comp_ok w) cs ≡ true → Like (taken (context_of w) (accepted a) (map (means w) cs)) (taken_at w (accepted a) cs)
  unfolding taken
  took-like a cs e = subst (λ x. Like (took_place a x (map (means w) cs)) (took_at a (act_on w a cs) cs)) (act-means w good cs e a) (go (act_on w a cs) (act-kept w good cs e a))
    where
      go : (x : Answer ActedAt) → ok_a (good_acted w) x ≡ true → Like (took_place a (map_a (acted_of w) x) (map (means w) cs)) (took_at a x cs)
      go (refused n) g = unfold took_place in idle-like cs e
      go (accepted r) g = unfold took_place acted_of in record { actions = refl; comps = refl; fine = g; size = sym (length-map r.comps (means w)) }

  taken-like : (x y : Answer Action) (cs : List Comp) → Agree x y → every (comp_ok w) cs ≡ true → Like (taken (context_of w) x (map (means w) cs)) (taken_at w y cs)
  taken-like (refused m) (refused n) cs a e = unfold taken in idle-like cs e
  taken-like (refused m) (accepted b) cs a e = absurd a
  taken-like (accepted a) (refused n) cs q e = absurd q
  taken-like (accepted a) (accepted b) cs q e = subst (λ z. Like (taken (context_of w) (accepted a) (map (means w) cs)) (taken_at w (accepted z) cs)) q (took-like a cs e)

  visit-like : (p : ℕ) (cs : List Comp) → every (comp_ok w) cs ≡ true → Like (visit (context_of w) (loc_name w l) p (at (map (means w) cs) p) (map (means w) cs)) (visit_at w l p (at cs p) cs)
  visit-like p cs e = rw (at_map (means w) cs p) (go (at cs p) refl)
    where
      go : (x : Answer Comp) → at cs p ≡ x → Like (visit (context_of w) (loc_name w l) p (map_a (means w) x) (map (means w) cs)) (visit_at w l p x cs)
      go (refused n) q = unfold visit in idle-like cs e
      go (accepted c) q = unfold visit in taken-like _ _ cs (choice-agrees p c cs (comp-fine w c (every-at (comp_ok w) cs p c e q)) e) e

  sweep-like : (n p : ℕ) (cs : List Comp) → every (comp_ok w) cs ≡ true → Like (sweep (context_of w) (loc_name w l) p n (map (means w) cs)) (sweep_at w l p n cs)
  unfolding sweep sweep_at followed
  sweep-like zero p cs e = idle-like cs e
  sweep-like (suc n) p cs e =
      let v = visit-like p cs e in
      let s = sweep-like n (suc p) (visit_at w l p (at cs p) cs).comps v.fine in
      join (visit (context_of w) (loc_name w l) p (at (map (means w) cs) p) (map (means w) cs)) (visit_at w l p (at cs p) cs) v s
    where
      join : (r : Swept) (s : SweptAt) → Like r s → Like (sweep (context_of w) (loc_name w l) (suc p) n (map (means w) s.comps)) (sweep_at w l (suc p) n s.comps)
          → Like (record { actions = r.actions ++ (sweep (context_of w) (loc_name w l) (suc p) n r.comps).actions; labels = r.labels ++ (sweep (context_of w) (loc_name w l) (suc p) n r.comps).labels; comps = (sweep (context_of w) (loc_name w l) (suc p) n r.comps).comps }) (followed_at s (sweep_at w l (suc p) n))
      join r s a b = record {
        actions = ap (λ z. r.actions ++ (sweep (context_of w) (loc_name w l) (suc p) n z).actions) a.comps ∙ rw (a.actions, b.actions);
        comps = ap (λ z. (sweep (context_of w) (loc_name w l) (suc p) n z).comps) a.comps ∙ b.comps;
        fine = b.fine;
        size = b.size ∙ ap (λ z. length (sweep (context_of w) (loc_name w l) (suc p) n z).comps) (sym a.comps);
      }

  -- the actions of the step at l, and what they leave
  pub fires-like : (cs : List Comp) → every (comp_ok w) cs ≡ true → Like (fires (context_of w) (loc_name w l) (map (means w) cs)) (sweep_at w l 0 (length cs) cs)
  unfolding fires
  fires-like cs e = rw (length-map cs (means w)) (sweep-like (length cs) 0 cs e)
