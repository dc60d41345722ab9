-- Document 02, R-6: over any run from a network just read, a component stands only where its ancestor was read or where a chain of leave rights leads from
-- there. An action moves one component, which has its leave right; a tick moves none.
use Prim.Native.Nat.{ℕ, zero, suc}
use native.Mathlib.Omega.{arith}
use mathlib.Core.List.{List, [], ◌∷◌, ◌++◌, map, flat_map}
use mathlib.Core.Bool.{Bool, true, false, cond}
use mathlib.Core.Logic.{◌⊎◌, inl, inr}
use mathlib.Core.Path.{◌≡◌, refl, sym, subst, ap, ◌∙◌}
use Rattle.terms.specs.Names.{Name, same_name}
use Rattle.terms.specs.Terms.{Part, Process, Component, Context, Rights, Label}
use Rattle.terms.specs.Terms.Part.{stop, go, out, inp, call}
use Rattle.terms.specs.Terms.Process.{one, ◌∥◌}
use Rattle.terms.specs.Terms.Value.{loc, var}
use Rattle.terms.specs.Terms.Mark.{none, by}
use Rattle.terms.specs.Terms.Component.{comp}
use Rattle.terms.specs.Terms.Label.{called, moved, sent}
use Rattle.terms.specs.Rules.{Answer, Kind, Firing, Fired, Action, Acted, ◌>>=◌, at, set, set_all, locations, body, becomes, meet, fits, granted, fire, positions, firing_at, act, split, wait, pass, tick_with, tick, forced}
use Rattle.terms.specs.Rules.Answer.{refused, accepted}
use Rattle.terms.specs.Rules.Kind.{calls, moves}
use Rattle.terms.specs.Rules.Firing.{alone, together}
use Rattle.terms.specs.Rules.Action.{single, pair}
use Rattle.terms.specs.Runs.{Call, Fed, place_of, answer, straight_run}
use Rattle.terms.specs.Runs.Call.{acting, ticking}
use Rattle.terms.specs.Runs.Fed.{fed}
use Rattle.terms.specs.Descent.{inherited, ancestors, ancestry, Leads, Along, Reached, Closed, StaysInside, NeverAt}
use Rattle.terms.specs.Descent.Leads.{stays, leaves}
use Rattle.terms.specs.Descent.Along.{ended, also}
use Rattle.terms.proofs.Names.{name-eq}
use Rattle.terms.proofs.Answers.{clash, took, bind_inv, cond-inv, cond-inv', fire-inv}
use Rattle.terms.proofs.Sums.{Each}
use Rattle.terms.proofs.Sums.Each.{each_nil, each-cons}
use Rattle.terms.proofs.Forced.{or-inv}

-- ── two lists by position ──
module _ {A B : Type 0} {R : A → B → Type 0} where
  -- another element that whoever leads to the one before leads to
  along-set : {os : List A} {xs : List B} → Along R os xs → (p : ℕ) (x y : B) → at xs p ≡ accepted x → ((o : A) → R o x → R o y) → Along R os (set xs p y)
  unfolding at set
  along-set ended p x y e h = ended
  along-set (also {a = o} r k) zero x y e h = also (h o (subst (R o) (took e) r)) k
  along-set (also r k) (suc p) x y e h = also r (along-set k p x y e h)

  -- what f makes of an element leads where it does
  along_one : (o : A) {ys : List B} {os : List A} {zs : List B} → Each (R o) ys → Along R os zs → Along R (map (λ y. o) ys ++ os) (ys ++ zs)
  along_one o each_nil k = k
  along_one o (each-cons r e) k = also r (along_one o e k)

  along-inherited : (f : B → List B) → ((o : A) (x : B) → R o x → Each (R o) (f x)) → {os : List A} {xs : List B} → Along R os xs → Along R (inherited f os xs) (flat_map f xs)
  unfolding inherited flat_map
  along-inherited f h ended = ended
  along-inherited f h (also {a = o} {b = x} r k) = along_one o (h o x r) (along-inherited f h k)

along-self : {A : Type 0} {R : A → A → Type 0} → ((x : A) → R x x) → (xs : List A) → Along R xs xs
along-self h [] = ended
along-self h (x ∷ xs) = also (h x) (along-self h xs)

-- ── an action ──
-- where the component of a call or a move stands afterwards
data Goes (l : Name) : Label → Name → Type 0 where
  here : {i : Name} → Goes l (called i l) l
  there : {v : Name} → Goes l (moved v l) v

goes : (d : Context) (k : Kind) (l : Name) (a : Part) (b : _) → becomes d k l a ≡ accepted b → Goes l b.label b.place
unfolding becomes
goes d calls l stop b e = clash e
goes d calls l (go t v p) b e = clash e
goes d calls l (out c t v p q) b e = clash e
goes d calls l (inp c t y p q) b e = clash e
goes d calls l (call i vs) b e =
    let u = bind_inv (locations vs) _ b e in
    let s = bind_inv (body d.defs i u.0) _ b u.2 in
    rw (← took s.2) here
goes d moves l stop b e = clash e
goes d moves l (go t (loc v) p) b e = rw (← took e) there
goes d moves l (go t (var y) p) b e = clash e
goes d moves l (out c t v p q) b e = clash e
goes d moves l (inp c t y p q) b e = clash e
goes d moves l (call i vs) b e = clash e

-- with one component replaced by another of its location, what stands at a position still has its location
at_place : (xs : List Component) (p q : ℕ) (c e x : Component) → at xs p ≡ accepted c → at xs q ≡ accepted e → place_of x ≡ place_of c → (z : Component) × (at (set xs p x) q ≡ accepted z) × (place_of z ≡ place_of e)
unfolding at set
at_place [] p q c e x h g k = clash h
at_place (y ∷ xs) zero zero c e x h g k = (x, refl, k ∙ ap place_of (sym (took h) ∙ took g))
at_place (y ∷ xs) zero (suc q) c e x h g k = (e, g, refl)
at_place (y ∷ xs) (suc p) zero c e x h g k = (e, g, refl)
at_place (y ∷ xs) (suc p) (suc q) c e x h g k = at_place xs p q c e x h g k

module _ (d : Context) where
  -- chains by the rights of the context
  abbrev Chain : Name → Name → Type 0
  Chain = Leads d.rights

  -- where the components of a firing stand before it and after it: two of the one location, or one with its right
  data Stands : Firing → List Component → Type 0 where
    one-stands : {k : Kind} {c e : Component} → ((o : Name) → Chain o (place_of c) → Chain o (place_of e)) → Stands (alone k c) (e ∷ [])
    two-stand : {c e x y : Component} → place_of x ≡ place_of c → place_of y ≡ place_of e → Stands (together c e) (x ∷ y ∷ [])

  led : (l v : Name) (label : Label) → Goes l label v → granted d.rights label ≡ true → (o : Name) → Chain o l → Chain o v
  unfolding granted
  led l v (called i k) here g o r = r
  led l v (moved u k) there g o r = to (or-inv (same_name v l) _ g)
    where
      to : (same_name v l ≡ true) ⊎ (d.rights.leave l v ≡ true) → Chain o v
      to (inl e) = subst (Chain o) (sym (name-eq v l e)) r
      to (inr e) = leaves r e
  led l v (sent _ _ _) h g o r = elim h [ ]

  stands : (x : Firing) (f : Fired) → fits d x ≡ accepted f → granted d.rights f.label ≡ true → Stands x f.after
  unfolding fits place_of
  stands (alone k (comp l (by m) p)) f e g = clash e
  stands (alone k (comp l none (a ∥ p))) f e g = clash e
  stands (alone k (comp l none (one a))) f e g =
      let r = bind_inv (becomes d k l a) _ f e in
      subst (λ f. granted d.rights f.label ≡ true → Stands (alone k (comp l none (one a))) f.after) (took r.2)
      (λ g. one-stands (led l r.0.place r.0.label (goes d k l a r.0 r.1) g)) g
  stands (together (comp l (by m) p) e) f h g = clash h
  stands (together (comp l none p) (comp k (by m) q)) f e g = clash e
  stands (together (comp l none (a ∥ p)) (comp k none q)) f e g = clash e
  stands (together (comp l none (one a)) (comp k none (b ∥ q))) f e g = clash e
  stands (together (comp l none (one a)) (comp k none (one b))) f e g =
      let r = bind_inv (meet a b) _ f e in
      let c = cond-inv (same_name l k) _ f 11 r.2 in
      subst (λ f. Stands (together (comp l none (one a)) (comp k none (one b))) f.after) c.1 (two-stand refl (name-eq l k c.0))

  -- an action at positions
  replaced : (a : Action) {os net : List Component} {x : Firing} {cs : List Component} → Stands x cs → firing_at a net ≡ accepted x → Reached d.rights os net → Reached d.rights os (set_all (positions a) cs net)
  unfolding firing_at set_all positions
  replaced (single k p) {net = net} (one-stands {c = c} {e = e} h) f r =
      let u = bind_inv (at net p) _ _ f in
      along-set r p c e (cc (u.1, u.2)) (λ o. h (place_of o))
  replaced (single k p) {net = net} (two-stand h g) f r =
      let u = bind_inv (at net p) _ _ f in
      let z : ◌≡◌ {A = ℕ} 0 1 = cc u.2 in
      absurd (omega arith)
  replaced (pair p q) {net = net} (one-stands h) f r =
      let u = bind_inv (at net p) _ _ f in
      let v = bind_inv (at net q) _ _ u.2 in
      let z : ◌≡◌ {A = ℕ} 0 1 = cc v.2 in
      absurd (omega arith)
  replaced (pair p q) {net = net} (two-stand {c = c} {e = e} {x = x} {y = y} h g) f r =
      let u = bind_inv (at net p) _ _ f in
      let v = bind_inv (at net q) _ _ u.2 in
      let i : at net p ≡ accepted c = cc (u.1, v.2) in
      let j : at net q ≡ accepted e = cc (v.1, v.2) in
      let z = at_place net p q c e x i j h in
      along-set (along-set r p c x i (λ o w. subst (Chain (place_of o)) (sym h) w)) q z.0 y z.1 (λ o w. subst (Chain (place_of o)) (z.2 ∙ sym g) w)

  -- ── a tick moves nothing ──
  split-place : (o l : Name) (p : Process) → Chain o l → Each (λ c. Chain o (place_of c)) (split l p)
  unfolding split place_of
  split-place o l (one a) r = each-cons r each_nil
  split-place o l (a ∥ p) r = each-cons r (split-place o l p r)

  pass-place : (own : Name → Bool) (l o : Name) (c : Component) → Chain o (place_of c) → Each (λ c. Chain o (place_of c)) (pass d own l c)
  unfolding pass place_of
  pass-place own l o (comp h none (one a)) r = go (same_name h l)
    where
      go : (b : Bool) → Each (λ c. Chain o (place_of c)) (cond b (split h (wait d.edition a)) (comp h none (one a) ∷ []))
      go true = split-place o h (wait d.edition a) r
      go false = each-cons r each_nil
  pass-place own l o (comp h none (a ∥ p)) r = each-cons r each_nil
  pass-place own l o (comp h (by m) p) r = go (own m)
    where
      go : (b : Bool) → Each (λ c. Chain o (place_of c)) (cond b (split h p) (comp h (by m) p ∷ []))
      go true = split-place o h p r
      go false = each-cons r each_nil

  -- ── the claim ──
  -- one call that the rules accept
  after_call : (c : Call) (os s s' : List Component) → Reached d.rights os s → answer d c s ≡ accepted s' → Reached d.rights (ancestors d c os s) s'
  unfolding answer ancestors act tick tick_with
  after_call (acting a) os s s' r e =
      let k = bind_inv (firing_at a s >>= λ x. fire d x >>= λ f. accepted (record { label = f.label; comps = set_all (positions a) f.after s })) _ s' e in
      let u = bind_inv (firing_at a s) _ _ k.1 in
      let t = bind_inv (fire d u.0) _ _ u.2 in
      let g = fire-inv d u.0 t.0 t.1 in
      subst (Reached d.rights os) (ap Acted.comps (took t.2) ∙ took k.2) (replaced a (stands u.0 t.0 g.0 g.1) u.1 r)
  after_call (ticking l) os s s' r e =
      let k = cond-inv' (forced d l s) _ s' 12 e in
      subst (Reached d.rights (inherited (pass d (λ m. same_name m l) l) os s)) k.1 (along-inherited (pass d (λ m. same_name m l) l) (λ o c. pass-place (λ m. same_name m l) l (place_of o) c) r)

  run-reached : (fs : List Fed) (os s z : List Component) → Reached d.rights os s → straight_run d fs s ≡ accepted z → Reached d.rights (ancestry d fs os s) z
  unfolding ancestry straight_run
  run-reached [] os s z r e = subst (Reached d.rights os) (took e) r
  run-reached (fed c false ∷ fs) os s z r e = run-reached fs os s z r e
  run-reached (fed (acting a) true ∷ fs) os s z r e = go (act d a s) refl (run-reached fs)
    where
      go : (x : Answer Acted) → act d a s ≡ x → ((os s z : List Component) → Reached d.rights os s → straight_run d fs s ≡ accepted z → Reached d.rights (ancestry d fs os s) z)
          → Reached d.rights (elim (answer d (acting a) s) [ refused n ↦ os | accepted s' ↦ ancestry d fs (ancestors d (acting a) os s) s' ]) z
      go (refused n) h k = clash (ap (λ x. x >>= λ q. straight_run d fs q.comps) (sym h) ∙ e)
      go (accepted q) h k =
          let a' : answer d (acting a) s ≡ accepted q.comps = unfold answer in rw h in
          rw a' (k (ancestors d (acting a) os s) q.comps z (after_call (acting a) os s q.comps r a') (ap (λ x. x >>= λ q. straight_run d fs q.comps) (sym h) ∙ e))
  run-reached (fed (ticking l) true ∷ fs) os s z r e = go (tick d l s) refl (run-reached fs)
    where
      go : (x : Answer (List Component)) → tick d l s ≡ x → ((os s z : List Component) → Reached d.rights os s → straight_run d fs s ≡ accepted z → Reached d.rights (ancestry d fs os s) z)
          → Reached d.rights (elim (answer d (ticking l) s) [ refused n ↦ os | accepted s' ↦ ancestry d fs (ancestors d (ticking l) os s) s' ]) z
      go (refused n) h k = clash (ap (λ x. x >>= λ s'. straight_run d fs s') (sym h) ∙ e)
      go (accepted q) h k =
          let a' : answer d (ticking l) s ≡ accepted q = unfold answer in h in
          rw a' (k (ancestors d (ticking l) os s) q z (after_call (ticking l) os s q r a') (ap (λ x. x >>= λ s'. straight_run d fs s') (sym h) ∙ e))

  -- from a network just read, whatever the calls were
  pub leave-chain : (fs : List Fed) (net z : List Component) → straight_run d fs net ≡ accepted z → Reached d.rights (ancestry d fs net net) z
  leave-chain fs net z e = run-reached fs net net z (along-self (λ c. stays) net) e

-- ── what a publisher uses of it ──
along-at : {A B : Type 0} {R : A → B → Type 0} {os : List A} {xs : List B} → Along R os xs → (i : ℕ) (o : A) (x : B) → at os i ≡ accepted o → at xs i ≡ accepted x → R o x
unfolding at
along-at ended i o x e h = clash e
along-at {R = R} (also {b = b} r k) zero o x e h = subst (R o) (took h) (subst (λ y. R y b) (took e) r)
along-at (also r k) (suc i) o x e h = along-at k i o x e h

leads-inside : (r : Rights) (inside : Name → Bool) → Closed r inside → {l m : Name} → Leads r l m → inside l ≡ true → inside m ≡ true
leads-inside r inside k stays e = e
leads-inside r inside k (leaves {k = j} {m = m} c g) e = k j m (leads-inside r inside k c e) g

-- no right leads out: what was read inside stays inside
pub stays-inside : (r : Rights) (inside : Name → Bool) {os cs : List Component} → Reached r os cs → Closed r inside → StaysInside inside os cs
stays-inside r inside a k i o c e h g = leads-inside r inside k (along-at a i o c e h) g

-- no chain leads to p: what comes from there never stands at p
pub never-at : (r : Rights) (p : Name) {os cs : List Component} → Reached r os cs → NeverAt r p os cs
never-at r p a i o c e h n q = n (subst (Leads r (place_of o)) q (along-at a i o c e h))
