-- A list of actions that all fire at l, by what it fires: the components that it replaces and those that it leaves, each as often; and the
-- other way round: what may fire fires on every network that holds its components.
use Prim.Native.Nat.{ℕ, ◌+◌}
use native.Mathlib.Omega.{arith}
use mathlib.Core.List.{List, [], ◌∷◌, map, flat_map, cons-eq-cons, cons≢nil}
use mathlib.Core.Bool.{Bool, true, false, cond, false≢true}
use mathlib.Core.Path.{◌≡◌, refl, ap, sym, ◌∙◌, subst}
use lib.ListN.{length}
use Rattle.terms.specs.Names.{Name, same_name}
use Rattle.terms.specs.Terms.{Process, Component, Context, Label, fires_at}
use Rattle.terms.specs.Terms.Process.{one, ◌∥◌}
use Rattle.terms.specs.Terms.Mark.{none, by}
use Rattle.terms.specs.Terms.Component.{comp}
use Rattle.terms.specs.Rules.{Answer, Firing, Fired, Action, Acted, set_all, fire, positions, firing_at, act, unmarked, ready, only, forced, split, wait, pass, tick_with, tick}
use Rattle.terms.specs.Rules.Answer.{accepted}
use Rattle.terms.specs.Runs.{Note, here, place_of}
use Rattle.terms.specs.Step.{Done, act_at, act_all, whole_step}
use Rattle.terms.proofs.Names.{name-eq, name-refl}
use Rattle.terms.proofs.Answers.{took, bind_inv, cond-inv}
use Rattle.terms.proofs.Sums.{total, Each, total-flat_map, total-each, total-none, total_ext, each-only, each_map}
use Rattle.terms.proofs.Sums.Each.{each_nil, each-cons}
use Rattle.terms.proofs.Mixed.{Shape, replaced, spot-ok, after_of, after*, Good, noted, act-ok, pre, post, plainly, plain-before, plain-after, shape_of, mine, passed, pressing-≈, tick-inv, unmarked-total}
use Rattle.terms.proofs.Mixed.Shape.{one-shape, two-shape}
use Rattle.terms.proofs.Steps.{fires-here, length-set_all}
use Rattle.laws.specs.Exchange.{firings}

-- a note that fires, at l
pub record GoodAt (d : Context) (l : Name) (n : Note) : Type 0 where
  pub good : Good d n
  pub at-l : here n.firing ≡ l

abbrev pub labels_of : List Note → List Label
labels_of ns = map (λ (n : Note). n.label) ns

abbrev pub firings_of : List Note → List Firing
firings_of ns = map (λ (n : Note). n.firing) ns

-- what a list of actions at l does to the network s
pub record Does (d : Context) (l : Name) (xs : List Action) (s : List Component) (z : Done) : Type 0 where
  pub notes : List Note
  pub each : Each (GoodAt d l) notes
  pub labels : z.labels ≡ labels_of notes
  pub fires : firings d xs s ≡ accepted (firings_of notes)
  pub weigh : (w : Component → ℕ) → total w z.comps + pre w notes ≡ total w s + post d w notes

does-one : (d : Context) (l : Name) (a : Action) (xs : List Action) (s : List Component) (x : Firing) (f : Fired) (z u : Done)
    → firing_at a s ≡ accepted x → fire d x ≡ accepted f → same_name (fires_at f.label) l ≡ true
    → Does d l xs (set_all (positions a) f.after s) u → record { labels = f.label ∷ u.labels; comps = u.comps } ≡ z → Does d l (a ∷ xs) s z
unfolding firings total pre post after* after_of
does-one d l a xs s x f z u e h k r q =
    let n : Note = record { firing = x; label = f.label } in
    let b : after* d n ≡ f.after = ap after_of h in
    subst (Does d l (a ∷ xs) s) q (record {
      notes = n ∷ r.notes;
      each = each-cons (record { good = noted d x f h; at-l = sym (fires-here d x f h) ∙ name-eq _ l k }) r.each;
      labels = rw r.labels;
      fires = rw (e, act-ok d a s x f e h, r.fires);
      weigh = λ w. omega (arith, r.weigh w, replaced a s (shape_of d x f h) e w, ap (total w) b);
    })

pub at-inv : (d : Context) (l : Name) (a : Action) (s : List Component) (r : Acted) → act_at d l a s ≡ accepted r
    → (x : Firing) × (f : Fired) × (firing_at a s ≡ accepted x) × (fire d x ≡ accepted f) × (same_name (fires_at f.label) l ≡ true) × (record { label = f.label; comps = set_all (positions a) f.after s } ≡ r)
unfolding act_at act
at-inv d l a s r e =
    let v = bind_inv (act d a s) _ r e in
    let k = cond-inv (same_name (fires_at v.0.label) l) v.0 r 16 v.2 in
    let x = bind_inv (firing_at a s) _ v.0 v.1 in
    let f = bind_inv (fire d x.0) _ v.0 x.2 in
    let q : record { label = f.0.label; comps = set_all (positions a) f.0.after s } ≡ v.0 = took f.2 in
    (x.0, f.0, x.1, f.1, rw (ap (λ (z : Acted). z.label) q) k.0, q ∙ k.1)

then-done : (r : Acted) (u z : Done) → Path (Answer Done) (accepted (record { labels = r.label ∷ u.labels; comps = u.comps })) (accepted z) → (r' : Acted) → r' ≡ r → record { labels = r'.label ∷ u.labels; comps = u.comps } ≡ z
then-done r u z e r' q = ap {B = Done} (λ (r : Acted). record { labels = r.label ∷ u.labels; comps = u.comps }) q ∙ took e

pub does : (d : Context) (l : Name) (xs : List Action) (s : List Component) (z : Done) → act_all d l xs s ≡ accepted z → Does d l xs s z
unfolding act_all
does d l [] s z e = unfold firings total pre post in subst (Does d l [] s) (took e) (record { notes = []; each = each_nil; labels = refl; fires = refl; weigh = λ w. refl })
does d l (a ∷ xs) s z e =
    let t = bind_inv (act_at d l a s) _ z e in
    let u = bind_inv (act_all d l xs t.0.comps) _ z t.2 in
    let i = at-inv d l a s t.0 t.1 in
    does-one d l a xs s i.0 i.1 z u.0 i.2 i.3 i.4 (subst (λ (r : Acted). Does d l xs r.comps u.0) (sym i.5) (does d l xs t.0.comps u.0 u.1)) (then-done t.0 u.0 z u.2 _ i.5)

-- it leaves as many components as there were
pub acts-size : (d : Context) (l : Name) (xs : List Action) (net : List Component) (z : Done) → act_all d l xs net ≡ accepted z → length z.comps ≡ length net
unfolding act_all
acts-size d l [] net z e = ap (λ (r : Done). length r.comps) (sym (took e))
acts-size d l (a ∷ xs) net z e =
    let t = bind_inv (act_at d l a net) _ z e in
    let u = bind_inv (act_all d l xs t.0.comps) _ z t.2 in
    let i = at-inv d l a net t.0 t.1 in
    ap (λ (r : Done). length r.comps) (sym (took u.2))
    ∙ acts-size d l xs t.0.comps u.0 u.1
    ∙ ap (λ (r : Acted). length r.comps) (sym i.5)
    ∙ length-set_all (positions a) i.1.after net

-- ── the other way round ──
-- where the network holds what is to fire, there are positions at which it fires
pub spots : (d : Context) (l : Name) {ns : List Note} (g : List Component) (rest : (Component → ℕ) → ℕ) → Each (GoodAt d l) ns
    → ((w : Component → ℕ) → total w g ≡ pre w ns + rest w) → (xs : List Action) × (firings d xs g ≡ accepted (firings_of ns))
unfolding firings total pre
spots d l g rest each_nil h = ([], refl)
spots d l g rest (each-cons {x = n} {xs = ns} k ks) h =
    let b = spot-ok n.firing g (λ w. pre w ns + rest w) (λ w. omega (arith, h w)) in
    let a = act-ok d b.0 g n.firing _ b.2 k.good.fires in
    let t = spots d l (set_all (positions b.0) (after* d n) g) (λ w. total w (after* d n) + rest w) ks (λ w. omega (arith, h w, replaced b.0 g k.good.shape b.2 w)) in
    (b.0 ∷ t.0, rw (b.2, a, t.1))

-- whatever the positions at which it fires: the actions are allowed at l, and leave this
pub record Fires (d : Context) (l : Name) (xs : List Action) (ns : List Note) (g : List Component) (rest : (Component → ℕ) → ℕ) : Type 0 where
  pub comps : List Component
  pub acts : act_all d l xs g ≡ accepted (record { labels = labels_of ns; comps = comps })
  pub weigh : (w : Component → ℕ) → total w comps ≡ post d w ns + rest w

pub firings-inv : (d : Context) (a : Action) (xs : List Action) (g : List Component) (ys : List Firing) → firings d (a ∷ xs) g ≡ accepted ys
    → (x : Firing) × (fs : List Firing) × (r : Acted) × (firing_at a g ≡ accepted x) × (act d a g ≡ accepted r) × (firings d xs r.comps ≡ accepted fs) × (x ∷ fs ≡ ys)
unfolding firings
firings-inv d a xs g ys e =
    let u = bind_inv (firing_at a g) _ _ e in
    let v = bind_inv (act d a g) _ _ u.2 in
    let t = bind_inv (firings d xs v.0.comps) _ _ v.2 in
    (u.0, t.0, v.0, u.1, v.1, t.1, took t.2)

then-acts : (d : Context) (l : Name) (a : Action) (xs : List Action) (g : List Component) (r : Acted) (s : Done) → act d a g ≡ accepted r → same_name (fires_at r.label) l ≡ true
    → act_all d l xs r.comps ≡ accepted s → act_all d l (a ∷ xs) g ≡ accepted (record { labels = r.label ∷ s.labels; comps = s.comps })
unfolding act_all act_at
then-acts d l a xs g r s e h k = rw (e, h, k)

pub fires-so : (d : Context) (l : Name) (xs : List Action) {ns : List Note} (g : List Component) (rest : (Component → ℕ) → ℕ) → Each (GoodAt d l) ns
    → firings d xs g ≡ accepted (firings_of ns) → ((w : Component → ℕ) → total w g ≡ pre w ns + rest w) → Fires d l xs ns g rest
unfolding act_all total pre post
fires-so d l [] g rest each_nil e h = record { comps = g; acts = refl; weigh = h }
fires-so d l (a ∷ xs) g rest each_nil e h = absurd (cons≢nil (firings-inv d a xs g [] e).6)
fires-so d l [] g rest (each-cons k ks) e h = unfold firings in absurd (cons≢nil (sym (took e)))
fires-so d l (a ∷ xs) g rest (each-cons {x = n} {xs = ns} k ks) e h =
    let i = firings-inv d a xs g (n.firing ∷ firings_of ns) e in
    let j = cons-eq-cons.0 i.6 in
    let f : Fired = record { label = n.label; after = after* d n } in
    let p = k.good.fires in
    let o = i.3 ∙ ap accepted j.0 in
    let b = act-ok d a g n.firing f o p in
    let g' = set_all (positions a) (after* d n) g in
    let q : record { label = n.label; comps = g' } ≡ i.2 = took (sym b ∙ i.4) in
    let t = fires-so d l xs g' (λ w. total w (after* d n) + rest w) ks (ap (λ (r : Acted). firings d xs r.comps) q ∙ i.5 ∙ ap accepted j.1) (λ w. omega (arith, h w, replaced a g k.good.shape o w)) in
    let here-l : same_name (fires_at n.label) l ≡ true = rw (fires-here d n.firing f p, k.at-l) (name-refl l) in
    record { comps = t.comps; acts = then-acts d l a xs g _ _ b here-l t.acts; weigh = λ w. omega (arith, t.weigh w) }

-- ── from an unmarked network ──
-- the components of a list without a mark
unfoldable pub plain : List Component → List Component
plain z = flat_map (only unmarked) z

all : {A : Type 0} (xs : List A) → Each (λ (x : A). Unit {0}) xs
all [] = each_nil
all (x ∷ xs) = each-cons tt (all xs)

pub plain-each : (z : List Component) → Each (λ c. unmarked c ≡ true) (plain z)
unfolding plain
plain-each z = each_map (λ c h. h.1) (each-only unmarked (all z))

plain-total : (w : Component → ℕ) (z : List Component) → total w (plain z) ≡ total (plainly w) z
unfolding plain only unmarked plainly total
plain-total w z = total-flat_map w (only unmarked) z ∙ total_ext _ _ z one_by_one
  where
    one_by_one : (c : Component) → total w (only unmarked c) ≡ plainly w c
    one_by_one (comp l none p) = omega arith
    one_by_one (comp l (by m) p) = refl

pre-plain : (d : Context) (l : Name) (w : Component → ℕ) {ns : List Note} → Each (GoodAt d l) ns → pre (plainly w) ns ≡ pre w ns
unfolding pre
pre-plain d l w k = total-each _ _ k (λ n g. plain-before w g.good.shape)

post-plain : (d : Context) (l : Name) (w : Component → ℕ) {ns : List Note} → Each (GoodAt d l) ns → post d (plainly w) ns ≡ 0
unfolding post
post-plain d l w k = total-none _ k (λ n g. plain-after w g.good.shape)

-- what is unmarked is what fires and what does not
pub held_plain : (d : Context) (l : Name) (xs : List Action) (net : List Component) (z : Done) (r : Does d l xs net z) (w : Component → ℕ) → total w (plain net) ≡ pre w r.notes + total w (plain z.comps)
held_plain d l xs net z r w = omega (arith, r.weigh (plainly w), pre-plain d l w r.each, post-plain d l w r.each, plain-total w net, plain-total w z.comps)

module _ (d : Context) (l : Name) (xs : List Action) (net : List Component) (z : Done) (u : Each (λ c. unmarked c ≡ true) net) (r : Does d l xs net z) where
  -- the network is what fires and what does not
  pub held-before : (w : Component → ℕ) → total w net ≡ pre w r.notes + total w (plain z.comps)
  held-before w = omega (arith, held_plain d l xs net z r w, unmarked-total w u, plain-total w net)

  pub held_after : (w : Component → ℕ) → total w z.comps ≡ post d w r.notes + total w (plain z.comps)
  held_after w = omega (arith, r.weigh w, held-before w)

-- ── the tick ──
-- a whole step: its actions, and then a tick that is allowed
pub record Whole (d : Context) (l : Name) (xs : List Action) (net : List Component) (r : Done) : Type 0 where
  pub mid : Done
  pub acts : act_all d l xs net ≡ accepted mid
  pub labels : mid.labels ≡ r.labels
  pub free : forced d l mid.comps ≡ false
  pub ends : flat_map (pass d (mine l) l) mid.comps ≡ r.comps

pub whole : (d : Context) (l : Name) (xs : List Action) (net : List Component) (r : Done) → whole_step d l xs net ≡ accepted r → Whole d l xs net r
unfolding whole_step
whole d l xs net r e =
    let s = bind_inv (act_all d l xs net) _ r e in
    let t = bind_inv (tick d l s.0.comps) _ r s.2 in
    let q = tick-inv d l s.0.comps t.0 t.1 in
    let k : record { labels = s.0.labels; comps = t.0 } ≡ r = took t.2 in
    record { mid = s.0; acts = s.1; labels = ap (λ (r : Done). r.labels) k; free = q.0; ends = q.1 ∙ ap (λ (r : Done). r.comps) k }

pub make-whole : (d : Context) (l : Name) (xs : List Action) (net : List Component) (r : Done) → Whole d l xs net r → whole_step d l xs net ≡ accepted r
unfolding whole_step tick tick_with
make-whole d l xs net r h = rw (h.acts, h.free) (ap {B = Answer Done} accepted (λ i. record { labels = h.labels i; comps = h.ends i }))

-- ── what is ready at l, by weight ──
unfoldable pub on : Name → (Component → ℕ) → Component → ℕ
on l w c = cond (ready l c) (w c) 0

unfoldable pub off : Name → (Component → ℕ) → Component → ℕ
off l w c = cond (ready l c) 0 (w c)

one-ready : (l : Name) (w : Component → ℕ) (c : Component) → total w (only (ready l) c) ≡ on l w c
unfolding only on total
one-ready l w c = go (ready l c)
  where
    go : (b : Bool) → total w (cond b (c ∷ []) []) ≡ cond b (w c) 0
    go true = omega arith
    go false = refl

pub ready-total : (l : Name) (w : Component → ℕ) (xs : List Component) → total w (flat_map (only (ready l)) xs) ≡ total (on l w) xs
ready-total l w xs = total-flat_map w (only (ready l)) xs ∙ total_ext _ _ xs (one-ready l w)

-- what is marked is not ready
pub plain-on : (l : Name) (w : Component → ℕ) (z : List Component) → total (on l w) (plain z) ≡ total (on l w) z
unfolding on ready plainly
plain-on l w z = plain-total (on l w) z ∙ total_ext _ _ z one_by_one
  where
    one_by_one : (c : Component) → plainly (on l w) c ≡ on l w c
    one_by_one (comp h none p) = refl
    one_by_one (comp h (by m) p) = refl

-- whether the tick at l is allowed is a matter of what is ready at l, each as often
pub forced-on : (d : Context) (l : Name) (xs ys : List Component) → ((w : Component → ℕ) → total (on l w) xs ≡ total (on l w) ys) → forced d l xs ≡ forced d l ys
unfolding forced
forced-on d l xs ys h = pressing-≈ d _ _ (λ w. ready-total l w xs ∙ h w ∙ sym (ready-total l w ys))

-- ── a whole step from an unmarked network leaves an unmarked one ──
marks : Component → ℕ
marks (comp l none p) = 0
marks (comp l (by m) p) = 1

no-marks : (xs : List Component) → total marks xs ≡ 0 → Each (λ c. unmarked c ≡ true) xs
unfolding total marks unmarked
no-marks [] e = each_nil
no-marks (comp l none p ∷ xs) e = each-cons refl (no-marks xs (omega arith))
no-marks (comp l (by m) p ∷ xs) e = absurd (omega arith)

split-marks : (h : Name) (p : Process) → total marks (split h p) ≡ 0
unfolding total marks split
split-marks h (one a) = refl
split-marks h (a ∥ p) = omega (arith, split-marks h p)

plain-marks : (d : Context) (l : Name) (c : Component) → unmarked c ≡ true → passed d (mine l) l marks c ≡ 0
unfolding pass total marks unmarked
plain-marks d l (comp h (by m) p) u = absurd (false≢true u)
plain-marks d l (comp h none (a ∥ p)) u = refl
plain-marks d l (comp h none (one a)) u = go (same_name h l)
  where
    go : (b : Bool) → total marks (cond b (split h (wait d.edition a)) (comp h none (one a) ∷ [])) ≡ 0
    go true = split-marks h (wait d.edition a)
    go false = refl

shape-marks : (d : Context) (l : Name) {x : Firing} {cs : List Component} → Shape x cs → here x ≡ l → total (passed d (mine l) l marks) cs ≡ 0
unfolding pass total here place_of
shape-marks d l (one-shape {l = h} {v = v} {p = p}) q =
    let t : same_name h l ≡ true = rw q (name-refl l) in
    rw (t, split-marks v p)
shape-marks d l (two-shape {l = h} {p = p} {q = q} o) e =
    let t : same_name h l ≡ true = rw e (name-refl l) in
    rw (t, split-marks h p, split-marks h q)

pub step-unmarked : (d : Context) (l : Name) (xs : List Action) (net : List Component) (z : Done) → Each (λ c. unmarked c ≡ true) net → Does d l xs net z
    → Each (λ c. unmarked c ≡ true) (flat_map (pass d (mine l) l) z.comps)
unfolding post
step-unmarked d l xs net z u r =
    no-marks _ (omega (
      arith,
      total-flat_map marks (pass d (mine l) l) z.comps,
      held_after d l xs net z u r (passed d (mine l) l marks),
      total-none _ r.each (λ n g. shape-marks d l g.good.shape g.at-l),
      total-none _ (plain-each z.comps) (plain-marks d l),
    ))
