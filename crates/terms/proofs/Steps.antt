-- The step of document 01 is a whole step by the rules and never meets question 12.
-- Idea: an action only takes ready components away, so what a position passed cannot do, it cannot do later; at the end no position presses.
use Prim.Native.Nat.{ℕ, zero, suc, ◌+◌, ◌<◌}
use native.Mathlib.Omega.{arith}
use mathlib.Core.List.{List, [], ◌∷◌, ◌++◌, flat_map}
use mathlib.Core.Bool.{Bool, true, false, cond, ◌&&◌, ◌||◌, false≢true}
use mathlib.Core.Logic.{◌⊎◌, inl, inr}
use mathlib.Core.Path.{◌≡◌, refl, ap, sym, subst, ◌∙◌}
use lib.Dec.{ltb}
use lib.ListN.{length}
use borrow.Author.Tests.{ltb-true, ltb-false}
use Rattle.terms.specs.Names.{Name, same_name}
use Rattle.terms.specs.Terms.{Part, Process, Component, Context, fires_at}
use Rattle.terms.specs.Terms.Part.{stop, go, out, inp, call}
use Rattle.terms.specs.Terms.Process.{one, ◌∥◌}
use Rattle.terms.specs.Terms.Value.{loc, var}
use Rattle.terms.specs.Terms.Mark.{none, by}
use Rattle.terms.specs.Terms.Component.{comp}
use Rattle.terms.specs.Rules.{Answer, Kind, Firing, Fired, Action, Acted, ok, ◌>>=◌, at, set, set_all, some, locations, body, becomes, meet, fits, fire, positions, firing_at, act, ready, due_go, urgent, forced, tick_with, tick, pass}
use Rattle.terms.specs.Rules.Answer.{refused, accepted}
use Rattle.terms.specs.Rules.Kind.{calls, moves}
use Rattle.terms.specs.Rules.Firing.{alone, together}
use Rattle.terms.specs.Rules.Action.{single, pair}
use Rattle.terms.specs.Runs.{here, place_of}
use Rattle.terms.specs.Step.{Done, Swept, act_at, act_all, whole_step, partner, choice, idle, took_place, taken, followed, visit, sweep, fires, step}
use Rattle.terms.proofs.Names.{and-inv, not-both, name-refl}
use Rattle.terms.proofs.Answers.{clash, took, bind_inv, cond-inv, fire-fits, unfit}
use Rattle.terms.proofs.Mixed.{Shape, shape_of, act-ok}
use Rattle.terms.proofs.Mixed.Shape.{one-shape, two-shape}
use Rattle.terms.proofs.Lists.{length-set}
use Rattle.terms.proofs.Partner.{partner-some, partner-none}
use Rattle.terms.proofs.Forced.{presses, forced-is, ok-inv, ready-place, some-at, some-find}

-- ── where an action fires ──
place-label : (d : Context) (k : Kind) (l : Name) (a : Part) (b : _) → becomes d k l a ≡ accepted b → fires_at b.label ≡ l
unfolding becomes fires_at
place-label d calls l stop b e = clash e
place-label d calls l (go t v p) b e = clash e
place-label d calls l (out c t v p q) b e = clash e
place-label d calls l (inp c t y p q) b e = clash e
place-label d calls l (call i vs) b e =
    let r = bind_inv (locations vs) _ b e in
    let s = bind_inv (body d.defs i r.0) _ b r.2 in
    rw (← took s.2)
place-label d moves l stop b e = clash e
place-label d moves l (go t (loc v) p) b e = rw (← took e)
place-label d moves l (go t (var y) p) b e = clash e
place-label d moves l (out c t v p q) b e = clash e
place-label d moves l (inp c t y p q) b e = clash e
place-label d moves l (call i vs) b e = clash e

-- the label names the location where the firing's components stand
fits-here : (d : Context) (x : Firing) (f : Fired) → fits d x ≡ accepted f → fires_at f.label ≡ here x
unfolding fits here place_of
fits-here d (alone k (comp l (by m) p)) f e = clash e
fits-here d (alone k (comp l none (a ∥ p))) f e = clash e
fits-here d (alone k (comp l none (one a))) f e =
    let r = bind_inv (becomes d k l a) _ f e in
    rw (← took r.2) (place-label d k l a r.0 r.1)
fits-here d (together (comp l (by m) p) e) f h = clash h
fits-here d (together (comp l none p) (comp k (by m) q)) f e = clash e
fits-here d (together (comp l none (a ∥ p)) (comp k none q)) f e = clash e
fits-here d (together (comp l none (one a)) (comp k none (b ∥ q))) f e = clash e
fits-here d (together (comp l none (one a)) (comp k none (one b))) f e =
    let r = bind_inv (meet a b) _ f e in
    let c = cond-inv (same_name l k) _ f 11 r.2 in
    unfold fires_at in rw (← c.1)

pub fires-here : (d : Context) (x : Firing) (f : Fired) → fire d x ≡ accepted f → fires_at f.label ≡ here x
fires-here d x f e = fits-here d x f (fire-fits d x f e)

-- ── an action only takes ready components away ──
-- at each position there stands what stood there, or a marked component
abbrev pub Fewer : List Component → List Component → Type 0
Fewer net net' = (p : ℕ) (c : Component) → at net' p ≡ accepted c → (at net p ≡ accepted c) ⊎ ((l : Name) → ready l c ≡ false)

fewer-refl : (net : List Component) → Fewer net net
fewer-refl net p c e = inl e

fewer-trans : (a b c : List Component) → Fewer a b → Fewer b c → Fewer a c
fewer-trans a b c f g p x e = go (g p x e)
  where
    go : (at b p ≡ accepted x) ⊎ ((l : Name) → ready l x ≡ false) → (at a p ≡ accepted x) ⊎ ((l : Name) → ready l x ≡ false)
    go (inl h) = f p x h
    go (inr h) = inr h

at-set-or : {A : Type 0} (xs : List A) (p q : ℕ) (x y : A) → at (set xs p y) q ≡ accepted x → (at xs q ≡ accepted x) ⊎ (y ≡ x)
unfolding at set
at-set-or [] p q x y e = clash e
at-set-or (z ∷ xs) zero zero x y e = inr (took e)
at-set-or (z ∷ xs) zero (suc q) x y e = inl e
at-set-or (z ∷ xs) (suc p) zero x y e = inl e
at-set-or (z ∷ xs) (suc p) (suc q) x y e = at-set-or xs p q x y e

fewer-set : (net : List Component) (p : ℕ) (h m : Name) (q : Process) → Fewer net (set net p (comp h (by m) q))
unfolding ready
fewer-set net p h m q i c e = go (at-set-or net p i c _ e)
  where
    go : (at net i ≡ accepted c) ⊎ (comp h (by m) q ≡ c) → (at net i ≡ accepted c) ⊎ ((l : Name) → ready l c ≡ false)
    go (inl f) = inl f
    go (inr f) = inr (λ l. rw (← f))

fewer-all : (a : Action) (net : List Component) {x : Firing} {cs : List Component} → Shape x cs → Fewer net (set_all (positions a) cs net)
unfolding set_all positions
fewer-all (single k p) net one-shape = fewer-set net p _ _ _
fewer-all (single k p) net (two-shape n) = fewer-set net p _ _ _
fewer-all (pair p q) net one-shape = fewer-set net p _ _ _
fewer-all (pair p q) net (two-shape n) = fewer-trans net _ _ (fewer-set net p _ _ _) (fewer-set _ q _ _ _)

pub act-fewer : (d : Context) (a : Action) (net : List Component) (r : Acted) → act d a net ≡ accepted r → Fewer net r.comps
unfolding act
act-fewer d a net r e =
    let u = bind_inv (firing_at a net) _ r e in
    let t = bind_inv (fire d u.0) _ r u.2 in
    rw (← took t.2) (fewer-all a net (shape_of d u.0 t.0 t.1))

-- ── what does not press, with fewer ready components still does not ──
true-or-false : (b : Bool) → (b ≡ true) ⊎ (b ≡ false)
true-or-false true = inl refl
true-or-false false = inr refl

-- no component up to the position n presses, the ready ones seen in net
abbrev pub Quiet : Context → Name → ℕ → List Component → Type 0
Quiet d l n net = (p : ℕ) (c : Component) → p < n → at net p ≡ accepted c → presses d l net c ≡ false

abbrev fitting : Context → Name → Component → Component → Bool
fitting d l c e = ready l e && ok (fire d (together c e))

partner-fewer : (d : Context) (l : Name) (net net' : List Component) (c : Component) → Fewer net net' → some (fitting d l c) net' ≡ true → some (fitting d l c) net ≡ true
partner-fewer d l net net' c f s = let r = some-find (fitting d l c) net' s in there r.0 r.1 r.3 (f r.0 r.1 r.2)
  where
    there : (p : ℕ) (x : Component) → fitting d l c x ≡ true → (at net p ≡ accepted x) ⊎ ((l : Name) → ready l x ≡ false) → some (fitting d l c) net ≡ true
    there p x t (inl h) = some-at (fitting d l c) net p x h t
    there p x t (inr h) = absurd (not-both _ (and-inv (ready l x) _ t).0 (h l))

presses-fewer : (d : Context) (l : Name) (net net' : List Component) (c : Component) → Fewer net net' → presses d l net c ≡ false → presses d l net' c ≡ false
unfolding presses
presses-fewer d l net net' c f e = go (ready l c) (urgent d c) e (true-or-false (some (fitting d l c) net'))
  where
    go : (a b : Bool) → (a && (b || some (fitting d l c) net)) ≡ false → (some (fitting d l c) net' ≡ true) ⊎ (some (fitting d l c) net' ≡ false) → (a && (b || some (fitting d l c) net')) ≡ false
    go false b e s = refl
    go true true e s = e
    go true false e (inl s) = absurd (not-both _ (partner-fewer d l net net' c f s) e)
    go true false e (inr s) = s

presses-ready : (d : Context) (l : Name) (net : List Component) (c : Component) → ready l c ≡ false → presses d l net c ≡ false
unfolding presses
presses-ready d l net c e = rw e

quiet-fewer : (d : Context) (l : Name) (n : ℕ) (net net' : List Component) → Fewer net net' → Quiet d l n net → Quiet d l n net'
quiet-fewer d l n net net' f q p c h e = go (f p c e)
  where
    go : (at net p ≡ accepted c) ⊎ ((l : Name) → ready l c ≡ false) → presses d l net' c ≡ false
    go (inl e) = presses-fewer d l net net' c f (q p c h e)
    go (inr r) = presses-ready d l net' c (r l)

-- ── one position of the sweep ──
-- an action that the step chooses at c, which stands at p: what it is
pub data Chosen (d : Context) (l : Name) (p : ℕ) (c : Component) (net : List Component) : Answer Action → Type 0 where
  called-there : {f : Fired} → ready l c ≡ true → fire d (alone calls c) ≡ accepted f → Chosen d l p c net (accepted (single calls p))
  due-there : ready l c ≡ true → due_go c ≡ true → Chosen d l p c net (accepted (single moves p))
  sent-there : {q : ℕ} {e : Component} {f : Fired} → ready l c ≡ true → at net q ≡ accepted e → fire d (together c e) ≡ accepted f → Chosen d l p c net (accepted (pair p q))
  nothing-there : {n : ℕ} → presses d l net c ≡ false → Chosen d l p c net (refused n)

and_none : (b : Bool) → (b && false) ≡ false
and_none true = refl
and_none false = refl

-- no call, no move with timer 0 and no partner
quiet : (d : Context) (l : Name) (c : Component) (net : List Component) → ok (fire d (alone calls c)) ≡ false → (due_go c && ok (fire d (alone moves c))) ≡ false → some (fitting d l c) net ≡ false → presses d l net c ≡ false
unfolding presses urgent
quiet d l c net k u s = rw (k, u, s) (and_none (ready l c))

chosen : (d : Context) (l : Name) (p : ℕ) (c : Component) (net : List Component) → Chosen d l p c net (choice d l p c net)
unfolding choice
chosen d l p c net = go (ready l c) refl (fire d (alone calls c)) refl (due_go c) refl (partner d l c net) refl
  where
    go : (a : Bool) → ready l c ≡ a → (k : Answer Fired) → fire d (alone calls c) ≡ k → (u : Bool) → due_go c ≡ u → (s : Answer ℕ) → partner d l c net ≡ s
        → Chosen d l p c net (cond a (cond (ok k) (accepted (single calls p)) (cond u (accepted (single moves p)) (s >>= λ q. accepted (pair p q)))) (refused 0))
    go false r k ek u eu s es = nothing-there (presses-ready d l net c r)
    go true r (accepted f) ek u eu s es = called-there r ek
    go true r (refused m) ek true eu s es = due-there r eu
    go true r (refused m) ek false eu (accepted q) es =
        let t = partner-some d l c net q es in
        let o = ok-inv (fire d (together c t.0)) (and-inv (ready l t.0) _ t.2).1 in
        sent-there r t.1 o.1
    go true r (refused m) ek false eu (refused n) es = nothing-there (quiet d l c net (ap ok ek) (rw eu) (partner-none d l c net n es))

-- a `go` is no call, and no output
due-only : (d : Context) (l : Name) (c : Component) (net : List Component) → due_go c ≡ true → ok (fire d (alone moves c)) ≡ false → presses d l net c ≡ false
unfolding due_go fits becomes meet some
due-only d l (comp h (by m) p) net e f = unfold ready in presses-ready d l net (comp h (by m) p) refl
due-only d l (comp h none (a ∥ p)) net e f = absurd (false≢true e)
due-only d l (comp h none (one stop)) net e f = absurd (false≢true e)
due-only d l (comp h none (one (out c t v p q))) net e f = absurd (false≢true e)
due-only d l (comp h none (one (inp c t y p q))) net e f = absurd (false≢true e)
due-only d l (comp h none (one (call i vs))) net e f = absurd (false≢true e)
due-only d l (comp h none (one (go t v p))) net e f = quiet d l _ net (unfit d _ refl) (rw (e, f)) (lonely net)
  where
    alone : (x : Component) → ok (fits d (together (comp h none (one (go t v p))) x)) ≡ false → fitting d l (comp h none (one (go t v p))) x ≡ false
    alone x e = rw (unfit d _ e) (and_none (ready l x))

    nobody : (x : Component) → fitting d l (comp h none (one (go t v p))) x ≡ false
    nobody (comp k (by m) q) = alone _ refl
    nobody (comp k none (a ∥ q)) = alone _ refl
    nobody (comp k none (one a)) = alone _ refl

    lonely : (net : List Component) → some (fitting d l (comp h none (one (go t v p)))) net ≡ false
    lonely [] = refl
    lonely (x ∷ xs) = rw (nobody x) (lonely xs)

-- ── what the step does at one position ──
pub length-set_all : {A : Type 0} (ps : List ℕ) (ys xs : List A) → length (set_all ps ys xs) ≡ length xs
unfolding set_all
length-set_all [] ys xs = refl
length-set_all (p ∷ ps) [] xs = refl
length-set_all (p ∷ ps) (y ∷ ys) xs = length-set_all ps ys (set xs p y) ∙ length-set xs p y

-- what stands at the position set, if anything does
at_set_same : {A : Type 0} (xs : List A) (p : ℕ) (x y : A) → at (set xs p y) p ≡ accepted x → y ≡ x
unfolding at set
at_set_same [] p x y e = clash e
at_set_same (z ∷ xs) zero x y e = took e
at_set_same (z ∷ xs) (suc p) x y e = at_set_same xs p x y e

never-ready : (h m : Name) (p : Process) (c : Component) → comp h (by m) p ≡ c → (l : Name) → ready l c ≡ false
unfolding ready
never-ready h m p c e l = rw (← e)

-- the first position of an action holds a marked component afterwards
abbrev lead : Action → ℕ
lead (single k p) = p
lead (pair p q) = p

lead-marked : (a : Action) (net : List Component) {x : Firing} {cs : List Component} → Shape x cs → (c : Component) → at (set_all (positions a) cs net) (lead a) ≡ accepted c → (l : Name) → ready l c ≡ false
unfolding set_all positions
lead-marked (single k p) net one-shape c e = never-ready _ _ _ c (at_set_same net p c _ e)
lead-marked (single k p) net (two-shape n) c e = never-ready _ _ _ c (at_set_same net p c _ e)
lead-marked (pair p q) net one-shape c e = never-ready _ _ _ c (at_set_same net p c _ e)
lead-marked (pair p q) net (two-shape {l = h} {p = y} {q = z} n) c e = go (at-set-or (set net p (comp h (by h) y)) q p c _ e)
  where
    go : (at (set net p (comp h (by h) y)) p ≡ accepted c) ⊎ (comp h (by h) z ≡ c) → (l : Name) → ready l c ≡ false
    go (inl f) = never-ready _ _ _ c (at_set_same net p c _ f)
    go (inr f) = never-ready _ _ _ c f

-- what one position leaves: its actions fire at l, nothing becomes ready, and the position itself no longer presses
pub record Passed (d : Context) (l : Name) (p : ℕ) (net : List Component) (r : Swept) : Type 0 where
  pub acts : act_all d l r.actions net ≡ accepted (record { labels = r.labels; comps = r.comps })
  pub fewer : Fewer net r.comps
  pub size : length r.comps ≡ length net
  pub rests : (c : Component) → at r.comps p ≡ accepted c → presses d l r.comps c ≡ false

idle-passed : (d : Context) (l : Name) (p : ℕ) (net : List Component) (c : Component) → at net p ≡ accepted c → presses d l net c ≡ false → Passed d l p net (idle net)
unfolding idle act_all
idle-passed d l p net c e q =
    record { acts = refl; fewer = fewer-refl net; size = refl; rests = λ x f. let h : c ≡ x = took (sym e ∙ f) in rw (← h) q }

acted-passed : (d : Context) (l : Name) (a : Action) (net : List Component) (x : Firing) (f : Fired) → firing_at a net ≡ accepted x → fire d x ≡ accepted f → here x ≡ l
    → Passed d l (lead a) net (taken d (accepted a) net)
unfolding taken took_place act_all act_at
acted-passed d l a net x f e h q =
    let n = set_all (positions a) f.after net in
    let r : Acted = record { label = f.label; comps = n } in
    let k : act d a net ≡ accepted r = act-ok d a net x f e h in
    let w : same_name (fires_at f.label) l ≡ true = rw (fires-here d x f h, q) (name-refl l) in
    subst (λ z. Passed d l (lead a) net (took_place a z net)) (sym k) (record {
      acts = rw (k, w);
      fewer = fewer-all a net (shape_of d x f h);
      size = length-set_all (positions a) f.after net;
      rests = λ c g. presses-ready d l n c (lead-marked a net (shape_of d x f h) c g l);
    })

place-ready : (d : Context) (l : Name) (p : ℕ) (net : List Component) (c : Component) → at net p ≡ accepted c → {s : Answer Action} → Chosen d l p c net s → Passed d l p net (taken d s net)
unfolding firing_at here
place-ready d l p net c e (called-there {f = f} r k) = acted-passed d l (single calls p) net (alone calls c) f (rw e) k (ready-place l c r)
place-ready d l p net c e (sent-there {q = q} {e = b} {f = f} r g k) = acted-passed d l (pair p q) net (together c b) f (rw (e, g)) k (ready-place l c r)
place-ready d l p net c e (nothing-there q) = unfold taken in idle-passed d l p net c e q
place-ready d l p net c e (due-there r u) = go (fire d (alone moves c)) refl
  where
    go : (k : Answer Fired) → fire d (alone moves c) ≡ k → Passed d l p net (taken d (accepted (single moves p)) net)
    go (accepted f) k = acted-passed d l (single moves p) net (alone moves c) f (rw e) k (ready-place l c r)
    go (refused n) k = unfold taken took_place act in rw (e, k) (idle-passed d l p net c e (due-only d l c net u (ap ok k)))

-- ── the sweep ──
act_all-then : (d : Context) (l : Name) (xs ys : List Action) (net : List Component) (r s : Done) → act_all d l xs net ≡ accepted r → act_all d l ys r.comps ≡ accepted s
    → act_all d l (xs ++ ys) net ≡ accepted (record { labels = r.labels ++ s.labels; comps = s.comps })
unfolding act_all
act_all-then d l [] ys net r s e h =
    subst (λ z. act_all d l ys z.comps ≡ accepted s → act_all d l ys net ≡ accepted (record { labels = z.labels ++ s.labels; comps = s.comps })) (took e) (λ h. h) h
act_all-then d l (x ∷ xs) ys net r s e h =
    let u = bind_inv (act_at d l x net) _ r e in
    let t = bind_inv (act_all d l xs u.0.comps) _ r u.2 in
    let q = took t.2 in
    let v = act_all-then d l xs ys u.0.comps t.0 s t.1 (rw (← q) at h) in
    rw (u.1, v) (ap {B = Answer Done} (λ z. accepted (record { labels = z.labels ++ s.labels; comps = s.comps })) q)

-- what the positions up to n leave
record Sweeps (d : Context) (l : Name) (n : ℕ) (net : List Component) (r : Swept) : Type 0 where
  acts : act_all d l r.actions net ≡ accepted (record { labels = r.labels; comps = r.comps })
  size : length r.comps ≡ length net
  quiet : Quiet d l n r.comps

at-below : {A : Type 0} (xs : List A) (p : ℕ) → p < length xs → (x : A) × (at xs p ≡ accepted x)
unfolding at
at-below [] p h = absurd (omega arith)
at-below (x ∷ xs) zero h = (x, refl)
at-below (x ∷ xs) (suc p) h = at-below xs p (omega arith)

quiet-more : (d : Context) (l : Name) (p : ℕ) (net : List Component) → Quiet d l p net → ((c : Component) → at net p ≡ accepted c → presses d l net c ≡ false) → Quiet d l (suc p) net
quiet-more d l p net q r i c h e = go (ltb i p) refl
  where
    go : (b : Bool) → ltb i p ≡ b → presses d l net c ≡ false
    go true t = q i c (ltb-true i p t) e
    go false t = let m : i ≡ p = omega (arith, ltb-false i p t) in r c (ap (at net) (sym m) ∙ e)

sweep-ok : (d : Context) (l : Name) (n p : ℕ) (net : List Component) → p + n ≡ length net → Quiet d l p net → Sweeps d l (p + n) net (sweep d l p n net)
unfolding sweep idle act_all visit followed
sweep-ok d l zero p net h q = record { acts = refl; size = refl; quiet = λ i c k e. q i c (omega arith) e }
sweep-ok d l (suc n) p net h q =
    let c = at-below net p (omega arith) in
    let v : Passed d l p net (visit d l p (at net p) net) = rw c.1 (place-ready d l p net c.0 c.1 (chosen d l p c.0 net)) in
    let r = visit d l p (at net p) net in
    let s = sweep-ok d l n (suc p) r.comps (omega (arith, v.size)) (quiet-more d l p r.comps (quiet-fewer d l p net r.comps v.fewer q) v.rests) in
    record {
      acts = act_all-then d l r.actions (sweep d l (suc p) n r.comps).actions net _ _ v.acts s.acts;
      size = s.size ∙ v.size;
      quiet = λ i c k e. s.quiet i c (omega arith) e;
    }

swept : (d : Context) (l : Name) (net : List Component) → Sweeps d l (length net) net (fires d l net)
unfolding fires
swept d l net =
    let s = sweep-ok d l (length net) 0 net (omega arith) (λ i c k e. absurd (omega arith)) in
    record { acts = s.acts; size = s.size; quiet = λ i c k e. s.quiet i c (omega arith) e }

-- the step's actions, each firing at l
pub fires-acts : (d : Context) (l : Name) (net : List Component) → act_all d l (fires d l net).actions net ≡ accepted (record { labels = (fires d l net).labels; comps = (fires d l net).comps })
fires-acts d l net = (swept d l net).acts

at_length : {A : Type 0} (xs : List A) (p : ℕ) (x : A) → at xs p ≡ accepted x → p < length xs
unfolding at
at_length [] p x e = clash e
at_length (y ∷ xs) zero x e = omega arith
at_length (y ∷ xs) (suc p) x e = omega (arith, at_length xs p x e)

-- ── the laws ──
-- after the step's actions the tick at l is allowed
pub step-free : (d : Context) (l : Name) (net : List Component) → forced d l (fires d l net).comps ≡ false
step-free d l net = forced-is d l n ∙ go (true-or-false (some (presses d l n) n))
  where
    n : List Component
    n = (fires d l net).comps

    go : (some (presses d l (fires d l net).comps) (fires d l net).comps ≡ true) ⊎ (some (presses d l (fires d l net).comps) (fires d l net).comps ≡ false)
        → some (presses d l (fires d l net).comps) (fires d l net).comps ≡ false
    go (inr e) = e
    go (inl e) =
        let s = swept d l net in
        let r = some-find (presses d l (fires d l net).comps) (fires d l net).comps e in
        absurd (not-both _ r.3 (s.quiet r.0 r.1 (omega (arith, at_length _ r.0 r.1 r.2, s.size)) r.2))

-- the step never meets question 12
pub step-accepted : (d : Context) (l : Name) (net : List Component)
    → step d l net ≡ accepted (record { actions = (fires d l net).actions; labels = (fires d l net).labels; comps = flat_map (pass d (λ m. same_name m l) l) (fires d l net).comps })
unfolding step tick tick_with
step-accepted d l net = rw (step-free d l net)

-- and it is a whole step: its actions, each firing at l, then the tick at l
fires-whole : (d : Context) (l : Name) (net : List Component)
    → whole_step d l (fires d l net).actions net ≡ accepted (record { labels = (fires d l net).labels; comps = flat_map (pass d (λ m. same_name m l) l) (fires d l net).comps })
unfolding whole_step tick tick_with
fires-whole d l net = rw (fires-acts d l net, step-free d l net)

pub step-whole : (d : Context) (l : Name) (net : List Component) (s : Swept) → step d l net ≡ accepted s
    → whole_step d l s.actions net ≡ accepted (record { labels = s.labels; comps = s.comps })
step-whole d l net s e =
    subst (λ s. whole_step d l s.actions net ≡ accepted (record { labels = s.labels; comps = s.comps })) (took (sym (step-accepted d l net) ∙ e)) (fires-whole d l net)
