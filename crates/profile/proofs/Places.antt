-- After all whole steps at a location that conforms each component stands at its position.
-- Idea: a component that fires in a step fires by itself or in a pair, and at such a location in one way only; and where the tick is allowed, each that could has
-- fired. What fires is replaced at its own position and marked, so that it does not fire again.
use Prim.Native.Nat.{ℕ, zero, suc, ◌<◌}
use native.Mathlib.Omega.{arith}
use mathlib.Core.List.{List, [], ◌∷◌, ◌++◌, flat_map, cons-eq-cons}
use mathlib.Core.Bool.{Bool, true, false, cond, ◌&&◌, not, false≢true}
use mathlib.Core.Logic.{◌⊎◌, inl, inr}
use mathlib.Core.Path.{◌≡◌, refl, ap, sym, ◌∙◌, subst}
use lib.ListN.{length}
use borrow.Author.Tests.{not-true}
use Rattle.terms.specs.Names.{Name, same_name}
use Rattle.terms.specs.Terms.{Component, Context}
use Rattle.terms.specs.Terms.Process.{one, ◌∥◌}
use Rattle.terms.specs.Terms.Mark.{none, by}
use Rattle.terms.specs.Terms.Component.{comp}
use Rattle.terms.specs.Rules.{Kind, Fired, Action, Acted, ok, at, set, set_all, some, only, becomes, meet, fits, fire, positions, firing_at, unmarked, ready, forced}
use Rattle.terms.specs.Rules.Answer.{accepted}
use Rattle.terms.specs.Rules.Kind.{calls, moves}
use Rattle.terms.specs.Rules.Firing.{alone, together}
use Rattle.terms.specs.Rules.Action.{single, pair}
use Rattle.terms.specs.Runs.{here, place_of}
use Rattle.terms.specs.Step.{Done, act_at, act_all}
use Rattle.terms.proofs.Names.{and-inv, and_in, name-eq, name-refl}
use Rattle.terms.proofs.Answers.{clash, took, bind_inv, cond-inv, fire-fits}
use Rattle.terms.proofs.Lists.{at-within, length-set}
use Rattle.terms.proofs.Forced.{some-at, some-only, blocking, Blocking, forced-if, ready-place}
use Rattle.terms.proofs.Steps.{fires-here}
use Rattle.laws.proofs.Fires.{at-inv}
use Rattle.profile.specs.Profile.{late_go, sends_on, receives_on, at_most_one, Conforming}
use Rattle.profile.proofs.Counts.{tail-one}
use Rattle.profile.proofs.Pairs.{one-kind, pairs, sends, no-alone, only-sends, only-receives, no-hear, never, prompt-go}

-- ── lists by position ──
module _ {A : Type 0} where
  at-put : (xs : List A) (p : ℕ) (x y : A) → at xs p ≡ accepted x → at (set xs p y) p ≡ accepted y
  unfolding at set
  at-put [] p x y e = clash e
  at-put (z ∷ xs) zero x y e = refl
  at-put (z ∷ xs) (suc p) x y e = at-put xs p x y e

  -- what stands in a list with one element replaced
  set-inv : (xs : List A) (p q : ℕ) (x y : A) → at (set xs p y) q ≡ accepted x → ((p ≡ q) × (y ≡ x)) ⊎ (at xs q ≡ accepted x)
  unfolding at set
  set-inv [] p q x y e = clash e
  set-inv (z ∷ xs) zero zero x y e = inl (refl, took e)
  set-inv (z ∷ xs) zero (suc q) x y e = inr e
  set-inv (z ∷ xs) (suc p) zero x y e = inr e
  set-inv (z ∷ xs) (suc p) (suc q) x y e = go (set-inv xs p q x y e)
    where
      go : ((p ≡ q) × (y ≡ x)) ⊎ (at xs q ≡ accepted x) → ((suc p ≡ suc q) × (y ≡ x)) ⊎ (at xs q ≡ accepted x)
      go (inl (h, k)) = inl (ap suc h, k)
      go (inr k) = inr k

  set-or : (xs : List A) (p q : ℕ) (x y : A) → at xs q ≡ accepted x → (at (set xs p y) q ≡ accepted y) ⊎ (at (set xs p y) q ≡ accepted x)
  unfolding at set
  set-or [] p q x y e = clash e
  set-or (z ∷ xs) zero zero x y e = inl refl
  set-or (z ∷ xs) zero (suc q) x y e = inr e
  set-or (z ∷ xs) (suc p) zero x y e = inr e
  set-or (z ∷ xs) (suc p) (suc q) x y e = set-or xs p q x y e

  at_some : (xs : List A) (p : ℕ) → p < length xs → (x : A) × (at xs p ≡ accepted x)
  unfolding at
  at_some [] p h = absurd (omega arith)
  at_some (x ∷ xs) zero h = (x, refl)
  at_some (x ∷ xs) (suc p) h = at_some xs p (omega arith)

  -- lists that agree at each position are equal
  pub at_all : (xs ys : List A) → length xs ≡ length ys → ((p : ℕ) (x y : A) → at xs p ≡ accepted x → at ys p ≡ accepted y → x ≡ y) → xs ≡ ys
  unfolding at
  at_all [] [] n h = refl
  at_all [] (y ∷ ys) n h = absurd (omega arith)
  at_all (x ∷ xs) [] n h = absurd (omega arith)
  at_all (x ∷ xs) (y ∷ ys) n h = cons-eq-cons.1 (h 0 x y refl refl, at_all xs ys (omega arith) (λ p a b. h (suc p) a b))

  -- of those that pass a test at most one passes another: they stand at one position
  none-behind : (f g : A → Bool) (z : A) (xs : List A) → at_most_one f (flat_map (only g) (z ∷ xs)) ≡ true → (g z && f z) ≡ true → (q : ℕ) (y : A) → at xs q ≡ accepted y → (g y && f y) ≡ true → ⊥
  unfolding flat_map only at_most_one
  none-behind f g z xs e s q y k t =
      let a = and-inv (g z) (f z) s in
      let h : not (some f (flat_map (only g) xs)) ≡ true = rw (a.0, a.1) at e in
      false≢true (sym (not-true _ h) ∙ some-only f g xs ∙ some-at _ xs q y k t)

  one_place : (f g : A → Bool) (xs : List A) → at_most_one f (flat_map (only g) xs) ≡ true → (p q : ℕ) (x y : A) → at xs p ≡ accepted x → at xs q ≡ accepted y
      → (g x && f x) ≡ true → (g y && f y) ≡ true → p ≡ q
  unfolding at flat_map only
  one_place f g [] e p q x y h k s t = clash h
  one_place f g (z ∷ xs) e zero zero x y h k s t = refl
  one_place f g (z ∷ xs) e zero (suc q) x y h k s t = absurd (none-behind f g z xs e (rw (took h) s) q y k t)
  one_place f g (z ∷ xs) e (suc p) zero x y h k s t = absurd (none-behind f g z xs e (rw (took k) t) p x h s)
  one_place f g (z ∷ xs) e (suc p) (suc q) x y h k s t = ap suc (one_place f g xs (rest (g z) e) p q x y h k s t)
    where
      rest : (b : Bool) → at_most_one f (cond b (z ∷ []) [] ++ flat_map (only g) xs) ≡ true → at_most_one f (flat_map (only g) xs) ≡ true
      rest true e = tail-one f z (flat_map (only g) xs) e
      rest false e = e

-- ── what fires is unmarked, and what it becomes is marked ──
record After (c x : Component) : Type 0 where
  before-free : unmarked c ≡ true
  marked : unmarked x ≡ false

alone-after : (d : Context) (k : Kind) (c : Component) (f : Fired) → fits d (alone k c) ≡ accepted f → (x : Component) × (f.after ≡ x ∷ []) × After c x
unfolding fits unmarked
alone-after d k (comp h (by m) p) f e = clash e
alone-after d k (comp h none (a ∥ p)) f e = clash e
alone-after d k (comp h none (one a)) f e =
    let r = bind_inv (becomes d k h a) _ f e in
    (_, ap (λ (f : Fired). f.after) (sym (took r.2)), record { before-free = refl; marked = refl })

pair-after : (d : Context) (c e : Component) (f : Fired) → fits d (together c e) ≡ accepted f → (x : Component) × (y : Component) × (f.after ≡ x ∷ y ∷ []) × After c x × After e y × (place_of e ≡ place_of c)
unfolding fits unmarked place_of
pair-after d (comp h (by m) p) e f g = clash g
pair-after d (comp h none p) (comp k (by m) q) f e = clash e
pair-after d (comp h none (a ∥ p)) (comp k none q) f e = clash e
pair-after d (comp h none (one a)) (comp k none (b ∥ q)) f e = clash e
pair-after d (comp h none (one a)) (comp k none (one b)) f e =
    let r = bind_inv (meet a b) _ f e in
    let c = cond-inv (same_name h k) _ f 11 r.2 in
    (_, _, ap (λ (f : Fired). f.after) (sym c.1), record { before-free = refl; marked = refl }, record { before-free = refl; marked = refl }, sym (name-eq h k c.0))

ready-at : (l : Name) (c : Component) → unmarked c ≡ true → place_of c ≡ l → ready l c ≡ true
unfolding ready unmarked place_of
ready-at l (comp h none p) u e = rw e (name-refl l)
ready-at l (comp h (by m) p) u e = absurd (false≢true u)

ready-free : (l : Name) (c : Component) → ready l c ≡ true → unmarked c ≡ true
unfolding ready unmarked
ready-free l (comp h none p) e = refl
ready-free l (comp h (by m) p) e = absurd (false≢true e)

module _ (d : Context) (l : Name) (net : List Component) where
  -- ── how a component of the network has fired ──
  -- at q there stands something marked
  abbrev Gone : List Component → ℕ → Type 0
  Gone s q = (x : Component) × (at s q ≡ accepted x) × (unmarked x ≡ false)

  -- in s the component at p has fired and become x: by itself, or with one that has fired too
  data Fate (s : List Component) (p : ℕ) (x : Component) : Type 0 where
    itself : (k : Kind) (c : Component) (f : Fired) → at net p ≡ accepted c → ready l c ≡ true → fire d (alone k c) ≡ accepted f → f.after ≡ x ∷ [] → Fate s p x
    sender : (q : ℕ) (c e y : Component) (f : Fired) → at net p ≡ accepted c → at net q ≡ accepted e → ready l c ≡ true → ready l e ≡ true → fire d (together c e) ≡ accepted f → f.after ≡ x ∷ y ∷ [] → Gone s q → Fate s p x
    receiver : (q : ℕ) (c e y : Component) (f : Fired) → at net q ≡ accepted c → at net p ≡ accepted e → ready l c ≡ true → ready l e ≡ true → fire d (together c e) ≡ accepted f → f.after ≡ y ∷ x ∷ [] → Gone s q → Fate s p x

  -- what the actions so far leave: each component stands as it stood, or has fired and is marked
  record Held (s : List Component) : Type 0 where
    size : length s ≡ length net
    stands : (p : ℕ) (x : Component) → at s p ≡ accepted x → (at net p ≡ accepted x) ⊎ (Fate s p x × (unmarked x ≡ false))

  gone-set : (s : List Component) (p q : ℕ) (y : Component) → unmarked y ≡ false → Gone s q → Gone (set s p y) q
  gone-set s p q y m (x, e, u) = go (set-or s p q x y e)
    where
      go : (at (set s p y) q ≡ accepted y) ⊎ (at (set s p y) q ≡ accepted x) → Gone (set s p y) q
      go (inl h) = (y, h, m)
      go (inr h) = (x, h, u)

  fate-set : (s : List Component) (p r : ℕ) (x y : Component) → unmarked y ≡ false → Fate s r x → Fate (set s p y) r x
  fate-set s p r x y m (itself k c f a b g h) = itself k c f a b g h
  fate-set s p r x y m (sender q c e z f a b i j g h o) = sender q c e z f a b i j g h (gone-set s p q y m o)
  fate-set s p r x y m (receiver q c e z f a b i j g h o) = receiver q c e z f a b i j g h (gone-set s p q y m o)

  -- what is unmarked has not fired
  still : (s : List Component) (p : ℕ) (c : Component) → Held s → at s p ≡ accepted c → unmarked c ≡ true → at net p ≡ accepted c
  still s p c h e u = go (h.stands p c e)
    where
      go : (at net p ≡ accepted c) ⊎ (Fate s p c × (unmarked c ≡ false)) → at net p ≡ accepted c
      go (inl k) = k
      go (inr (f, m)) = absurd (false≢true (sym m ∙ u))

  held_one : (k : Kind) (p : ℕ) (s : List Component) (c x : Component) (f : Fired) → Held s → at s p ≡ accepted c → ready l c ≡ true → fire d (alone k c) ≡ accepted f → f.after ≡ x ∷ [] → After c x → Held (set s p x)
  held_one k p s c x f h e r g a m = record { size = length-set s p x ∙ h.size; stands = stands' }
    where
      stands' : (q : ℕ) (y : Component) → at (set s p x) q ≡ accepted y → (at net q ≡ accepted y) ⊎ (Fate (set s p x) q y × (unmarked y ≡ false))
      stands' q y i = go (set-inv s p q y x i)
        where
          mine : Fate (set s p x) p x
          mine = itself k c f (still s p c h e m.before-free) r g a

          old : (at net q ≡ accepted y) ⊎ (Fate s q y × (unmarked y ≡ false)) → (at net q ≡ accepted y) ⊎ (Fate (set s p x) q y × (unmarked y ≡ false))
          old (inl j) = inl j
          old (inr (j, u)) = inr (fate-set s p q y x m.marked j, u)

          go : ((p ≡ q) × (x ≡ y)) ⊎ (at s q ≡ accepted y) → (at net q ≡ accepted y) ⊎ (Fate (set s p x) q y × (unmarked y ≡ false))
          go (inl (j, o)) = inr (subst (λ y. Fate (set s p x) q y) o (subst (λ q. Fate (set s p x) q x) j mine), ap unmarked (sym o) ∙ m.marked)
          go (inr j) = old (h.stands q y j)

  held_two : (p q : ℕ) (s : List Component) (c e x y : Component) (f : Fired) → Held s → at s p ≡ accepted c → at s q ≡ accepted e → ready l c ≡ true → ready l e ≡ true → fire d (together c e) ≡ accepted f
      → f.after ≡ x ∷ y ∷ [] → After c x → After e y → Held (set (set s p x) q y)
  held_two p q s c e x y f h i j r t g a m n = record { size = length-set (set s p x) q y ∙ length-set s p x ∙ h.size; stands = stands' }
    where
      at_p : at net p ≡ accepted c
      at_p = still s p c h i m.before-free

      at-q : at net q ≡ accepted e
      at-q = still s q e h j n.before-free

      gone-p : Gone (set (set s p x) q y) p
      gone-p = gone-set (set s p x) q p y n.marked (x, at-put s p c x i, m.marked)

      gone-q : Gone (set (set s p x) q y) q
      gone-q = go (set-or s p q e x j)
        where
          go : (at (set s p x) q ≡ accepted x) ⊎ (at (set s p x) q ≡ accepted e) → Gone (set (set s p x) q y) q
          go (inl k) = (y, at-put (set s p x) q x y k, n.marked)
          go (inr k) = (y, at-put (set s p x) q e y k, n.marked)

      stands' : (r' : ℕ) (z : Component) → at (set (set s p x) q y) r' ≡ accepted z → (at net r' ≡ accepted z) ⊎ (Fate (set (set s p x) q y) r' z × (unmarked z ≡ false))
      stands' r' z k = second (set-inv (set s p x) q r' z y k)
        where
          old : (at net r' ≡ accepted z) ⊎ (Fate s r' z × (unmarked z ≡ false)) → (at net r' ≡ accepted z) ⊎ (Fate (set (set s p x) q y) r' z × (unmarked z ≡ false))
          old (inl o) = inl o
          old (inr (o, u)) = inr (fate-set (set s p x) q r' z y n.marked (fate-set s p r' z x m.marked o), u)

          first : ((p ≡ r') × (x ≡ z)) ⊎ (at s r' ≡ accepted z) → (at net r' ≡ accepted z) ⊎ (Fate (set (set s p x) q y) r' z × (unmarked z ≡ false))
          first (inl (o, v)) = inr (subst (λ z. Fate (set (set s p x) q y) r' z) v (subst (λ r'. Fate (set (set s p x) q y) r' x) o (sender q c e y f at_p at-q r t g a gone-q)), ap unmarked (sym v) ∙ m.marked)
          first (inr o) = old (h.stands r' z o)

          second : ((q ≡ r') × (y ≡ z)) ⊎ (at (set s p x) r' ≡ accepted z) → (at net r' ≡ accepted z) ⊎ (Fate (set (set s p x) q y) r' z × (unmarked z ≡ false))
          second (inl (o, v)) = inr (subst (λ z. Fate (set (set s p x) q y) r' z) v (subst (λ r'. Fate (set (set s p x) q y) r' y) o (receiver p c e x f at_p at-q r t g a gone-p)), ap unmarked (sym v) ∙ n.marked)
          second (inr o) = first (set-inv s p r' z x o)

  -- ── a list of actions ──
  held-act : (a : Action) (s : List Component) (r : Acted) → Held s → act_at d l a s ≡ accepted r → Held r.comps
  unfolding firing_at positions set_all here
  held-act (single k p) s r h e =
      let v = at-inv d l (single k p) s r e in
      let u = bind_inv (at s p) _ v.0 v.2 in
      let g : fire d (alone k u.0) ≡ accepted v.1 = ap (fire d) (took u.2) ∙ v.3 in
      let b = alone-after d k u.0 v.1 (fire-fits d _ v.1 g) in
      let o : place_of u.0 ≡ l = sym (fires-here d (alone k u.0) v.1 g) ∙ name-eq _ l v.4 in
      let m = b.2 in
      let i = held_one k p s u.0 b.0 v.1 h u.1 (ready-at l u.0 m.before-free o) g b.1 m in
      subst Held (ap (λ cs. set_all (p ∷ []) cs s) (sym b.1) ∙ ap (λ (r : Acted). r.comps) v.5) i
  held-act (pair p q) s r h e =
      let v = at-inv d l (pair p q) s r e in
      let u = bind_inv (at s p) _ v.0 v.2 in
      let w = bind_inv (at s q) _ v.0 u.2 in
      let g : fire d (together u.0 w.0) ≡ accepted v.1 = ap (fire d) (took w.2) ∙ v.3 in
      let b = pair-after d u.0 w.0 v.1 (fire-fits d _ v.1 g) in
      let o : place_of u.0 ≡ l = sym (fires-here d (together u.0 w.0) v.1 g) ∙ name-eq _ l v.4 in
      let m = b.3 in
      let n = b.4 in
      let i = held_two p q s u.0 w.0 b.0 b.1 v.1 h u.1 w.1 (ready-at l u.0 m.before-free o) (ready-at l w.0 n.before-free (b.5 ∙ o)) g b.2 m n in
      subst Held (ap (λ cs. set_all (p ∷ q ∷ []) cs s) (sym b.2) ∙ ap (λ (r : Acted). r.comps) v.5) i

  held-acts : (xs : List Action) (s : List Component) (z : Done) → Held s → act_all d l xs s ≡ accepted z → Held z.comps
  unfolding act_all
  held-acts [] s z h e = subst Held (ap (λ (z : Done). z.comps) (took e)) h
  held-acts (a ∷ xs) s z h e =
      let u = bind_inv (act_at d l a s) _ z e in
      let t = bind_inv (act_all d l xs u.0.comps) _ z u.2 in
      subst Held (ap (λ (z : Done). z.comps) (took t.2)) (held-acts xs u.0.comps t.0 (held-act a s u.0 h u.1) t.1)

  held-net : Held net
  held-net = record { size = refl; stands = λ p x e. inl e }

  -- ── at a location that conforms each fires in one way ──
  module _ (k : Conforming l net) where
    one-sender : (h : Name) (p q : ℕ) (c e : Component) → at net p ≡ accepted c → at net q ≡ accepted e → ready l c ≡ true → ready l e ≡ true → sends_on h c ≡ true → sends_on h e ≡ true → p ≡ q
    one-sender h p q c e a b i j s t = one_place (sends_on h) (ready l) net (k.senders h) p q c e a b (and_in _ _ i s) (and_in _ _ j t)

    one-receiver : (h : Name) (p q : ℕ) (c e : Component) → at net p ≡ accepted c → at net q ≡ accepted e → ready l c ≡ true → ready l e ≡ true → receives_on h c ≡ true → receives_on h e ≡ true → p ≡ q
    one-receiver h p q c e a b i j s t = one_place (receives_on h) (ready l) net (k.receivers h) p q c e a b (and_in _ _ i s) (and_in _ _ j t)

    prompt-at : (p : ℕ) (c : Component) → at net p ≡ accepted c → ready l c ≡ true → late_go c ≡ false
    prompt-at p c a r = never (late_go c) (λ t. false≢true (sym k.prompt ∙ some-only late_go (ready l) net ∙ some-at _ net p c a (and_in _ _ r t)))

    -- two senders that may meet one receiver stand at one position, and so do two receivers that one sender may meet
    same-sender : (p q : ℕ) (c c' e : Component) → at net p ≡ accepted c → at net q ≡ accepted c' → ready l c ≡ true → ready l c' ≡ true → ok (fire d (together c e)) ≡ true → ok (fire d (together c' e)) ≡ true → p ≡ q
    same-sender p q c c' e a b i j g h =
        let r = sends d (pairs d c e g) in
        let t = sends d (pairs d c' e h) in
        one-sender r.0 p q c c' a b i j r.1 (subst (λ n. sends_on n c' ≡ true) (only-receives t.0 r.0 e t.2 r.2) t.1)

    same-receiver : (p q : ℕ) (c e e' : Component) → at net p ≡ accepted e → at net q ≡ accepted e' → ready l e ≡ true → ready l e' ≡ true → ok (fire d (together c e)) ≡ true → ok (fire d (together c e')) ≡ true → p ≡ q
    same-receiver p q c e e' a b i j g h =
        let r = sends d (pairs d c e g) in
        let t = sends d (pairs d c e' h) in
        one-receiver r.0 p q e e' a b i j r.2 (subst (λ n. receives_on n e' ≡ true) (only-sends t.0 r.0 c t.1 r.1) t.2)

    -- ── each has one fate ──
    at_one : (p : ℕ) (c e : Component) → at net p ≡ accepted c → at net p ≡ accepted e → c ≡ e
    at_one p c e a b = took (sym a ∙ b)

    not-alone : (n : Kind) (c e : Component) (f : Fired) → fire d (alone n c) ≡ accepted f → ok (fire d (together c e)) ≡ true → ⊥
    not-alone n c e f g o = false≢true (sym (no-alone d n (pairs d c e o)).0 ∙ ap ok g)

    not-alone' : (n : Kind) (c e : Component) (f : Fired) → fire d (alone n e) ≡ accepted f → ok (fire d (together c e)) ≡ true → ⊥
    not-alone' n c e f g o = false≢true (sym (no-alone d n (pairs d c e o)).1 ∙ ap ok g)

    -- nobody both sends and receives
    not-between : (b c e : Component) → ok (fire d (together b c)) ≡ true → ok (fire d (together c e)) ≡ true → ⊥
    not-between b c e g o = let r = sends d (pairs d c e o) in false≢true (sym (no-hear d r.0 c r.1 b) ∙ g)

    same_kind : (n n' : Kind) (c : Component) (f f' : Fired) → fire d (alone n c) ≡ accepted f → fire d (alone n' c) ≡ accepted f' → f ≡ f'
    same_kind calls calls c f f' g o = took (sym g ∙ o)
    same_kind calls moves c f f' g o = absurd (one-kind d c f f' g o)
    same_kind moves calls c f f' g o = absurd (one-kind d c f' f o g)
    same_kind moves moves c f f' g o = took (sym g ∙ o)

    first_of : {x x' : Component} {ys ys' : List Component} → x ∷ ys ≡ x' ∷ ys' → x ≡ x'
    first_of e = (cons-eq-cons.0 e).0

    second-of : {x x' y y' : Component} {ys ys' : List Component} → x ∷ y ∷ ys ≡ x' ∷ y' ∷ ys' → y ≡ y'
    second-of e = first_of (cons-eq-cons.0 e).1

    after_same : {f f' : Fired} {xs ys : List Component} → f ≡ f' → f.after ≡ xs → f'.after ≡ ys → xs ≡ ys
    after_same e h h' = sym h ∙ ap (λ (f : Fired). f.after) e ∙ h'

    fate-one : (s t : List Component) (p : ℕ) (x y : Component) → Fate s p x → Fate t p y → x ≡ y
    fate-one s t p x y (itself n c f a i g h) (itself n' c' f' a' i' g' h') =
        first_of (after_same (same_kind n n' c f f' g (rw (at_one p c c' a a') g')) h h')
    fate-one s t p x y (itself n c f a i g h) (sender q c' e' z' f' a' b' i' j' g' h' o') = absurd (not-alone n c e' f g (rw (at_one p c c' a a') (ap ok g')))
    fate-one s t p x y (itself n c f a i g h) (receiver q c' e' z' f' a' b' i' j' g' h' o') = absurd (not-alone' n c' c f g (rw (at_one p c e' a b') (ap ok g')))
    fate-one s t p x y (sender q c e z f a b i j g h o) (itself n' c' f' a' i' g' h') = absurd (not-alone n' c' e f' g' (rw (at_one p c' c a' a) (ap ok g)))
    fate-one s t p x y (sender q c e z f a b i j g h o) (sender q' c' e' z' f' a' b' i' j' g' h' o') =
        let u : c' ≡ c = at_one p c' c a' a in
        let g'' : fire d (together c e') ≡ accepted f' = rw (sym u) g' in
        let v : q ≡ q' = same-receiver q q' c e e' b b' j j' (ap ok g) (ap ok g'') in
        let w : e ≡ e' = at_one q e e' b (rw v b') in
        first_of (after_same (took (sym g ∙ ap (λ e. fire d (together c e)) w ∙ g'')) h h')
    fate-one s t p x y (sender q c e z f a b i j g h o) (receiver q' c' e' z' f' a' b' i' j' g' h' o') = absurd (not-between c' c e (rw (at_one p c e' a b') (ap ok g')) (ap ok g))
    fate-one s t p x y (receiver q c e z f a b i j g h o) (itself n' c' f' a' i' g' h') = absurd (not-alone' n' c c' f' g' (rw (at_one p c' e a' b) (ap ok g)))
    fate-one s t p x y (receiver q c e z f a b i j g h o) (sender q' c' e' z' f' a' b' i' j' g' h' o') = absurd (not-between c e e' (ap ok g) (rw (at_one p e c' b a') (ap ok g')))
    fate-one s t p x y (receiver q c e z f a b i j g h o) (receiver q' c' e' z' f' a' b' i' j' g' h' o') =
        let u : e' ≡ e = at_one p e' e b' b in
        let g'' : fire d (together c' e) ≡ accepted f' = rw (sym u) g' in
        let v : q ≡ q' = same-sender q q' c c' e a a' i i' (ap ok g) (ap ok g'') in
        let w : c ≡ c' = at_one q c c' a (rw v a') in
        second-of (after_same (took (sym g ∙ ap (λ c. fire d (together c e)) w ∙ g'')) h h')

    -- ── where the tick is allowed, what could fire has fired ──
    module _ (z : List Component) (held : Held z) (free : forced d l z ≡ false) where
      not-forced : Blocking d l z → ⊥
      not-forced b = false≢true (sym free ∙ forced-if d l z b)

      -- it would stop the tick by itself
      blocks-alone : (n : Kind) (p : ℕ) (c : Component) (f : Fired) → at net p ≡ accepted c → at z p ≡ accepted c → ready l c ≡ true → fire d (alone n c) ≡ accepted f → ⊥
      unfolding firing_at here blocking
      blocks-alone calls p c f a b r g = not-forced (record { action = single calls p; firing = alone calls c; fired = f; stands = rw b; fires = g; at-l = ready-place l c r; blocks = refl })
      blocks-alone moves p c f a b r g =
          not-forced (record { action = single moves p; firing = alone moves c; fired = f; stands = rw b; fires = g; at-l = ready-place l c r; blocks = prompt-go d c (prompt-at p c a r) (ap ok g) })

      -- or with its partner
      blocks-pair : (p q : ℕ) (c e : Component) (f : Fired) → at z p ≡ accepted c → at z q ≡ accepted e → ready l c ≡ true → fire d (together c e) ≡ accepted f → ⊥
      unfolding firing_at here blocking
      blocks-pair p q c e f a b r g = not-forced (record { action = pair p q; firing = together c e; fired = f; stands = rw (a, b); fires = g; at-l = ready-place l c r; blocks = refl })

      -- what stands at q now, where e stood: e itself, or it has fired
      now-at : (q : ℕ) (e : Component) → at net q ≡ accepted e → (at z q ≡ accepted e) ⊎ ((x : Component) × Fate z q x)
      now-at q e b =
          let w = at_some z q (omega (arith, at-within net q e b, held.size)) in
          go w.0 w.1 (held.stands q w.0 w.1)
        where
          go : (x : Component) → at z q ≡ accepted x → (at net q ≡ accepted x) ⊎ (Fate z q x × (unmarked x ≡ false)) → (at z q ≡ accepted e) ⊎ ((x : Component) × Fate z q x)
          go x h (inl k) = inl (h ∙ ap accepted (at_one q x e k b))
          go x h (inr (f, m)) = inr (x, f)

      -- something marked does not stand where something ready stands
      not-gone : (p q : ℕ) (c : Component) → at z p ≡ accepted c → ready l c ≡ true → p ≡ q → Gone z q → ⊥
      not-gone p q c a r e (x, h, m) = false≢true (sym m ∙ ap unmarked (took (sym h ∙ ap (at z) (sym e) ∙ a)) ∙ ready-free l c r)

      sender-fired : (p q : ℕ) (c e x : Component) (f : Fired) → at net p ≡ accepted c → at z p ≡ accepted c → at net q ≡ accepted e → ready l c ≡ true → fire d (together c e) ≡ accepted f → Fate z q x → ⊥
      sender-fired p q c e x f a a' b i g (itself n c₂ f₂ a₂ i₂ g₂ h₂) = not-alone' n c c₂ f₂ g₂ (rw (at_one q c₂ e a₂ b) (ap ok g))
      sender-fired p q c e x f a a' b i g (sender q₂ c₂ e₂ y₂ f₂ a₂ b₂ i₂ j₂ g₂ h₂ o₂) = not-between c c₂ e₂ (rw (at_one q c₂ e a₂ b) (ap ok g)) (ap ok g₂)
      sender-fired p q c e x f a a' b i g (receiver q₂ c₂ e₂ y₂ f₂ a₂ b₂ i₂ j₂ g₂ h₂ o₂) =
          not-gone p q₂ c a' i (same-sender p q₂ c c₂ e₂ a a₂ i i₂ (rw (at_one q e₂ e b₂ b) (ap ok g)) (ap ok g₂)) o₂

      receiver-fired : (p q : ℕ) (c e x : Component) (f : Fired) → at net p ≡ accepted e → at z p ≡ accepted e → at net q ≡ accepted c → ready l e ≡ true → fire d (together c e) ≡ accepted f → Fate z q x → ⊥
      receiver-fired p q c e x f a a' b i g (itself n c₂ f₂ a₂ i₂ g₂ h₂) = not-alone n c₂ e f₂ g₂ (rw (at_one q c₂ c a₂ b) (ap ok g))
      receiver-fired p q c e x f a a' b i g (sender q₂ c₂ e₂ y₂ f₂ a₂ b₂ i₂ j₂ g₂ h₂ o₂) =
          not-gone p q₂ e a' i (same-receiver p q₂ c₂ e e₂ a b₂ i j₂ (rw (at_one q c₂ c a₂ b) (ap ok g)) (ap ok g₂)) o₂
      receiver-fired p q c e x f a a' b i g (receiver q₂ c₂ e₂ y₂ f₂ a₂ b₂ i₂ j₂ g₂ h₂ o₂) = not-between c₂ e₂ e (ap ok g₂) (rw (at_one q e₂ c b₂ b) (ap ok g))

      -- so what could fire does not stand as it stood
      has-fired : (t : List Component) (p : ℕ) (x y : Component) → at net p ≡ accepted x → at z p ≡ accepted x → Fate t p y → ⊥
      has-fired t p x y n m (itself k₂ c f a i g h) = blocks-alone k₂ p c f a (m ∙ ap accepted (at_one p x c n a)) i g
      has-fired t p x y n m (sender q c e z' f a b i j g h o) =
          let m' = m ∙ ap accepted (at_one p x c n a) in
          go (now-at q e b) m'
        where
          go : (at z q ≡ accepted e) ⊎ ((x : Component) × Fate z q x) → at z p ≡ accepted c → ⊥
          go (inl w) m' = blocks-pair p q c e f m' w i g
          go (inr (w, u)) m' = sender-fired p q c e w f a m' b i g u
      has-fired t p x y n m (receiver q c e z' f a b i j g h o) =
          let m' = m ∙ ap accepted (at_one p x e n b) in
          go (now-at q c a) m'
        where
          go : (at z q ≡ accepted c) ⊎ ((x : Component) × Fate z q x) → at z p ≡ accepted e → ⊥
          go (inl w) m' = blocks-pair q p c e f w m' i g
          go (inr (w, u)) m' = receiver-fired p q c e w f b m' a j g u

    -- two lists of actions after which the tick is allowed leave the same
    same_left : (y z : List Component) → Held y → Held z → forced d l y ≡ false → forced d l z ≡ false → y ≡ z
    same_left y z h k' e f = at_all y z (h.size ∙ sym k'.size) (λ p u v a b. go p u v a b (h.stands p u a) (k'.stands p v b))
      where
        go : (p : ℕ) (u v : Component) → at y p ≡ accepted u → at z p ≡ accepted v → (at net p ≡ accepted u) ⊎ (Fate y p u × (unmarked u ≡ false)) → (at net p ≡ accepted v) ⊎ (Fate z p v × (unmarked v ≡ false)) → u ≡ v
        go p u v a b (inl i) (inl j) = at_one p u v i j
        go p u v a b (inl i) (inr (j, m)) = absurd (has-fired y h e z p u v i a j)
        go p u v a b (inr (i, m)) (inl j) = absurd (has-fired z k' f y p v u j b i)
        go p u v a b (inr (i, m)) (inr (j, n)) = fate-one y z p u v i j

-- ── the law ──
pub same-places : (d : Context) (l : Name) (xs ys : List Action) (net : List Component) (y z : Done) → Conforming l net → act_all d l xs net ≡ accepted y → act_all d l ys net ≡ accepted z
    → forced d l y.comps ≡ false → forced d l z.comps ≡ false → y.comps ≡ z.comps
same-places d l xs ys net y z k e f g h =
    same_left d l net k y.comps z.comps (held-acts d l net xs net y (held-net d l net) e) (held-acts d l net ys net z (held-net d l net) f) g h
