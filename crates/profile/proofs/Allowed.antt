-- What a network allows at a location, by weight: at a location that conforms a firing takes away itself and no other, and where the tick is allowed nothing is
-- left that is allowed.
-- Idea: the weight of all firings that are allowed is a sum over components and over pairs; in a pair the two are the only ones on their channel, so that no
-- other pair loses a partner.
use Prim.Native.Nat.{ℕ, ◌+◌}
use native.Mathlib.Omega.{arith}
use mathlib.Core.List.{List, [], ◌∷◌, ◌++◌}
use mathlib.Core.Bool.{Bool, true, false, cond, ◌&&◌, ◌||◌, false≢true}
use mathlib.Core.Path.{◌≡◌, refl, ap, sym, ◌∙◌, subst}
use Rattle.terms.specs.Names.{Name}
use Rattle.terms.specs.Terms.{Part, Process, Component, Context}
use Rattle.terms.specs.Terms.Process.{one}
use Rattle.terms.specs.Terms.Mark.{none}
use Rattle.terms.specs.Terms.Component.{comp}
use Rattle.terms.specs.Rules.{Kind, Firing, Fired, ok, fire, ready, some, due_go, urgent, forced}
use Rattle.terms.specs.Rules.Answer.{accepted}
use Rattle.terms.specs.Rules.Kind.{calls, moves}
use Rattle.terms.specs.Rules.Firing.{alone, together}
use Rattle.terms.specs.Runs.{Note, here, place_of}
use Rattle.terms.proofs.Names.{and_in, name-refl}
use Rattle.terms.proofs.Sums.{total, ◌≈◌, Each, total-none, total_ext, total-append}
use Rattle.terms.proofs.Sums.Each.{each_nil, each-cons}
use Rattle.terms.proofs.Forced.{presses, forced-is, or-none}
use Rattle.terms.proofs.Mixed.{Shape, before, pre}
use Rattle.terms.proofs.Mixed.Shape.{one-shape, two-shape}
use Rattle.laws.proofs.Fires.{GoodAt, on}
use Rattle.profile.specs.Profile.{late_go, sends_on, receives_on}
use Rattle.profile.proofs.Counts.{total-zero, total-zero-by, total-plus, some-false, zero-each, each_both, bit}
use Rattle.profile.proofs.Profile.{Sole, sole-tail}
use Rattle.profile.proofs.Pairs.{alone-part, calls-only, moves-only, pairs, sends, no-alone, no-first, no_second, never, only-sends, only-receives, no-hear, no-send, prompt-go}

-- the components of notes, and a rest
pub holding : List Note → List Component → List Component
holding [] s = s
holding (n ∷ ns) s = before n.firing ++ holding ns s

pub holding-total : (w : Component → ℕ) (ns : List Note) (s : List Component) → total w (holding ns s) ≡ pre w ns + total w s
unfolding holding pre total
holding-total w [] s = omega arith
holding-total w (n ∷ ns) s = omega (arith, total-append w (before n.firing) (holding ns s), holding-total w ns s)

module _ (d : Context) (l : Name) (W : Firing → ℕ) where
  -- ── what is allowed ──
  -- of one component, by itself
  solo : Component → ℕ
  solo c = on l (λ c. cond (ok (fire d (alone calls c))) (W (alone calls c)) 0 + cond (ok (fire d (alone moves c))) (W (alone moves c)) 0) c

  -- of two
  duo : Component → Component → ℕ
  duo c e = on l (λ c. on l (λ e. cond (ok (fire d (together c e))) (W (together c e)) 0) e) c

  pub allowed : List Component → ℕ
  allowed s = total solo s + total (λ c. total (duo c) s) s

  pub allowed-≈ : (xs ys : List Component) → ◌≈◌ xs ys → allowed xs ≡ allowed ys
  unfolding allowed
  allowed-≈ xs ys h = omega (arith, h solo, h (λ c. total (duo c) xs), total_ext (λ c. total (duo c) xs) (λ c. total (duo c) ys) ys (λ c. h (duo c)))

  -- ── what is not ──
  no-pair : (c e : Component) → ok (fire d (together c e)) ≡ false → duo c e ≡ 0
  unfolding duo on
  no-pair c e h = rw h (go (ready l c) (ready l e))
    where
      go : (a b : Bool) → ◌≡◌ {A = ℕ} (cond a (cond b 0 0) 0) 0
      go true true = refl
      go true false = refl
      go false b = refl

  away-first : (c e : Component) → ready l c ≡ false → duo c e ≡ 0
  unfolding duo on
  away-first c e h = rw h

  away-second : (c e : Component) → ready l e ≡ false → duo c e ≡ 0
  unfolding duo on
  away-second c e h = rw h (go (ready l c))
    where
      go : (b : Bool) → ◌≡◌ {A = ℕ} (cond b 0 0) 0
      go true = refl
      go false = refl

  solo-none : (c : Component) → ok (fire d (alone calls c)) ≡ false → ok (fire d (alone moves c)) ≡ false → solo c ≡ 0
  unfolding solo on
  solo-none c p q = rw (p, q) (go (ready l c))
    where
      go : (b : Bool) → ◌≡◌ {A = ℕ} (cond b (0 + 0) 0) 0
      go true = refl
      go false = refl

  solo-away : (c : Component) → ready l c ≡ false → solo c ≡ 0
  unfolding solo on
  solo-away c r = rw r

  pair_of : (c e : Component) → ready l c ≡ true → ready l e ≡ true → ok (fire d (together c e)) ≡ true → duo c e ≡ W (together c e)
  unfolding duo on
  pair_of c e p q h = rw (p, q, h)

  -- ── a firing alone takes away itself ──
  alone-one : (k : Kind) (c : Component) (s : List Component) → ((e : Component) → ok (fire d (together c e)) ≡ false) → ((e : Component) → ok (fire d (together e c)) ≡ false)
      → solo c ≡ W (alone k c) → allowed (c ∷ s) ≡ W (alone k c) + allowed s
  unfolding allowed total
  alone-one k c s no₁ no₂ e =
      omega (
        arith,
        e,
        no-pair c c (no₁ c),
        total-zero (duo c) s (λ b. no-pair c b (no₁ b)),
        total-plus (λ a. duo a c) (λ a. total (duo a) s) s,
        total-zero (λ a. duo a c) s (λ a. no-pair a c (no₂ a)),
      )

  solo-of : (k : Kind) (h : Name) (a : Part) (f : Fired) → fire d (alone k (comp h none (one a))) ≡ accepted f → ready l (comp h none (one a)) ≡ true
      → solo (comp h none (one a)) ≡ W (alone k (comp h none (one a)))
  unfolding solo on
  solo-of calls h a f e r = rw (r, ap ok e, calls-only d h a f e) (omega arith)
  solo-of moves h a f e r = rw (r, ap ok e, moves-only d h a f e) (omega arith)

  -- ── a firing of two takes away itself: nobody else sends or receives on its channel ──
  on-true : (f : Component → Bool) (c : Component) → ready l c ≡ true → f c ≡ true → on l (bit f) c ≡ 1
  unfolding on
  on-true f c p q = rw (p, q)

  on_none : (f : Component → Bool) (c : Component) → f c ≡ true → on l (bit f) c ≡ 0 → ready l c ≡ false
  unfolding on
  on_none f c q e = go (ready l c) refl
    where
      go : (b : Bool) → ready l c ≡ b → b ≡ false
      go false k = refl
      go true k = let z : ◌≡◌ {A = ℕ} 1 0 = rw (k, q) at e in absurd (omega arith)

  by-pair : {G : Type 0} (c e : Component) → (ok (fire d (together c e)) ≡ true → G) → (ok (fire d (together c e)) ≡ false → G) → G
  by-pair {G} c e f g = pick (ok (fire d (together c e))) refl
    where
      pick : (b : Bool) → ok (fire d (together c e)) ≡ b → G
      pick true k = f k
      pick false k = g k

  other-receiver : (h : Name) (c : Component) → sends_on h c ≡ true → (b : Component) → on l (bit (receives_on h)) b ≡ 0 → duo c b ≡ 0
  other-receiver h c s b z =
      by-pair c b
      (λ o. let r = sends d (pairs d c b o) in away-second c b (on_none (receives_on h) b (subst (λ k. receives_on k b ≡ true) (only-sends r.0 h c r.1 s) r.2) z))
      (no-pair c b)

  other-sender : (h : Name) (e : Component) → receives_on h e ≡ true → (a : Component) → on l (bit (sends_on h)) a ≡ 0 → duo a e ≡ 0
  other-sender h e s a z =
      by-pair a e
      (λ o. let r = sends d (pairs d a e o) in away-first a e (on_none (sends_on h) a (subst (λ k. sends_on k a ≡ true) (only-receives r.0 h e r.2 s) r.1) z))
      (no-pair a e)

  pair_one : (c e : Component) (s : List Component) → Sole l (c ∷ e ∷ s) → ready l c ≡ true → ready l e ≡ true → ok (fire d (together c e)) ≡ true
      → allowed (c ∷ e ∷ s) ≡ W (together c e) + allowed s
  unfolding allowed total
  pair_one c e s k p q o =
      let P = pairs d c e o in
      let r = sends d P in
      let h = r.0 in
      let n₁ = no-alone d calls P in
      let n₂ = no-alone d moves P in
      let z₁ : total (on l (bit (receives_on h))) s ≡ 0 = omega (arith, k.receivers h, on-true (receives_on h) e q r.2) in
      let z₂ : total (on l (bit (sends_on h))) s ≡ 0 = omega (arith, k.senders h, on-true (sends_on h) c p r.1) in
      omega (
        arith,
        solo-none c n₁.0 n₂.0,
        solo-none e n₁.1 n₂.1,
        no-pair c c (no-hear d h c r.1 c),
        pair_of c e p q o,
        total-zero-by (on l (bit (receives_on h))) (duo c) s (other-receiver h c r.1) z₁,
        no-pair e c (no-send d h e r.2 c),
        no-pair e e (no-send d h e r.2 e),
        total-zero (duo e) s (λ b. no-pair e b (no-send d h e r.2 b)),
        total-plus (λ a. duo a c) (λ a. duo a e + total (duo a) s) s,
        total-zero (λ a. duo a c) s (λ a. no-pair a c (no-hear d h c r.1 a)),
        total-plus (λ a. duo a e) (λ a. total (duo a) s) s,
        total-zero-by (on l (bit (sends_on h))) (λ a. duo a e) s (other-sender h e r.2) z₂,
      )

  -- ── the firings of a list of actions, one after another ──
  ready_of : (h : Name) (p : Process) → h ≡ l → ready l (comp h none p) ≡ true
  unfolding ready
  ready_of h p q = rw q (name-refl l)

  step-one : {x : Firing} {cs : List Component} → Shape x cs → (f : Fired) → fire d x ≡ accepted f → here x ≡ l → (s : List Component) → Sole l (before x ++ s)
      → allowed (before x ++ s) ≡ W x + allowed s
  unfolding before here place_of
  step-one (one-shape {k = k} {l = h} {a = a}) f e q s t =
      let o = alone-part d k h a f e in
      alone-one k (comp h none (one a)) s (no-first d h o) (no_second d h o) (solo-of k h a f e (ready_of h (one a) q))
  step-one (two-shape {l = h} {a = a} {b = b} n) f e q s t =
      pair_one (comp h none (one a)) (comp h none (one b)) s t (ready_of h (one a) q) (ready_of h (one b) q) (ap ok e)

  sole-rest : {x : Firing} {cs : List Component} → Shape x cs → (s : List Component) → Sole l (before x ++ s) → Sole l s
  unfolding before
  sole-rest one-shape s t = sole-tail l _ s t
  sole-rest (two-shape n) s t = sole-tail l _ s (sole-tail l _ _ t)

  pub all-fired : {ns : List Note} → Each (GoodAt d l) ns → (s : List Component) → Sole l (holding ns s) → allowed (holding ns s) ≡ total (λ n. W n.firing) ns + allowed s
  unfolding holding total
  all-fired each_nil s t = omega arith
  all-fired (each-cons {x = n} {xs = ns} g gs) s t =
      omega (arith, step-one g.good.shape _ g.good.fires g.at-l (holding ns s) t, all-fired gs s (sole-rest g.good.shape (holding ns s) t))

  -- ── where the tick is allowed, nothing is allowed any more ──
  idle-pairs : (c : Component) (s : List Component) → some (λ e. ready l e && ok (fire d (together c e))) s ≡ false → total (duo c) s ≡ 0
  idle-pairs c s e = total-none _ (some-false _ s e) (λ b h. go b (ready l b) refl h)
    where
      go : (b : Component) (t : Bool) → ready l b ≡ t → (t && ok (fire d (together c b))) ≡ false → duo c b ≡ 0
      go b true r h = no-pair c b h
      go b false r h = away-second c b r

  not_late : (c : Component) → ready l c ≡ true → on l (bit late_go) c ≡ 0 → late_go c ≡ false
  unfolding on
  not_late c r e = never (late_go c) (λ k. let z : ◌≡◌ {A = ℕ} 1 0 = rw (r, k) at e in omega arith)

  idle-solo : (c : Component) → urgent d c ≡ false → late_go c ≡ false → solo c ≡ 0
  unfolding urgent
  idle-solo c u n =
      let r = or-none (ok (fire d (alone calls c))) _ u in
      solo-none c r.0 (never _ (λ o. false≢true (sym r.1 ∙ and_in (due_go c) _ (prompt-go d c n o) o)))

  idle-row : (s : List Component) (c : Component) → (presses d l s c ≡ false) × (on l (bit late_go) c ≡ 0) → solo c + total (duo c) s ≡ 0
  unfolding presses
  idle-row s c h = go (ready l c) refl h.0
    where
      go : (t : Bool) → ready l c ≡ t → (t && (urgent d c || some (λ e. ready l e && ok (fire d (together c e))) s)) ≡ false → solo c + total (duo c) s ≡ 0
      go false r e = omega (arith, solo-away c r, total-zero (duo c) s (λ b. away-first c b r))
      go true r e = let u = or-none (urgent d c) _ e in omega (arith, idle-solo c u.0 (not_late c r h.1), idle-pairs c s u.1)

  pub none_allowed : (s : List Component) → forced d l s ≡ false → Sole l s → allowed s ≡ 0
  unfolding allowed
  none_allowed s e k =
      omega (
        arith,
        total-plus solo (λ c. total (duo c) s) s,
        total-none (λ c. solo c + total (duo c) s) (each_both (some-false (presses d l s) s (sym (forced-is d l s) ∙ e)) (zero-each (on l (bit late_go)) s k.prompt)) (idle-row s),
      )
