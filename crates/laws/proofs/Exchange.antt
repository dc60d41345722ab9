-- R-7: from an unmarked network, a whole step at l and then one at m, neither of which moves a component to the other's location, can be done in the
-- other order with the same actions, and the same network results.
-- Idea: what is ready at m is the same before and after the step at l, and the other way round; and the tick at one location leaves unmarked
-- components elsewhere as they are. Each part of the proof compares weights.
use Prim.Native.Nat.{ℕ, ◌+◌}
use native.Mathlib.Omega.{arith}
use mathlib.Core.List.{List, [], ◌∷◌, flat_map}
use mathlib.Core.Bool.{Bool, true, false, cond, false≢true}
use mathlib.Core.Path.{◌≡◌, refl, ap, sym, ◌∙◌, subst}
use Rattle.terms.specs.Names.{Name, same_name}
use Rattle.terms.specs.Terms.{Part, Process, Component, Context}
use Rattle.terms.specs.Terms.Part.{stop, go, out, inp, call}
use Rattle.terms.specs.Terms.Process.{one, ◌∥◌}
use Rattle.terms.specs.Terms.Value.{loc, var}
use Rattle.terms.specs.Terms.Mark.{none, by}
use Rattle.terms.specs.Terms.Component.{comp}
use Rattle.terms.specs.Rules.{Kind, Firing, Fired, Became, Action, locations, body, becomes, meet, fits, fire, unmarked, ready, some, forced, split, wait, pass}
use Rattle.terms.specs.Rules.Answer.{accepted}
use Rattle.terms.specs.Rules.Kind.{calls, moves}
use Rattle.terms.specs.Rules.Firing.{alone, together}
use Rattle.terms.specs.Runs.{Note, here, place_of}
use Rattle.terms.specs.Step.{Done, whole_step}
use Rattle.terms.proofs.Names.{name-eq, name-refl}
use Rattle.terms.proofs.Answers.{clash, took, bind_inv, cond-inv, fire-fits}
use Rattle.terms.proofs.Sums.{total, ◌≈◌, Each, total-flat_map, total-each, total-none, total_ext}
use Rattle.terms.proofs.Sums.Each.{each_nil, each-cons}
use Rattle.terms.proofs.Mixed.{Shape, before, after*, pre, post, mine, passed, permuted, perm-≈}
use Rattle.terms.proofs.Forced.{or-none}
use Rattle.terms.proofs.Same.{perm_same}
use Rattle.terms.proofs.Lists.{every-each, each-every}
use Rattle.terms.proofs.Mixed.Shape.{one-shape, two-shape}
use Rattle.laws.specs.Exchange.{firings, moves_to, InTurn, Exchanged, Exchange, AnyPositions, ExchangeBack, GoesOn}
use Rattle.laws.proofs.Fires.{GoodAt, labels_of, Does, does, spots, Fires, fires-so, plain, plain-each, held-before, held_after, Whole, whole, make-whole, on, off, forced-on, step-unmarked}

-- ── the tick at l and unmarked components, by weight ──
abbrev P : Context → Name → (Component → ℕ) → Component → ℕ
P d l w c = passed d (mine l) l w c

pub by-ready : {G : Type 0} (l : Name) (c : Component) → (ready l c ≡ true → G) → (ready l c ≡ false → G) → G
by-ready {G} l c f g = pick (ready l c) refl
  where
    pick : (b : Bool) → ready l c ≡ b → G
    pick true e = f e
    pick false e = g e

-- what stands elsewhere stays
pub stays : (d : Context) (l : Name) (c : Component) → unmarked c ≡ true → ready l c ≡ false → pass d (mine l) l c ≡ c ∷ []
unfolding unmarked ready pass
stays d l (comp h (by k) p) u e = absurd (false≢true u)
stays d l (comp h none (one a)) u e = rw e
stays d l (comp h none (a ∥ p)) u e = refl

away : (d : Context) (l : Name) (w : Component → ℕ) (c : Component) → unmarked c ≡ true → ready l c ≡ false → P d l w c ≡ w c
unfolding total
away d l w c u e = rw (stays d l c u e) (omega arith)

-- two weights that agree on unmarked components for which Q holds
abbrev Agree : (Name → Type 0) → (Component → ℕ) → (Component → ℕ) → Type 0
Agree Q v w = (h : Name) (p : Process) → Q h → v (comp h none p) ≡ w (comp h none p)

split-ext : (v w : Component → ℕ) (h : Name) (p : Process) → ((q : Process) → v (comp h none q) ≡ w (comp h none q)) → total v (split h p) ≡ total w (split h p)
unfolding split total
split-ext v w h (one a) k = rw (k (one a))
split-ext v w h (a ∥ p) k = rw (k (one a), split-ext v w h p k)

-- what is ready at l stays at l
home : (d : Context) (l : Name) (v w : Component → ℕ) → Agree (λ h. same_name h l ≡ true) v w → (c : Component) → unmarked c ≡ true → ready l c ≡ true → P d l v c ≡ P d l w c
unfolding unmarked ready pass total
home d l v w k (comp h (by m) p) u e = absurd (false≢true u)
home d l v w k (comp h none (one a)) u e = rw e (split-ext v w h (wait d.edition a) (λ q. k h q e))
home d l v w k (comp h none (a ∥ p)) u e = rw (k h (a ∥ p) e)

-- the weight 0
abbrev nil : Component → ℕ
nil c = 0

total-nil : (xs : List Component) → total nil xs ≡ 0
unfolding total
total-nil [] = refl
total-nil (x ∷ xs) = omega (arith, total-nil xs)

-- ── two locations ──
pub apart : (l m : Name) → same_name l m ≡ false → (h : Name) → same_name h l ≡ true → same_name h m ≡ false
apart l m n h e = rw (name-eq h l e) n

pub other_way : (l m : Name) → same_name l m ≡ false → same_name m l ≡ false
other_way l m n = go (same_name m l) refl
  where
    go : (b : Bool) → same_name m l ≡ b → b ≡ false
    go false k = refl
    go true k = absurd (false≢true (sym (apart l m n m k) ∙ name-refl m))

not_there : (l m : Name) → same_name l m ≡ false → (c : Component) → ready l c ≡ true → ready m c ≡ false
unfolding ready
not_there l m n (comp h none p) e = apart l m n h e
not_there l m n (comp h (by k) p) e = refl

module _ (l m : Name) (n : same_name l m ≡ false) where
  module _ (d : Context) (w : Component → ℕ) (c : Component) (u : unmarked c ≡ true) where
    -- the tick at m and what is not ready there
    off-tick : off m (P d m w) c ≡ off m w c
    unfolding off
    off-tick = by-ready m c (λ e. rw e) (λ e. rw (e, away d m w c u e))

    -- what is ready at m is so before and after the tick at l
    tick-on : P d l (on m w) c ≡ on m w c
    unfolding on ready
    tick-on =
        by-ready l c
        (λ e. home d l (on m w) nil (λ h p k. rw (apart l m n h k)) c u e ∙ total-nil _ ∙ rw (not_there l m n c e))
        (λ e. away d l (on m w) c u e)

    tick-off : P d l (off m w) c ≡ on l (P d l w) c + off l (off m w) c
    unfolding on off ready
    tick-off =
        by-ready l c
        (λ e. rw e (home d l (off m w) w (λ h p k. rw (apart l m n h k)) c u e ∙ omega arith))
        (λ e. rw e (away d l (off m w) c u e ∙ omega arith))

    on-tick-on : on m (P d m (on l w)) c ≡ 0
    unfolding on ready
    on-tick-on =
        by-ready m c
        (λ e. rw e (home d m (on l w) nil (λ h p k. rw (apart m l (other_way l m n) h k)) c u e ∙ total-nil _))
        (λ e. rw e)

    off-on : off m (on l w) c ≡ on l w c
    unfolding on off
    off-on = by-ready m c (λ e. rw (e, not_there m l (other_way l m n) c e)) (λ e. rw e)

    on_both : on m (P d m (P d l w)) c ≡ on m (P d m w) c
    unfolding on ready unmarked
    on_both =
        by-ready m c
        (λ e. rw e (home d m (P d l w) w (λ h p k. away d l w (comp h none p) refl (apart m l (other_way l m n) h k)) c u e))
        (λ e. rw e)

    off-both : off m (P d l w) c ≡ on l (P d l w) c + off l (off m w) c
    unfolding on off
    off-both =
        by-ready l c
        (λ e. rw (e, not_there l m n c e) (omega arith))
        (λ e. rw e (by-ready m c (λ f. rw f) (λ f. rw (f, away d l w c u e) (omega arith))))

-- ── what a firing at l leaves, where no move goes to m ──
pub data Left (l m : Name) : Component → Type 0 where
  left : {v : Name} {p : Process} → same_name v m ≡ false → Left l m (comp v (by l) p)

became-left : (d : Context) (k : Kind) (l m : Name) (a : Part) (b : Became) → becomes d k l a ≡ accepted b → moves_to m b.label ≡ false → same_name l m ≡ false → same_name b.place m ≡ false
unfolding becomes moves_to
became-left d calls l m stop b e t n = clash e
became-left d calls l m (go u v p) b e t n = clash e
became-left d calls l m (out c u v p q) b e t n = clash e
became-left d calls l m (inp c u y p q) b e t n = clash e
became-left d calls l m (call i vs) b e t n =
    let r = bind_inv (locations vs) _ b e in
    let s = bind_inv (body d.defs i r.0) _ b r.2 in
    rw (← took s.2) n
became-left d moves l m stop b e t n = clash e
became-left d moves l m (go u (loc v) p) b e t n = let q = took e in rw (← q) (rw (← q) at t)
became-left d moves l m (go u (var y) p) b e t n = clash e
became-left d moves l m (out c u v p q) b e t n = clash e
became-left d moves l m (inp c u y p q) b e t n = clash e
became-left d moves l m (call i vs) b e t n = clash e

fits-left : (d : Context) (l m : Name) (x : Firing) (f : Fired) → fits d x ≡ accepted f → here x ≡ l → moves_to m f.label ≡ false → same_name l m ≡ false → Each (Left l m) f.after
unfolding fits here place_of
fits-left d l m (alone k (comp h (by o) p)) f e q t n = clash e
fits-left d l m (alone k (comp h none (a ∥ p))) f e q t n = clash e
fits-left d l m (alone k (comp h none (one a))) f e q t n =
    let r = bind_inv (becomes d k h a) _ f e in
    let z = took r.2 in
    rw (← z, ← q) (each-cons (left (became-left d k h m a r.0 r.1 (rw (← z) at t) (rw q n))) each_nil)
fits-left d l m (together (comp h (by o) p) e) f g q t n = clash g
fits-left d l m (together (comp h none p) (comp k (by o) p')) f e q t n = clash e
fits-left d l m (together (comp h none (a ∥ p)) (comp k none p')) f e q t n = clash e
fits-left d l m (together (comp h none (one a)) (comp k none (b ∥ p))) f e q t n = clash e
fits-left d l m (together (comp h none (one a)) (comp k none (one b))) f e q t n =
    let r = bind_inv (meet a b) _ f e in
    let z = cond-inv (same_name h k) _ f 11 r.2 in
    let n' : same_name h m ≡ false = rw q n in
    rw (← z.1, ← q) (each-cons (left n') (each-cons (left n') each_nil))

pub fired-left : (d : Context) (l m : Name) (x : Firing) (f : Fired) → fire d x ≡ accepted f → here x ≡ l → moves_to m f.label ≡ false → same_name l m ≡ false → Each (Left l m) f.after
fired-left d l m x f e = fits-left d l m x f (fire-fits d x f e)

left-tick : (d : Context) (l m : Name) (v w : Component → ℕ) → Agree (λ h. same_name h m ≡ false) v w → (c : Component) → Left l m c → P d l v c ≡ P d l w c
unfolding pass total
left-tick d l m v w k c (left {v = h} {p = p} e) = rw (name-refl l) (split-ext v w h p (λ q. k h q e))

-- a note at l that moves nothing to m
record Keeps (d : Context) (l m : Name) (n : Note) : Type 0 where
  good : GoodAt d l n
  stays : moves_to m n.label ≡ false

keeps : (d : Context) (l m : Name) {ns : List Note} → Each (GoodAt d l) ns → some (moves_to m) (labels_of ns) ≡ false → Each (Keeps d l m) ns
unfolding some
keeps d l m each_nil e = each_nil
keeps d l m (each-cons {x = n} {xs = ns} g gs) e =
    let r = or-none (moves_to m n.label) (some (moves_to m) (labels_of ns)) e in
    each-cons (record { good = g; stays = r.0 }) (keeps d l m gs r.1)

module _ (d : Context) (l m : Name) (n : same_name l m ≡ false) {ns : List Note} (ks : Each (Keeps d l m) ns) (v w : Component → ℕ) where
  post-same : ((c : Component) → Left l m c → v c ≡ w c) → post d v ns ≡ post d w ns
  unfolding post
  post-same h = total-each _ _ ks (λ a k. total-each v w (fired-left d l m a.firing _ k.good.good.fires k.good.at-l k.stays n) h)

  pre-same : Agree (λ h. same_name h l ≡ true) v w → pre v ns ≡ pre w ns
  unfolding pre before here place_of total
  pre-same h = total-each _ _ ks (λ a k. one_by_one k.good.good.shape k.good.at-l)
    where
      there : {k : Name} → k ≡ l → same_name k l ≡ true
      there q = rw q (name-refl l)

      one_by_one : {x : Firing} {cs : List Component} → Shape x cs → here x ≡ l → total v (before x) ≡ total w (before x)
      one_by_one (one-shape {l = k} {a = a}) q = rw (h k (one a) (there q))
      one_by_one (two-shape {l = k} {a = a} {b = b} o) q = rw (h k (one a) (there q), h k (one b) (there q))

-- the same at the weight 0
post-nil : (d : Context) (ns : List Note) → post d nil ns ≡ 0
unfolding post total
post-nil d [] = refl
post-nil d (n ∷ ns) = omega (arith, total-nil (after* d n), post-nil d ns)

pre-nil : (ns : List Note) → pre nil ns ≡ 0
unfolding pre total
pre-nil [] = refl
pre-nil (n ∷ ns) = omega (arith, total-nil (before n.firing), pre-nil ns)

-- a weight in two
in_two : (m : Name) (w : Component → ℕ) (xs : List Component) → total w xs ≡ total (on m w) xs + total (off m w) xs
unfolding total on off
in_two m w [] = refl
in_two m w (x ∷ xs) = go (ready m x) (in_two m w xs)
  where
    go : (b : Bool) → total w xs ≡ total (on m w) xs + total (off m w) xs → w x + total w xs ≡ (cond b (w x) 0 + total (on m w) xs) + (cond b 0 (w x) + total (off m w) xs)
    go true h = omega arith
    go false h = omega arith

on-on : (m : Name) (w : Component → ℕ) (c : Component) → on m (on m w) c ≡ on m w c
unfolding on
on-on m w c = by-ready m c (λ e. rw e) (λ e. rw e)

off-on-nil : (m : Name) (w : Component → ℕ) (c : Component) → off m (on m w) c ≡ nil c
unfolding on off
off-on-nil m w c = by-ready m c (λ e. rw e) (λ e. rw e)

-- ── notes of l that move nothing to m, by weight ──
module _ (d : Context) (l m : Name) (n : same_name l m ≡ false) {ns : List Note} (ks : Each (Keeps d l m) ns) (w : Component → ℕ) where
  pre-there : pre (on m w) ns ≡ 0
  unfolding on ready
  pre-there = pre-same d l m n ks (on m w) nil (λ h p q. rw (apart l m n h q)) ∙ pre-nil ns

  pre-not-there : pre (off m w) ns ≡ pre w ns
  unfolding off ready
  pre-not-there = pre-same d l m n ks (off m w) w (λ h p q. rw (apart l m n h q))

  pre-here : pre (on l w) ns ≡ pre w ns
  unfolding on ready
  pre-here = pre-same d l m n ks (on l w) w (λ h p q. rw q)

  pre-not-here : pre (off l w) ns ≡ 0
  unfolding off ready
  pre-not-here = pre-same d l m n ks (off l w) nil (λ h p q. rw q) ∙ pre-nil ns

  post-there : post d (P d l (on m w)) ns ≡ 0
  unfolding on ready
  post-there = post-same d l m n ks (P d l (on m w)) nil (λ c q. left-tick d l m (on m w) nil (λ h p e. rw e) c q ∙ total-nil (pass d (mine l) l c)) ∙ post-nil d ns

  post-not-there : post d (P d l (off m w)) ns ≡ post d (P d l w) ns
  unfolding off ready
  post-not-there = post-same d l m n ks (P d l (off m w)) (P d l w) (left-tick d l m (off m w) w (λ h p e. rw e))

  post-later : post d (P d l (P d m w)) ns ≡ post d (P d l w) ns
  unfolding unmarked ready
  post-later = post-same d l m n ks (P d l (P d m w)) (P d l w) (left-tick d l m (P d m w) w (λ h p e. away d m w (comp h none p) refl e))

-- ── what results, whichever comes first ──
abbrev Unmarked : List Component → Type 0
Unmarked xs = Each (λ c. unmarked c ≡ true) xs

-- from net l fires ns₁, which leaves z₁, r₁ of it untouched; the tick at l follows; then m fires ns₂, which leaves z₂, r₂ of it untouched
record Two (d : Context) (l m : Name) (net z₁ z₂ r₁ r₂ : List Component) (ns₁ ns₂ : List Note) : Type 0 where
  differ : same_name l m ≡ false
  keeps-m : Each (Keeps d l m) ns₁
  keeps-l : Each (Keeps d m l) ns₂
  plain₀ : Unmarked net
  plain₁ : Unmarked r₁
  plain₂ : Unmarked r₂
  before₁ : (w : Component → ℕ) → total w net ≡ pre w ns₁ + total w r₁
  after₁ : (w : Component → ℕ) → total w z₁ ≡ post d w ns₁ + total w r₁
  before₂ : (w : Component → ℕ) → total w (flat_map (pass d (mine l) l) z₁) ≡ pre w ns₂ + total w r₂
  after₂ : (w : Component → ℕ) → total w z₂ ≡ post d w ns₂ + total w r₂

-- what the notes of m leave untouched in the network
abbrev rest₂ : Name → List Component → List Component → (Component → ℕ) → ℕ
rest₂ m net r₂ w = total (on m w) r₂ + total (off m w) net

-- what the notes of l leave untouched after the step at m
abbrev rest₁ : Context → Name → List Component → List Component → List Note → (Component → ℕ) → ℕ
rest₁ d m r₁ r₂ ns₂ w = (post d (P d m w) ns₂ + total (on m (P d m w)) r₂) + total (off m w) r₁

module _ {d : Context} {l m : Name} {net z₁ z₂ r₁ r₂ : List Component} {ns₁ ns₂ : List Note} (t : Two d l m net z₁ z₂ r₁ r₂ ns₁ ns₂) where
  differ' : same_name m l ≡ false
  differ' = other_way l m t.differ

  -- after the step at l
  middle : (w : Component → ℕ) → total w (flat_map (pass d (mine l) l) z₁) ≡ post d (P d l w) ns₁ + total (P d l w) r₁
  middle w = total-flat_map w (pass d (mine l) l) z₁ ∙ t.after₁ (P d l w)

  -- what is ready at m, before the step at l and after
  ready-m : (w : Component → ℕ) → total (on m w) net ≡ pre w ns₂ + total (on m w) r₂
  ready-m w =
      omega (
        arith,
        t.before₁ (on m w),
        middle (on m w),
        t.before₂ (on m w),
        pre-there d l m t.differ t.keeps-m w,
        post-there d l m t.differ t.keeps-m w,
        pre-here d m l differ' t.keeps-l w,
        total-each _ _ t.plain₁ (tick-on l m t.differ d w),
      )

  first_holds : (w : Component → ℕ) → total w net ≡ pre w ns₂ + rest₂ m net r₂ w
  first_holds w = omega (arith, in_two m w net, ready-m w)

  module _ (y₁ : List Component) (c₁ : (w : Component → ℕ) → total w y₁ ≡ post d w ns₂ + rest₂ m net r₂ w) where
    first-free : forced d m y₁ ≡ forced d m z₂
    first-free =
        forced-on d m y₁ z₂ λ w.
        omega (arith, c₁ (on m w), t.after₂ (on m w), total_ext _ _ r₂ (on-on m w), total_ext _ _ net (off-on-nil m w), total-nil net)

    second_holds : (w : Component → ℕ) → total w (flat_map (pass d (mine m) m) y₁) ≡ pre w ns₁ + rest₁ d m r₁ r₂ ns₂ w
    second_holds w =
        omega (arith, total-flat_map w (pass d (mine m) m) y₁, c₁ (P d m w), total-each _ _ t.plain₀ (off-tick l m t.differ d w), t.before₁ (off m w), pre-not-there d l m t.differ t.keeps-m w)

    module _ (y₂ : List Component) (c₂ : (w : Component → ℕ) → total w y₂ ≡ post d w ns₁ + rest₁ d m r₁ r₂ ns₂ w) where
      second-free : forced d l y₂ ≡ forced d l z₁
      second-free =
          forced-on d l y₂ z₁ λ w.
          omega (arith, c₂ (on l w), t.after₁ (on l w), post-there d m l differ' t.keeps-l w, total-none _ t.plain₂ (on-tick-on l m t.differ d w), total-each _ _ t.plain₁ (off-on l m t.differ d w))

      ends_same : ◌≈◌ (flat_map (pass d (mine l) l) y₂) (flat_map (pass d (mine m) m) z₂)
      ends_same w =
          omega (
            arith,
            total-flat_map w (pass d (mine l) l) y₂,
            c₂ (P d l w),
            post-later d m l differ' t.keeps-l w,
            total-each _ _ t.plain₂ (on_both l m t.differ d w),
            total-each _ _ t.plain₁ (off-both l m t.differ d w),
            total-flat_map w (pass d (mine m) m) z₂,
            t.after₂ (P d m w),
            in_two m (P d m w) r₂,
            total-each _ _ t.plain₂ (off-tick l m t.differ d w),
            t.before₂ (off m w),
            pre-not-here d m l differ' t.keeps-l w,
            middle (off m w),
            post-not-there d l m t.differ t.keeps-m w,
            total-each _ _ t.plain₁ (tick-off l m t.differ d w),
          )

-- ── the claim ──
module _ (d : Context) (l m : Name) (xs ys : List Action) (net : List Component) (r s : Done) (t : InTurn d l m xs ys net r s) where
  step₁ : Whole d l xs net r
  step₁ = whole d l xs net r t.first

  step₂ : Whole d m ys r.comps s
  step₂ = whole d m ys r.comps s t.second

  does₁ : Does d l xs net step₁.mid
  does₁ = does d l xs net step₁.mid step₁.acts

  does₂ : Does d m ys r.comps step₂.mid
  does₂ = does d m ys r.comps step₂.mid step₂.acts

  plain-net : Unmarked net
  plain-net = every-each unmarked net t.unmarked-all

  plain-r : Unmarked r.comps
  plain-r = subst Unmarked step₁.ends (step-unmarked d l xs net step₁.mid plain-net does₁)

  two : Two d l m net step₁.mid.comps step₂.mid.comps (plain step₁.mid.comps) (plain step₂.mid.comps) does₁.notes does₂.notes
  two = record {
    differ = t.differ;
    keeps-m = keeps d l m does₁.each (ap (some (moves_to m)) (sym does₁.labels ∙ step₁.labels) ∙ t.none-to-m);
    keeps-l = keeps d m l does₂.each (ap (some (moves_to l)) (sym does₂.labels ∙ step₂.labels) ∙ t.none-to-l);
    plain₀ = plain-net;
    plain₁ = plain-each step₁.mid.comps;
    plain₂ = plain-each step₂.mid.comps;
    before₁ = held-before d l xs net step₁.mid plain-net does₁;
    after₁ = held_after d l xs net step₁.mid plain-net does₁;
    before₂ = λ w. ap (total w) step₁.ends ∙ held-before d m ys r.comps step₂.mid plain-r does₂ w;
    after₂ = held_after d m ys r.comps step₂.mid plain-r does₂;
  }

  module _ (ys' : List Action) (e : firings d ys' net ≡ firings d ys r.comps) where
    fires₂ : Fires d m ys' does₂.notes net (rest₂ m net (plain step₂.mid.comps))
    fires₂ = fires-so d m ys' net _ does₂.each (e ∙ does₂.fires) (first_holds two)

    then₂ : Done
    then₂ = record { labels = labels_of does₂.notes; comps = flat_map (pass d (mine m) m) fires₂.comps }

    whole₂ : whole_step d m ys' net ≡ accepted then₂
    unfolding then₂
    whole₂ = make-whole d m ys' net _ (record { mid = _; acts = fires₂.acts; labels = refl; free = first-free two fires₂.comps fires₂.weigh ∙ step₂.free; ends = refl })

    exchanged : (xs' : List Action) → firings d xs' then₂.comps ≡ firings d xs net → Exchanged d l m xs ys net r s ys' xs'
    unfolding then₂
    exchanged xs' e' =
        let g₁ = fires₂.comps in
        let c₁ = fires₂.weigh in
        let f = fires-so d l xs' then₂.comps _ does₁.each (e' ∙ does₁.fires) (second_holds two g₁ c₁) in
        let p = permuted _ _ (λ w. ends_same two g₁ c₁ f.comps f.weigh w ∙ ap (total w) step₂.ends) in
        record {
          s' = then₂;
          r' = record { labels = labels_of does₁.notes; comps = flat_map (pass d (mine l) l) f.comps };
          first = whole₂;
          second = make-whole d l xs' _ _ (record { mid = _; acts = f.acts; labels = refl; free = second-free two g₁ c₁ f.comps f.weigh ∙ step₁.free; ends = refl });
          same-ys = e;
          same-xs = e';
          labels-m = sym does₂.labels ∙ step₂.labels;
          labels-l = sym does₁.labels ∙ step₁.labels;
          reordered = p;
          same-network = perm_same d.defs _ _ p;
        }

    spots₁ : (xs' : List Action) × (firings d xs' then₂.comps ≡ firings d xs net)
    unfolding then₂
    spots₁ =
        let f = spots d l then₂.comps _ does₁.each (second_holds two fires₂.comps fires₂.weigh) in
        (f.0, f.1 ∙ sym does₁.fires)

  spots₂ : (ys' : List Action) × (firings d ys' net ≡ firings d ys r.comps)
  spots₂ =
      let f = spots d m net _ does₂.each (first_holds two) in
      (f.0, f.1 ∙ sym does₂.fires)

pub any-positions : AnyPositions
any-positions d l m xs ys net r s t ys' e = (then₂ d l m xs ys net r s t ys' e, whole₂ d l m xs ys net r s t ys' e, exchanged d l m xs ys net r s t ys' e)

pub exchange : Exchange
exchange d l m xs ys net r s t =
    let y = spots₂ d l m xs ys net r s t in
    let x = spots₁ d l m xs ys net r s t y.0 y.1 in
    (y.0, x.0, exchanged d l m xs ys net r s t y.0 y.1 x.0 x.1)

pub exchange-back : ExchangeBack
exchange-back d l m xs ys net r s ys' xs' t e =
    record {
      differ = other_way l m t.differ;
      unmarked-all = t.unmarked-all;
      first = e.first;
      second = e.second;
      none-to-m = ap (some (moves_to l)) e.labels-m ∙ t.none-to-l;
      none-to-l = ap (some (moves_to m)) e.labels-l ∙ t.none-to-m;
    }

-- ── the steps that follow ──
pub goes_on : GoesOn
goes_on d l xs net net' r u p e =
    let s = whole d l xs net r e in
    let k = every-each unmarked net u in
    let h = does d l xs net s.mid s.acts in
    let b = held-before d l xs net s.mid k h in
    let a = held_after d l xs net s.mid k h in
    let b' : (w : Component → ℕ) → total w net' ≡ pre w h.notes + total w (plain s.mid.comps) = λ w. perm-≈ p w ∙ b w in
    let x = spots d l net' _ h.each b' in
    let f = fires-so d l x.0 net' _ h.each x.1 b' in
    let same_mid : ◌≈◌ f.comps s.mid.comps = λ w. f.weigh w ∙ sym (a w) in (
      record {
        actions = x.0;
        done = record { labels = labels_of h.notes; comps = flat_map (pass d (mine l) l) f.comps };
        step = make-whole d l x.0 net' _ (record { mid = _; acts = f.acts; labels = refl; free = forced-on d l f.comps s.mid.comps (λ w. same_mid (on l w)) ∙ s.free; ends = refl });
        same-actions = x.1 ∙ sym h.fires;
        same-labels = sym h.labels ∙ s.labels;
        reordered = permuted _ _ (λ w. total-flat_map w (pass d (mine l) l) f.comps ∙ same_mid (P d l w) ∙ sym (total-flat_map w (pass d (mine l) l) s.mid.comps) ∙ ap (total w) s.ends);
      },
      each-every unmarked (subst Unmarked s.ends (step-unmarked d l xs net s.mid k h)),
    )
