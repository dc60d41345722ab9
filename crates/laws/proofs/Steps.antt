-- R-7 of the engine's own steps: at two locations, neither moving a component to the other's, they can be done in the other order, with the same labels, and
-- lead to the same components at the same positions.
-- Idea: a network is woven of what is ready at l, what is ready at m, and the rest, each in its place. For the step at one location all else is gaps, so it
-- changes its own places only, and in either order each step finds in its places what it found in the other.
use Prim.Native.Nat.{ℕ, zero, suc}
use native.Mathlib.Omega.{arith}
use mathlib.Core.List.{List, [], ◌∷◌, ◌++◌, flat_map}
use mathlib.Core.Bool.{true, false, false≢true}
use mathlib.Core.Logic.{◌⊎◌, inl, inr}
use mathlib.Core.Path.{◌≡◌, refl, ap, sym, ◌∙◌, subst}
use lib.ListN.{length}
use Rattle.terms.specs.Names.{Name, same_name}
use Rattle.terms.specs.Terms.{Process, Component, Context}
use Rattle.terms.specs.Terms.Process.{one, ◌∥◌}
use Rattle.terms.specs.Terms.Mark.{none, by}
use Rattle.terms.specs.Terms.Component.{comp}
use Rattle.terms.specs.Rules.{Action, Acted, set, set_all, some, positions, unmarked, ready, split, wait, pass}
use Rattle.terms.specs.Rules.Answer.{accepted}
use Rattle.terms.specs.Step.{Swept, Done, fires, step, act_all, act_at}
use Rattle.terms.proofs.Names.{name-eq, name-refl}
use Rattle.terms.proofs.Answers.{took, bind_inv}
use Rattle.terms.proofs.Sums.{Each, each_map}
use Rattle.terms.proofs.Sums.Each.{each_nil, each-cons}
use Rattle.terms.proofs.Lists.{every-each}
use Rattle.terms.proofs.Mixed.{mine}
use Rattle.terms.proofs.Forced.{or-none}
use Rattle.terms.proofs.Steps.{fires-here, fires-acts, step-accepted}
use Rattle.laws.specs.Exchange.{moves_to}
use Rattle.laws.specs.Steps.{StepsExchanged, StepsExchange, AskedBefore}
use Rattle.laws.proofs.Fires.{at-inv, acts-size}
use Rattle.laws.proofs.Exchange.{by-ready, stays, apart, other_way, Left, fired-left}
use Rattle.laws.proofs.Exchange.Left.{left}
use Rattle.laws.proofs.Gaps.{Cell, fill, places, Still, Calm, Alike, fires-fill}
use Rattle.laws.proofs.Gaps.Cell.{gap, place}
use Rattle.laws.proofs.Gaps.Calm.{calm-gap, calm-place}

-- ── what the step at l leaves of components that are all ready there ──
-- still ready, or fired and gone elsewhere than to m
abbrev Stays : Name → Name → Component → Type 0
Stays l m c = (ready l c ≡ true) ⊎ Left l m c

-- what holds of each element, if it holds of what is set
each_set : {P : Component → Type 0} {xs : List Component} (p : ℕ) {y : Component} → Each P xs → P y → Each P (set xs p y)
unfolding set
each_set p each_nil h = each_nil
each_set zero (each-cons g e) h = each-cons h e
each_set (suc p) (each-cons g e) h = each-cons g (each_set p e h)

each-set_all : {P : Component → Type 0} (ps : List ℕ) {ys xs : List Component} → Each P ys → Each P xs → Each P (set_all ps ys xs)
unfolding set_all
each-set_all [] hs e = e
each-set_all (p ∷ ps) each_nil e = e
each-set_all (p ∷ ps) (each-cons h hs) e = each-set_all ps hs (each_set p e h)

-- the step's actions leave as many components
fires-size : (d : Context) (l : Name) (net : List Component) → length (fires d l net).comps ≡ length net
fires-size d l net = acts-size d l _ net _ (fires-acts d l net)

-- if they move none to m, each stays
acts-stay : (d : Context) (l m : Name) → same_name l m ≡ false → (xs : List Action) (net : List Component) (z : Done) → act_all d l xs net ≡ accepted z
    → some (moves_to m) z.labels ≡ false → Each (Stays l m) net → Each (Stays l m) z.comps
unfolding act_all some
acts-stay d l m n [] net z e q k = subst (λ (z : Done). Each (Stays l m) z.comps) (took e) k
acts-stay d l m n (a ∷ xs) net z e q k =
    let t = bind_inv (act_at d l a net) _ z e in
    let u = bind_inv (act_all d l xs t.0.comps) _ z t.2 in
    let i = at-inv d l a net t.0 t.1 in
    let w : record { labels = t.0.label ∷ u.0.labels; comps = u.0.comps } ≡ z = took u.2 in
    let b = or-none (moves_to m t.0.label) _ (ap (λ (z : Done). some (moves_to m) z.labels) w ∙ q) in
    let c = fired-left d l m i.0 i.1 i.3 (sym (fires-here d i.0 i.1 i.3) ∙ name-eq _ l i.4) (ap (λ (r : Acted). moves_to m r.label) i.5 ∙ b.0) n in
    let g : Each (Stays l m) t.0.comps = subst (λ (r : Acted). Each (Stays l m) r.comps) i.5 (each-set_all (positions a) (each_map (λ x h. inr h) c) k) in
    subst (λ (z : Done). Each (Stays l m) z.comps) w (acts-stay d l m n xs t.0.comps u.0 u.1 b.1 g)

-- the tick at l makes of it what the step at m passes over
split-still : (m h : Name) (p : Process) → same_name h m ≡ false → Each (Still m) (split h p)
unfolding split unmarked ready
split-still m h (one a) e = each-cons (record { plain = refl; away = e }) each_nil
split-still m h (a ∥ p) e = each-cons (record { plain = refl; away = e }) (split-still m h p e)

pass-still : (d : Context) (l m : Name) → same_name l m ≡ false → (c : Component) → Stays l m c → Each (Still m) (pass d (mine l) l c)
unfolding pass unmarked ready
pass-still d l m n (comp h none (one a)) (inl e) = rw e (split-still m h (wait d.edition a) (apart l m n h e))
pass-still d l m n (comp h none (a ∥ p)) (inl e) = each-cons (record { plain = refl; away = apart l m n h e }) each_nil
pass-still d l m n (comp h (by k) p) (inl e) = absurd (false≢true e)
pass-still d l m n c (inr (left {v = h} {p = p} e)) = rw (name-refl l) (split-still m h p e)

-- and the tick at m leaves that as it is
still-stays : (d : Context) (m : Name) (c : Component) → Still m c → pass d (mine m) m c ≡ c ∷ []
still-stays d m c s = stays d m c s.plain s.away

-- ── a network woven of what is ready at l, what is ready at m, and the rest ──
-- the place of one that is ready at l, that of one that is ready at m, or another component
data Slot : Type 0 where
  former latter : Slot
  rest : Component → Slot

-- what becomes of a component
abbrev Making : Type 0
Making = Component → List Component

abbrev itself : Making
itself c = c ∷ []

-- in each place of l what g makes of the next of xs, in each of m what h makes of the next of ys
unfoldable weave : List Slot → Making → List Component → Making → List Component → List Component
weave [] g xs h ys = []
weave (rest c ∷ t) g xs h ys = c ∷ weave t g xs h ys
weave (former ∷ t) g [] h ys = weave t g [] h ys
weave (former ∷ t) g (x ∷ xs) h ys = g x ++ weave t g xs h ys
weave (latter ∷ t) g xs h [] = weave t g xs h []
weave (latter ∷ t) g xs h (y ∷ ys) = h y ++ weave t g xs h ys

-- the same with l and m exchanged
unfoldable turned : List Slot → List Slot
turned [] = []
turned (rest c ∷ t) = rest c ∷ turned t
turned (former ∷ t) = latter ∷ turned t
turned (latter ∷ t) = former ∷ turned t

turn : (t : List Slot) (g : Making) (xs : List Component) (h : Making) (ys : List Component) → weave t g xs h ys ≡ weave (turned t) h ys g xs
unfolding weave turned
turn [] g xs h ys = refl
turn (rest c ∷ t) g xs h ys = rw (turn t g xs h ys)
turn (former ∷ t) g [] h ys = turn t g [] h ys
turn (former ∷ t) g (x ∷ xs) h ys = rw (turn t g xs h ys)
turn (latter ∷ t) g xs h [] = turn t g xs h []
turn (latter ∷ t) g xs h (y ∷ ys) = rw (turn t g xs h ys)

-- as many places as components, and both ticks leave the rest as it is
data Parts (l m : Name) : List Slot → List Component → List Component → Type 0 where
  p-nil : Parts l m [] [] []
  p-rest : {c : Component} {t : List Slot} {xs ys : List Component} → Still l c → Still m c → Parts l m t xs ys → Parts l m (rest c ∷ t) xs ys
  p-former : {x : Component} {t : List Slot} {xs ys : List Component} → Parts l m t xs ys → Parts l m (former ∷ t) (x ∷ xs) ys
  p-latter : {y : Component} {t : List Slot} {xs ys : List Component} → Parts l m t xs ys → Parts l m (latter ∷ t) xs (y ∷ ys)

turn-parts : {l m : Name} {t : List Slot} {xs ys : List Component} → Parts l m t xs ys → Parts m l (turned t) ys xs
unfolding turned
turn-parts p-nil = p-nil
turn-parts (p-rest a b k) = p-rest b a (turn-parts k)
turn-parts (p-former k) = p-latter (turn-parts k)
turn-parts (p-latter k) = p-former (turn-parts k)

-- other components, as many
resized : {l m : Name} {t : List Slot} {xs ys : List Component} → Parts l m t xs ys → (vs ws : List Component) → length vs ≡ length xs → length ws ≡ length ys → Parts l m t vs ws
resized p-nil [] [] e h = p-nil
resized p-nil [] (w ∷ ws) e h = absurd (omega arith)
resized p-nil (v ∷ vs) ws e h = absurd (omega arith)
resized (p-rest a b k) vs ws e h = p-rest a b (resized k vs ws e h)
resized (p-former k) [] ws e h = absurd (omega arith)
resized (p-former k) (v ∷ vs) ws e h = p-former (resized k vs ws (omega arith) h)
resized (p-latter k) vs [] e h = absurd (omega arith)
resized (p-latter k) vs (w ∷ ws) e h = p-latter (resized k vs ws e (omega arith))

-- for the step at m all but its own places are gaps
unfoldable gaps : List Component → List Cell → List Cell
gaps [] f = f
gaps (c ∷ cs) f = gap c ∷ gaps cs f

unfoldable frame : List Slot → Making → List Component → List Cell
frame [] g xs = []
frame (rest c ∷ t) g xs = gap c ∷ frame t g xs
frame (former ∷ t) g [] = frame t g []
frame (former ∷ t) g (x ∷ xs) = gaps (g x) (frame t g xs)
frame (latter ∷ t) g xs = place ∷ frame t g xs

-- gaps at the front
fill-gaps : (zs : List Component) (f : List Cell) (cs : List Component) → fill (gaps zs f) cs ≡ zs ++ fill f cs
unfolding fill gaps
fill-gaps [] f cs = refl
fill-gaps (z ∷ zs) f cs = rw (fill-gaps zs f cs)

places-gaps : (zs : List Component) (f : List Cell) → places (gaps zs f) ≡ places f
unfolding places gaps
places-gaps [] f = refl
places-gaps (z ∷ zs) f = places-gaps zs f

calm-gaps : {m : Name} {zs : List Component} {f : List Cell} → Each (Still m) zs → Each (Calm m) f → Each (Calm m) (gaps zs f)
unfolding gaps
calm-gaps each_nil k = k
calm-gaps (each-cons s e) k = each-cons (calm-gap s) (calm-gaps e k)

tick-gaps : (d : Context) (m : Name) {zs : List Component} (f : List Cell) (cs : List Component) → Each (Still m) zs
    → flat_map (pass d (mine m) m) (fill (gaps zs f) cs) ≡ zs ++ flat_map (pass d (mine m) m) (fill f cs)
unfolding fill gaps flat_map
tick-gaps d m f cs each_nil = refl
tick-gaps d m f cs (each-cons s e) = rw (still-stays d m _ s, tick-gaps d m f cs e)

-- what g makes of each of xs, the step at m passes over
abbrev Past : Name → Making → List Component → Type 0
Past m g xs = Each (λ x. Each (Still m) (g x)) xs

module _ (d : Context) (l m : Name) (g : Making) where
  -- as many places as components of m
  frame-places : {t : List Slot} {xs ys : List Component} → Parts l m t xs ys → places (frame t g xs) ≡ length ys
  unfolding places frame
  frame-places p-nil = refl
  frame-places (p-rest a b k) = frame-places k
  frame-places (p-former k) = places-gaps _ _ ∙ frame-places k
  frame-places (p-latter k) = ap suc (frame-places k)

  -- filled, it is the network before the step at m
  frame-fill : {t : List Slot} {xs ys : List Component} → Parts l m t xs ys → fill (frame t g xs) ys ≡ weave t g xs itself ys
  unfolding fill frame weave
  frame-fill p-nil = refl
  frame-fill (p-rest a b k) = rw (frame-fill k)
  frame-fill (p-former k) = fill-gaps _ _ _ ∙ rw (frame-fill k)
  frame-fill (p-latter k) = rw (frame-fill k)

  -- the step passes over its gaps
  frame-calm : {t : List Slot} {xs ys : List Component} → Parts l m t xs ys → Past m g xs → Each (Calm m) (frame t g xs)
  unfolding frame
  frame-calm p-nil s = each_nil
  frame-calm (p-rest a b k) s = each-cons (calm-gap b) (frame-calm k s)
  frame-calm (p-former k) (each-cons e s) = calm-gaps e (frame-calm k s)
  frame-calm (p-latter k) s = each-cons calm-place (frame-calm k s)

  -- and so does the tick
  frame-tick : {t : List Slot} {xs ys : List Component} → Parts l m t xs ys → Past m g xs → flat_map (pass d (mine m) m) (fill (frame t g xs) ys) ≡ weave t g xs (pass d (mine m) m) ys
  unfolding fill frame weave flat_map
  frame-tick p-nil s = refl
  frame-tick (p-rest a b k) s = rw (still-stays d m _ b, frame-tick k s)
  frame-tick (p-former k) (each-cons e s) = tick-gaps d m _ _ e ∙ rw (frame-tick k s)
  frame-tick (p-latter k) s = rw (frame-tick k s)

-- ── the step at m changes its own places only ──
-- what the step at m leads to
abbrev ends_at : Context → Name → List Component → List Component
ends_at d m net = flat_map (pass d (mine m) m) (fires d m net).comps

module _ (d : Context) (l m : Name) {t : List Slot} {xs ys : List Component} (k : Parts l m t xs ys) where
  module _ (g : Making) (s : Past m g xs) where
    latter-alike : Alike (frame t g xs) (fires d m (weave t g xs itself ys)) (fires d m ys)
    latter-alike = rw (← frame-fill d l m g k) (fires-fill d m (frame-calm d l m g k s) ys (frame-places d l m g k))

    latter-labels : (fires d m (weave t g xs itself ys)).labels ≡ (fires d m ys).labels
    latter-labels = latter-alike.labels

    latter-ends : ends_at d m (weave t g xs itself ys) ≡ weave t g xs (pass d (mine m) m) (fires d m ys).comps
    latter-ends = rw latter-alike.comps (frame-tick d l m g (resized k xs (fires d m ys).comps refl (fires-size d m ys)) s)

-- and that at l its own
module _ (d : Context) (l m : Name) {t : List Slot} {xs ys : List Component} (k : Parts l m t xs ys) (h : Making) (s : Past l h ys) where
  former-labels : (fires d l (weave t itself xs h ys)).labels ≡ (fires d l xs).labels
  former-labels = rw (turn t itself xs h ys) (latter-labels d m l (turn-parts k) h s)

  former-ends : ends_at d l (weave t itself xs h ys) ≡ weave t (pass d (mine l) l) (fires d l xs).comps h ys
  former-ends = rw (turn t itself xs h ys, turn t (pass d (mine l) l) (fires d l xs).comps h ys) (latter-ends d m l (turn-parts k) h s)

-- ── an unmarked network is so woven ──
-- what is ready at l the step at m passes over
ready-still : (l m : Name) → same_name l m ≡ false → (c : Component) → ready l c ≡ true → Each (Still m) (itself c)
unfolding ready unmarked
ready-still l m n (comp h none p) e = each-cons (record { plain = refl; away = apart l m n h e }) each_nil
ready-still l m n (comp h (by k) p) e = absurd (false≢true e)

-- the places, and the components of l and of m in order
record Sorted (l m : Name) (net : List Component) : Type 0 where
  slots : List Slot
  xs : List Component
  ys : List Component
  parts : Parts l m slots xs ys
  ready-l : Each (λ c. ready l c ≡ true) xs
  ready-m : Each (λ c. ready m c ≡ true) ys
  woven : weave slots itself xs itself ys ≡ net

sorted : (l m : Name) {net : List Component} → Each (λ c. unmarked c ≡ true) net → Sorted l m net
unfolding weave
sorted l m each_nil = record { slots = []; xs = []; ys = []; parts = p-nil; ready-l = each_nil; ready-m = each_nil; woven = refl }
sorted l m (each-cons {x = c} u us) =
    let s = sorted l m us in
    by-ready l c
    (λ e. record { slots = former ∷ s.slots; xs = c ∷ s.xs; ys = s.ys; parts = p-former s.parts; ready-l = each-cons e s.ready-l; ready-m = s.ready-m; woven = rw s.woven })
    (λ e. by-ready m c
    (λ f. record { slots = latter ∷ s.slots; xs = s.xs; ys = c ∷ s.ys; parts = p-latter s.parts; ready-l = s.ready-l; ready-m = each-cons f s.ready-m; woven = rw s.woven })
    (λ f. record {
      slots = rest c ∷ s.slots;
      xs = s.xs;
      ys = s.ys;
      parts = p-rest (record { plain = u; away = e }) (record { plain = u; away = f }) s.parts;
      ready-l = s.ready-l;
      ready-m = s.ready-m;
      woven = rw s.woven;
    }))

-- ── the claim ──
-- the step at l, from net
abbrev stepped : Context → Name → List Component → Swept
stepped d l net = record { actions = (fires d l net).actions; labels = (fires d l net).labels; comps = ends_at d l net }

is-stepped : (d : Context) (l : Name) (net : List Component) (r : Swept) → step d l net ≡ accepted r → stepped d l net ≡ r
is-stepped d l net r e = took (sym (step-accepted d l net) ∙ e)

-- what the step at l makes of components that are ready there, the step at m passes over
fired-past : (d : Context) (l m : Name) → same_name l m ≡ false → (xs : List Component) → Each (λ c. ready l c ≡ true) xs → some (moves_to m) (fires d l xs).labels ≡ false
    → Past m (pass d (mine l) l) (fires d l xs).comps
fired-past d l m n xs e q = each_map (pass-still d l m n) (acts-stay d l m n _ xs _ (fires-acts d l xs) q (each_map (λ c h. inl h) e))

-- a network so woven, whose step at l moves none to m
module _ (d : Context) (l m : Name) (n : same_name l m ≡ false) {t : List Slot} {xs ys : List Component} (k : Parts l m t xs ys)
    (a : Each (λ c. ready l c ≡ true) xs) (b : Each (λ c. ready m c ≡ true) ys)
    (r : Swept) (e : step d l (weave t itself xs itself ys) ≡ accepted r) (q : some (moves_to m) r.labels ≡ false) where
  differ' : same_name m l ≡ false
  differ' = other_way l m n

  -- before a step the other's components are passed over as they are
  past-l : Past m itself xs
  past-l = each_map (ready-still l m n) a

  past-m : Past l itself ys
  past-m = each_map (ready-still m l differ') b

  -- the step at l
  labels-r : r.labels ≡ (fires d l xs).labels
  labels-r = ap (λ (r : Swept). r.labels) (sym (is-stepped d l _ r e)) ∙ former-labels d l m k itself past-m

  comps-r : r.comps ≡ weave t (pass d (mine l) l) (fires d l xs).comps itself ys
  comps-r = ap (λ (r : Swept). r.comps) (sym (is-stepped d l _ r e)) ∙ former-ends d l m k itself past-m

  fired-l : Past m (pass d (mine l) l) (fires d l xs).comps
  fired-l = fired-past d l m n xs a (rw labels-r at q)

  parts-l : Parts l m t (fires d l xs).comps ys
  parts-l = resized k (fires d l xs).comps ys (fires-size d l xs) refl

  -- the step at m, before it and after it
  labels-before : (fires d m (weave t itself xs itself ys)).labels ≡ (fires d m ys).labels
  labels-before = latter-labels d l m k itself past-l

  labels-after : (fires d m r.comps).labels ≡ (fires d m ys).labels
  labels-after = rw comps-r (latter-labels d l m parts-l (pass d (mine l) l) fired-l)

  ends-after : ends_at d m r.comps ≡ weave t (pass d (mine l) l) (fires d l xs).comps (pass d (mine m) m) (fires d m ys).comps
  ends-after = rw comps-r (latter-ends d l m parts-l (pass d (mine l) l) fired-l)

  -- the step at m, and then that at l
  module _ (s : Swept) (f : step d m r.comps ≡ accepted s) (o : some (moves_to l) s.labels ≡ false) where
    labels-s : s.labels ≡ (fires d m ys).labels
    labels-s = ap (λ (s : Swept). s.labels) (sym (is-stepped d m _ s f)) ∙ labels-after

    comps-s : s.comps ≡ weave t (pass d (mine l) l) (fires d l xs).comps (pass d (mine m) m) (fires d m ys).comps
    comps-s = ap (λ (s : Swept). s.comps) (sym (is-stepped d m _ s f)) ∙ ends-after

    fired-m : Past l (pass d (mine m) m) (fires d m ys).comps
    fired-m = fired-past d m l differ' ys b (rw labels-s at o)

    parts-m : Parts l m t xs (fires d m ys).comps
    parts-m = resized k xs (fires d m ys).comps refl (fires-size d m ys)

    turned_round : StepsExchanged d l m (weave t itself xs itself ys) r s
    turned_round =
        let g = latter-ends d l m k itself past-l in
        record {
          s' = stepped d m (weave t itself xs itself ys);
          r' = stepped d l (ends_at d m (weave t itself xs itself ys));
          first = step-accepted d m _;
          second = step-accepted d l _;
          labels-m = labels-before ∙ sym labels-s;
          labels-l = ap (λ net. (fires d l net).labels) g ∙ former-labels d l m parts-m (pass d (mine m) m) fired-m ∙ sym labels-r;
          ends = ap (ends_at d l) g ∙ former-ends d l m parts-m (pass d (mine m) m) fired-m ∙ sym comps-s;
        }

pub steps-exchange : StepsExchange
steps-exchange d l m net r s h =
    let o = sorted l m (every-each unmarked net h.unmarked-all) in
    let e = subst (λ z. step d l z ≡ accepted r) (sym o.woven) h.first in
    subst (λ z. StepsExchanged d l m z r s) o.woven (turned_round d l m h.differ o.parts o.ready-l o.ready-m r e h.none-to-m s h.second h.none-to-l)

pub asked-before : AskedBefore
asked-before d l m net r s₀ n u e₁ e₂ q₁ q₂ =
    let o = sorted l m (every-each unmarked net u) in
    let e = subst (λ z. step d l z ≡ accepted r) (sym o.woven) e₁ in
    let w = labels-before d l m n o.parts o.ready-l o.ready-m r e q₁ in
    let v = labels-after d l m n o.parts o.ready-l o.ready-m r e q₁ in
    let p : (fires d m net).labels ≡ s₀.labels = ap (λ (s : Swept). s.labels) (is-stepped d m net s₀ e₂) in
    let z : (stepped d m r.comps).labels ≡ s₀.labels = v ∙ sym w ∙ ap (λ net. (fires d m net).labels) o.woven ∙ p in (
      stepped d m r.comps,
      record { differ = n; unmarked-all = u; first = e₁; second = step-accepted d m r.comps; none-to-m = q₁; none-to-l = ap (some (moves_to l)) z ∙ q₂ },
      z,
    )
