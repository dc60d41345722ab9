-- The test by numbers is the test of what the components stand for.
-- Idea: on a valid table different channels have different names, so that a component has the role of another exactly if what it stands for sends, or receives, on
-- the other's channel.
use Prim.Native.Nat.{ℕ, ◌+◌, ◌<◌, ◌≤◌}
use native.Mathlib.Omega.{arith}
use mathlib.Core.List.{List, [], ◌∷◌, ◌++◌, map, flat_map}
use mathlib.Core.Bool.{Bool, true, false, cond, ◌&&◌, not}
use mathlib.Core.Path.{◌≡◌, refl, ap, sym, ◌∙◌}
use lib.Dec.{eqb, ltb}
use borrow.Author.Tests.{eqb-true, eqb-false, eq-eqb, ne_eqb, ltb-true, lt-ltb}
use Rattle.terms.specs.Names.{Name, same_name}
use Rattle.terms.specs.Letters.{is_small}
use Rattle.terms.specs.Terms.{Process, Component, Mark}
use Rattle.terms.specs.Terms.Process.{one}
use Rattle.terms.specs.Terms.Mark.{none}
use Rattle.terms.specs.Terms.Component.{comp}
use Rattle.terms.specs.Same.{every}
use Rattle.terms.specs.Substitution.{Env, sub}
use Rattle.terms.specs.Rules.{some, only, ready}
use Rattle.terms.specs.Clock.{ticks_of}
use Rattle.terms.proofs.Names.{and-inv}
use Rattle.terms.proofs.Forced.{some-only}
use Rattle.profile.specs.Profile.{sends_on, receives_on, asks, choiceless, ready_ones, conforms}
use Rattle.table.specs.declared.Head.{Head}
use Rattle.table.specs.declared.Head.TheVariants.{Stop, Go, Out, In, Call}
use Rattle.table.specs.declared.Comp.{Comp}
use Rattle.table.specs.declared.State.{State}
use Rattle.table.specs.Words.{locs_in, chans_in, loc_name, chan_name, head_at}
use Rattle.table.specs.Meaning.{part_of, process_at, part_at, with_timer, env_at, means, comps_of, net_of}
use Rattle.table.specs.Valid.{script_ok, comp_ok, head_ok, valid}
use Rattle.table.specs.Split.{due_at}
use Rattle.table.specs.Fire.{ready_at}
use Rattle.table.proofs.Tests.{part-fine, script-fine, comp-fine, held-once}
use Rattle.table.proofs.Places.{out-fine, in-fine}
use Rattle.table.proofs.Splits.{unmarked-is}
use Rattle.table.proofs.Ticks.{some-map, some_same, ready-means, is-ready}
use Rattle.calls_act.proofs.Positions.{valid-parts}
use Rattle.calls_profile.specs.Roles.{receivers, no_role, late_role, role_in, role_of, comes, apart}

module _ (w : List ℕ) (good : script_ok w ≡ true) where
  few : chans_in w ≤ 64
  few = (script-fine w good).chans

  chan-same : (i j : ℕ) → i < chans_in w → j < chans_in w → same_name (chan_name w i) (chan_name w j) ≡ eqb i j
  chan-same = held-once is_small (chan_name w) (chans_in w) (script-fine w good).chan-names

  head-good : (c : Comp) → comp_ok w c ≡ true → head_ok w c.place (head_at w c.place) ≡ true
  head-good c e = (part-fine w good c.place (comp-fine w c e).place).head

  -- ── who has the role of a sender, of a receiver, on the channel d ──
  sends-by : (d i : ℕ) (k : Name) (m : Mark) (c : Comp) (f : ℕ → Process) (g : Head) (e : Env) → d < chans_in w → head_ok w i g ≡ true
      → sends_on (chan_name w d) (comp k m (one (with_timer (ticks_of c.timer) (sub (part_of w f c.place g) e)))) ≡ eqb (role_in c g) d
  unfolding sends_on role_in with_timer sub part_of
  sends-by d i k m c f Stop e x o = sym (ne_eqb no_role d (λ z. omega (arith, few)))
  sends-by d i k m c f (Go u v p) e x o = sym (go (due_at c))
    where
      go : (b : Bool) → eqb (cond b no_role late_role) d ≡ false
      go true = ne_eqb no_role d (λ z. omega (arith, few))
      go false = ne_eqb late_role d (λ z. omega (arith, few))
  sends-by d i k m c f (Out h u v p q) e x o = chan-same h d (ltb-true h (chans_in w) (out-fine w i h u v p q o).channel) x
  sends-by d i k m c f (In h u s p q) e x o = sym (ne_eqb (h + receivers) d (λ z. omega (arith, few)))
  sends-by d i k m c f (Call h n) e x o = sym (ne_eqb no_role d (λ z. omega (arith, few)))

  receives-by : (d i : ℕ) (k : Name) (m : Mark) (c : Comp) (f : ℕ → Process) (g : Head) (e : Env) → d < chans_in w → head_ok w i g ≡ true
      → receives_on (chan_name w d) (comp k m (one (with_timer (ticks_of c.timer) (sub (part_of w f c.place g) e)))) ≡ eqb (role_in c g) (d + receivers)
  unfolding receives_on role_in with_timer sub part_of
  receives-by d i k m c f Stop e x o = sym (ne_eqb no_role (d + receivers) (λ z. omega (arith, few)))
  receives-by d i k m c f (Go u v p) e x o = sym (go (due_at c))
    where
      go : (b : Bool) → eqb (cond b no_role late_role) (d + receivers) ≡ false
      go true = ne_eqb no_role (d + receivers) (λ z. omega (arith, few))
      go false = ne_eqb late_role (d + receivers) (λ z. omega (arith, few))
  receives-by d i k m c f (Out h u v p q) e x o = sym (ne_eqb h (d + receivers) (λ z. omega (arith, few, ltb-true h (chans_in w) (out-fine w i h u v p q o).channel)))
  receives-by d i k m c f (In h u s p q) e x o = chan-same h d (ltb-true h (chans_in w) (in-fine w i h u s p q o).channel) x ∙ go (eqb h d) refl
    where
      go : (b : Bool) → eqb h d ≡ b → b ≡ eqb (h + receivers) (d + receivers)
      go true q = sym (eq-eqb (h + receivers) (d + receivers) (omega (arith, eqb-true h d q)))
      go false q = sym (ne_eqb (h + receivers) (d + receivers) (λ z. eqb-false h d q (omega arith)))
  receives-by d i k m c f (Call h n) e x o = sym (ne_eqb no_role (d + receivers) (λ z. omega (arith, few)))

  module _ (l : ℕ) (h : l < locs_in w) where
    -- of any test that a ready component passes exactly if it has the role k: of all components those pass that have this role
    role-means : (k : ℕ) (t : Component → Bool) → k < no_role
        → ((c : Comp) → comp_ok w c ≡ true → ready_at l c ≡ true → t (means w c) ≡ eqb (role_in c (head_at w c.place)) k)
        → (c : Comp) → comp_ok w c ≡ true → (ready (loc_name w l) (means w c) && t (means w c)) ≡ eqb (role_of w l c) k
    unfolding role_of
    role-means k t b q c e = rw (ready-means w good l c h (comp-fine w c e)) (go (ready_at l c) refl)
      where
        go : (x : Bool) → ready_at l c ≡ x → (x && t (means w c)) ≡ eqb (cond x (role_in c (head_at w c.place)) no_role) k
        go true r = q c e r
        go false r = sym (ne_eqb no_role k (λ z. omega arith))

    some-role : (k : ℕ) (t : Component → Bool) → k < no_role
        → ((c : Comp) → comp_ok w c ≡ true → ready_at l c ≡ true → t (means w c) ≡ eqb (role_in c (head_at w c.place)) k)
        → (cs : List Comp) → every (comp_ok w) cs ≡ true → some t (ready_ones (loc_name w l) (map (means w) cs)) ≡ some (λ e. eqb (role_of w l e) k) cs
    some-role k t b q cs e =
        some-only t (ready (loc_name w l)) (map (means w) cs)
        ∙ some-map (λ x. ready (loc_name w l) x && t x) (means w) cs
        ∙ some_same _ _ (comp_ok w) cs e (role-means k t b q)

    -- what a ready component stands for
    part-is : (c : Comp) → ready_at l c ≡ true → means w c ≡ comp (loc_name w c.loc) none (one (with_timer (ticks_of c.timer) (sub (part_of w (process_at w) c.place (head_at w c.place)) (env_at w c.place c.vals))))
    unfolding part_at
    part-is c r = unmarked-is w c (is-ready w good l c r).free

    sends-role : (d : ℕ) → d < chans_in w → (c : Comp) → comp_ok w c ≡ true → ready_at l c ≡ true → sends_on (chan_name w d) (means w c) ≡ eqb (role_in c (head_at w c.place)) d
    sends-role d x c e r = ap (sends_on (chan_name w d)) (part-is c r) ∙ sends-by d c.place (loc_name w c.loc) none c (process_at w) (head_at w c.place) (env_at w c.place c.vals) x (head-good c e)

    receives-role : (d : ℕ) → d < chans_in w → (c : Comp) → comp_ok w c ≡ true → ready_at l c ≡ true → receives_on (chan_name w d) (means w c) ≡ eqb (role_in c (head_at w c.place)) (d + receivers)
    receives-role d x c e r = ap (receives_on (chan_name w d)) (part-is c r) ∙ receives-by d c.place (loc_name w c.loc) none c (process_at w) (head_at w c.place) (env_at w c.place c.vals) x (head-good c e)

    -- ── what a component asks of those behind it ──
    module _ (cs : List Comp) (fine : every (comp_ok w) cs ≡ true) where
      abbrev behind : List Component
      behind = ready_ones (loc_name w l) (map (means w) cs)

      abbrev again : ℕ → Bool
      again k = some (λ e. eqb (role_of w l e) k) cs

      asks-by : (i : ℕ) (k : Name) (m : Mark) (c : Comp) (f : ℕ → Process) (g : Head) (e : Env) → head_ok w i g ≡ true
          → asks (comp k m (one (with_timer (ticks_of c.timer) (sub (part_of w f c.place g) e)))) behind ≡ comes (role_in c g) (again (role_in c g))
      unfolding asks role_in comes with_timer sub part_of
      asks-by i k m c f Stop e o = refl
      asks-by i k m c f (Go u v p) e o = unfold due_at in go (due_at c)
        where
          go : (b : Bool) → b ≡ cond (ltb (cond b no_role late_role) no_role) (not (some (λ e. eqb (role_of w l e) (cond b no_role late_role)) cs)) (eqb (cond b no_role late_role) no_role)
          go true = refl
          go false = refl
      asks-by i k m c f (Out d u v p q) e o =
          let x = ltb-true d (chans_in w) (out-fine w i d u v p q o).channel in
          rw (lt-ltb d no_role (omega (arith, few))) (ap not (some-role d (sends_on (chan_name w d)) (omega (arith, few)) (sends-role d x) cs fine))
      asks-by i k m c f (In d u s p q) e o =
          let x = ltb-true d (chans_in w) (in-fine w i d u s p q o).channel in
          rw (lt-ltb (d + receivers) no_role (omega (arith, few))) (ap not (some-role (d + receivers) (receives_on (chan_name w d)) (omega (arith, few)) (receives-role d x) cs fine))
      asks-by i k m c f (Call d n) e o = refl

      asks-means : (c : Comp) → comp_ok w c ≡ true → ready_at l c ≡ true → asks (means w c) behind ≡ comes (role_in c (head_at w c.place)) (again (role_in c (head_at w c.place)))
      asks-means c e r = ap (λ x. asks x behind) (part-is c r) ∙ asks-by c.place (loc_name w c.loc) none c (process_at w) (head_at w c.place) (env_at w c.place c.vals) (head-good c e)

    conforms-by : (cs : List Comp) → every (comp_ok w) cs ≡ true → choiceless (ready_ones (loc_name w l) (map (means w) cs)) ≡ apart (role_of w l) cs
    unfolding choiceless apart every flat_map only
    conforms-by [] e = refl
    conforms-by (c ∷ cs) e =
        let a = and-inv (comp_ok w c) (every (comp_ok w) cs) e in
        rw (ready-means w good l c h (comp-fine w c a.0)) (go (ready_at l c) refl a.0 a.1 (conforms-by cs a.1))
      where
        go : (b : Bool) → ready_at l c ≡ b → comp_ok w c ≡ true → every (comp_ok w) cs ≡ true → choiceless (ready_ones (loc_name w l) (map (means w) cs)) ≡ apart (role_of w l) cs
            → choiceless (cond b (means w c ∷ []) [] ++ ready_ones (loc_name w l) (map (means w) cs)) ≡ (comes (role_of w l c) (some (λ e. eqb (role_of w l e) (role_of w l c)) cs) && apart (role_of w l) cs)
        go true r f g k =
            let p : role_of w l c ≡ role_in c (head_at w c.place) = unfold role_of in rw r in
            rw (p, k) (ap (λ z. z && apart (role_of w l) cs) (asks-means cs g c f r))
        go false r f g k =
            let p : role_of w l c ≡ no_role = unfold role_of in rw r in
            rw p (unfold comes in k)

-- the law, of a valid table
pub conforms-means : (w : List ℕ) (st : State) (l : ℕ) → valid w st ≡ true → l < locs_in w → conforms (loc_name w l) (net_of w st) ≡ apart (role_of w l) (comps_of st)
unfolding conforms net_of
conforms-means w st l v h = let p = valid-parts w st v in conforms-by w p.0 l h (comps_of st) p.1.each
