-- The marks of a valid table name exactly the locations where the tick is not allowed by the rules.
-- A component hears, and presses, only at its own location; so one array over location and channel serves all locations at once.
use Prim.Native.Nat.{ℕ, ◌+◌, ◌*◌, ◌<◌, ◌≤◌}
use native.Mathlib.Omega.{arith}
use mathlib.Core.List.{List, [], ◌∷◌}
use mathlib.Core.Bool.{Bool, true, false, cond, ◌&&◌, not}
use mathlib.Core.Path.{◌≡◌, refl, sym, ap, ◌∙◌}
use lib.Dec.{eqb, ltb}
use borrow.Author.Tests.{ltb-true, ltb-false, eqb-true, eqb-false, eq-eqb, ne_eqb}
use Rattle.std.specs.Prelude.{Some, None}
use Rattle.terms.specs.Same.{every}
use Rattle.terms.specs.Rules.{some, forced}
use Rattle.table.specs.declared.Comp.{Comp}
use Rattle.table.specs.declared.State.{State}
use Rattle.table.specs.declared.Head.{Head}
use Rattle.table.specs.declared.Head.TheVariants.{Stop, Go, Out, In, Call}
use Rattle.table.specs.Words.{locs_in, chans_in, loc_name, head_at}
use Rattle.table.specs.Meaning.{context_of, comps_of, net_of}
use Rattle.table.specs.Valid.{head_ok, script_ok, comp_ok, valid}
use Rattle.table.specs.Fire.{ready_at, hears, presses_at, forced_at, sent_on, right_in, would_act, must_act, heard_at}
use Rattle.table.proofs.Tests.{script-fine, part-fine, comp-fine}
use Rattle.table.proofs.Places.{out-fine, in-fine}
use Rattle.table.proofs.Ticks.{some_same, forced-means}
use Rattle.calls_act.proofs.Positions.{valid-parts}
use Rattle.calls_must.specs.Heard.{sends_on}
use Rattle.calls_forced.specs.Marked.{is_marked, is_place, Marked, ear_in, ear_of, presses_in, press_of}
use Rattle.calls_forced.specs.Report.{mask, forced_test}
use Rattle.calls_forced.proofs.Bits.{mask-same}

never : {A : Type 0} (cs : List A) → some (λ c. false) cs ≡ false
unfolding some
never [] = refl
never (c ∷ cs) = never cs

nowhere : (x : Bool) → false ≡ (x && false)
nowhere true = refl
nowhere false = refl

module _ (w : List ℕ) (s : script_ok w ≡ true) where
  locs : locs_in w ≤ 64
  locs = (script-fine w s).locs

  chans : chans_in w ≤ 64
  chans = (script-fine w s).chans

  -- ── what is heard ──
  ear-in-at : (i a l h : ℕ) (g : Head) → head_ok w i g ≡ true → l < 64 → h < 64 → is_place (l * 64 + h) (ear_in a g) ≡ (eqb a l && hears h g)
  unfolding ear_in hears
  ear-in-at i a l h Stop e b k = nowhere (eqb a l)
  ear-in-at i a l h (Go t v p) e b k = nowhere (eqb a l)
  ear-in-at i a l h (Out d t v p q) e b k = nowhere (eqb a l)
  ear-in-at i a l h (Call d n) e b k = nowhere (eqb a l)
  ear-in-at i a l h (In d t n p q) e b k = go (eqb a l) (eqb h d) refl refl
    where
      small : d < 64
      small = omega (arith, chans, ltb-true d (chans_in w) (in-fine w i d t n p q e).channel)

      go : (x y : Bool) → eqb a l ≡ x → eqb h d ≡ y → eqb (a * 64 + d) (l * 64 + h) ≡ (x && y)
      go true true m o = eq-eqb (a * 64 + d) (l * 64 + h) (omega (arith, eqb-true a l m, eqb-true h d o))
      go true false m o = ne_eqb (a * 64 + d) (l * 64 + h) (λ z. eqb-false h d o (omega (arith, small)))
      go false y m o = ne_eqb (a * 64 + d) (l * 64 + h) (λ z. eqb-false a l m (omega (arith, small)))

  head-good : (c : Comp) → comp_ok w c ≡ true → head_ok w c.place (head_at w c.place) ≡ true
  head-good c e = (part-fine w s c.place (comp-fine w c e).place).head

  ear-at : (l h : ℕ) → l < 64 → h < 64 → (c : Comp) → comp_ok w c ≡ true → is_place (l * 64 + h) (ear_of w c) ≡ (ready_at l c && hears h (head_at w c.place))
  unfolding ear_of ready_at
  ear-at l h b k c e = go (ltb c.mark 64)
    where
      go : (x : Bool) → is_place (l * 64 + h) (cond x None (ear_in c.loc (head_at w c.place))) ≡ ((not x && eqb c.loc l) && hears h (head_at w c.place))
      go true = refl
      go false = ear-in-at c.place c.loc l h (head_at w c.place) (head-good c e) b k

  module _ (cs : List Comp) (each : every (comp_ok w) cs ≡ true) (ys : List Bool) (heard : Marked 4_096 (ear_of w) cs ys) where
    heard-is : (l h : ℕ) → l < 64 → h < 64 → is_marked ys (l * 64 + h) ≡ heard_at w l cs h
    unfolding heard_at
    heard-is l h b k = heard (l * 64 + h) (omega arith) ∙ some_same _ _ (comp_ok w) cs each (ear-at l h b k)

    -- ── what presses ──
    presses-is : (i : ℕ) (c : Comp) (g : Head) → head_ok w i g ≡ true → c.loc < 64 → presses_in w ys c g ≡ must_act w (heard_at w c.loc cs (sent_on g)) c g
    unfolding presses_in must_act would_act sent_on sends_on
    presses-is i c Stop e b = refl
    presses-is i c (Go u v p) e b = refl
    presses-is i c (Out d u v p q) e b = ap (λ z. z && right_in w c (Out d u v p q)) (heard-is c.loc d b (omega (arith, chans, ltb-true d (chans_in w) (out-fine w i d u v p q e).channel)))
    presses-is i c (In d u k p q) e b = refl
    presses-is i c (Call d n) e b = refl

    press-at : (l : ℕ) → l < 64 → (c : Comp) → comp_ok w c ≡ true → is_place l (press_of w ys c) ≡ presses_at w l cs c
    unfolding press_of presses_at ready_at
    press-at l b c e = go (ltb c.mark 64)
      where
        own : c.loc < 64
        own = omega (arith, locs, (comp-fine w c e).loc)

        P : ℕ → Bool
        P k = must_act w (heard_at w k cs (sent_on (head_at w c.place))) c (head_at w c.place)

        mine : presses_in w ys c (head_at w c.place) ≡ P c.loc
        mine = presses-is c.place c (head_at w c.place) (head-good c e) own

        here : (x : Bool) → is_place l (cond x (Some l) None) ≡ x
        here true = eq-eqb l l refl
        here false = refl

        elsewhere : (x : Bool) → eqb c.loc l ≡ false → is_place l (cond x (Some c.loc) None) ≡ false
        elsewhere true z = z
        elsewhere false z = refl

        at-l : (y : Bool) → eqb c.loc l ≡ y → is_place l (cond (presses_in w ys c (head_at w c.place)) (Some c.loc) None) ≡ (y && P l)
        at-l true z = ap (λ x. is_place l (cond x (Some c.loc) None)) mine ∙ ap (λ k. is_place l (cond (P k) (Some k) None)) (eqb-true c.loc l z) ∙ here (P l)
        at-l false z = elsewhere (presses_in w ys c (head_at w c.place)) z

        go : (x : Bool) → is_place l (cond x None (cond (presses_in w ys c (head_at w c.place)) (Some c.loc) None)) ≡ ((not x && eqb c.loc l) && P l)
        go true = refl
        go false = at-l (eqb c.loc l) refl

    forced-is : (hs : List Bool) → Marked 64 (press_of w ys) cs hs → (l : ℕ) → l < 64 → is_marked hs l ≡ forced_at w l cs
    unfolding forced_at
    forced-is hs m l b = m l b ∙ some_same _ _ (comp_ok w) cs each (press-at l b)

    -- nobody stands past the script's locations
    forced-past : (l : ℕ) → locs_in w ≤ l → forced_at w l cs ≡ false
    unfolding forced_at presses_at ready_at
    forced-past l h = some_same _ (λ c. false) (comp_ok w) cs each (λ c e. away c (ne_eqb c.loc l (λ z. omega (arith, (comp-fine w c e).loc)))) ∙ never cs
      where
        away : (c : Comp) → eqb c.loc l ≡ false → ((not (ltb c.mark 64) && eqb c.loc l) && must_act w (heard_at w l cs (sent_on (head_at w c.place))) c (head_at w c.place)) ≡ false
        away c z = rw (z, ← nowhere (not (ltb c.mark 64)))

-- what has a place has one in range
pub ear-within : (w : List ℕ) (c : Comp) (k : ℕ) → script_ok w ≡ true → comp_ok w c ≡ true → ear_of w c ≡ Some k → k < 4_096
unfolding ear_of ear_in
ear-within w c k s e = go (ltb c.mark 64) (head_at w c.place) (head-good w s c e)
  where
    l : c.loc < 64
    l = omega (arith, locs w s, (comp-fine w c e).loc)

    go : (x : Bool) (g : Head) → head_ok w c.place g ≡ true → cond x None (ear_in c.loc g) ≡ Some k → k < 4_096
    go true g o h = cc
    go false Stop o h = cc
    go false (Go t v p) o h = cc
    go false (Out d t v p q) o h = cc
    go false (In d t n p q) o h =
        let z : c.loc * 64 + d ≡ k = cc in
        omega (arith, l, chans w s, ltb-true d (chans_in w) (in-fine w c.place d t n p q o).channel)
    go false (Call d n) o h = cc

pub press-within : (w : List ℕ) (ys : List Bool) (c : Comp) (k : ℕ) → script_ok w ≡ true → comp_ok w c ≡ true → press_of w ys c ≡ Some k → k < 64
unfolding press_of
press-within w ys c k s e = go (ltb c.mark 64) (presses_in w ys c (head_at w c.place))
  where
    go : (x y : Bool) → cond x None (cond y (Some c.loc) None) ≡ Some k → k < 64
    go true y h = cc
    go false true h = let z : c.loc ≡ k = cc in omega (arith, locs w s, (comp-fine w c e).loc)
    go false false h = cc

-- the set of the marks is the set of the forced locations
pub set_is : (w : List ℕ) (st : State) (ys hs : List Bool) → valid w st ≡ true → Marked 4_096 (ear_of w) (comps_of st) ys → Marked 64 (press_of w ys) (comps_of st) hs
    → mask (is_marked hs) 0 64 ≡ mask (forced_test w st) 0 64
unfolding forced_test net_of
set_is w st ys hs v m k = mask-same (is_marked hs) (forced_test w st) 0 64 (λ l b. go l (omega arith) (ltb l (locs_in w)) refl)
  where
    s : script_ok w ≡ true
    s = (valid-parts w st v).0

    each : every (comp_ok w) (comps_of st) ≡ true
    each = (valid-parts w st v).1.each

    go : (l : ℕ) → l < 64 → (x : Bool) → ltb l (locs_in w) ≡ x → is_marked hs l ≡ (ltb l (locs_in w) && forced (context_of w) (loc_name w l) (net_of w st))
    go l b true e = forced-is w s (comps_of st) each ys m hs k l b ∙ sym (rw e (forced-means w s l (ltb-true l (locs_in w) e) (comps_of st) each))
    go l b false e = forced-is w s (comps_of st) each ys m hs k l b ∙ forced-past w s (comps_of st) each ys m l (omega (arith, ltb-false l (locs_in w) e)) ∙ sym (rw e)
