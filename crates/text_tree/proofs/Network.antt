-- The components that reading makes: one for each outermost part of a located process, at its place, unmarked, with the part's timer and no values.
-- They stand for the components of the text's network, and script and components pass question 17. By induction on the located processes.
use Prim.Native.Nat.{ℕ, zero, suc, ◌-◌, ◌≤◌, ◌<◌}
use native.Mathlib.Omega.{arith}
use mathlib.Core.List.{List, [], ◌∷◌, map, flat_map}
use mathlib.Core.Bool.{Bool, true, false, cond}
use mathlib.Core.Path.{◌≡◌, refl, ap, sym, ◌∙◌}
use borrow.Author.Tests.{ltb-true, lt-ltb, le-leb}
use lib.Dec.{eqb}
use lib.ListN.{length, replicate, length-append}
use Rattle.terms.specs.Names.{Name}
use Rattle.terms.specs.Terms.{Part, Process}
use Rattle.terms.specs.Terms.Part.{stop, go, out, inp, call}
use Rattle.terms.specs.Terms.Process.{one, ◌∥◌}
use Rattle.terms.specs.Terms.Mark.{none}
use Rattle.terms.specs.Terms.Component.{comp}
use Rattle.terms.specs.Rules.{split}
use Rattle.terms.specs.Same.{every}
use Rattle.terms.specs.Clock.{ticks_of, is_edition}
use Rattle.terms.proofs.Names.{and-inv, and_in}
use Rattle.terms.proofs.Substitution.{none_in, env-none}
use Rattle.text.specs.Tree as T
use Rattle.text.specs.Tree.{Located, Tree, components}
use Rattle.text.specs.Tree.Located.{at}
use Rattle.text.specs.WellFormed.{WellTree}
use Rattle.text.specs.Questions as Q
use Rattle.text.specs.Questions.{located_places, places, part_count, component_count}
use Rattle.text.proofs.Gives.{some-comps, filled}
use Rattle.table.specs.declared.Head.{Head}
use Rattle.table.specs.declared.Head.TheVariants.{Stop, Go, Out, In, Call}
use Rattle.table.specs.declared.State.{State}
use Rattle.table.specs.Words.{state_words, word, parts_in, locs_in, edition_in, loc_name, field, head_at, next_at, names_at, first_field, kind_field, name_field, second_field, timer_field, value_field}
use Rattle.table.specs.Meaning.{joined, process_at, part_at, with_timer, env_at, mark_of, process_of, means, PastKept, comps_of, net_of, network_of}
use Rattle.table.specs.Valid.{index, timer_ok, mark_ok, comp_ok, wait_ok, valid, script_ok}
use Rattle.table.specs.Size.{size, size_p}
use Rattle.table.proofs.InUse.{blank-ledger, is-valid}
use Rattle.table.proofs.Tests.{every_append}
use Rattle.table.proofs.Places.{process-is}
use Rattle.table.proofs.Fires.{map-append}
use Rattle.text_build.specs.Rows.{Row, Stands, locs_of, head_of, chan_known, part_known, place_known, args_of}
use Rattle.text_build.specs.Growth.{loc_listed}
use Rattle.text_build.proofs.Numbers.{timer-is, loc-number}
use Rattle.text_build.proofs.Places.{Fit, size-some, size_p-some, every-split, fit-par}
use Rattle.text_build.proofs.Stands.{known-first, process-means}
use Rattle.text_tree.specs.Pass.{Within, Blank, part_spots, spots, top, behind, put_located, script_of, spots_of}
use Rattle.text_tree.specs.Asked.{comp_of}
use Rattle.text_tree.proofs.Whole.{AllStand}
use Rattle.text_tree.proofs.Sizes.{size_defs, size_located, parts_are, behind-is}
use Rattle.text_tree.proofs.Timers.{Timely}
use Rattle.text_tree.proofs.Located.{spots_in}
use Rattle.text_tree.proofs.Reading.{whole, spots-are, timers-small}
use Rattle.text_tree.proofs.Passing.{script-ok, defs-are, known-located}

-- ── the first part of a process ──
abbrev first_of : Process → Part
first_of (one a) = a
first_of (a ∥ p) = a

first-joined : (f : ℕ → Process) (a : Part) (n : ℕ) → first_of (joined f a n) ≡ a
unfolding joined
first-joined f a zero = refl
first-joined f a (suc j) = refl

-- ── its timer ──
-- a head's timer, or d where it has none
abbrev timer_of : ℕ → Head → ℕ
timer_of d Stop = d
timer_of d (Go t v p) = t
timer_of d (Out c t v p q) = t
timer_of d (In c t k p q) = t
timer_of d (Call x n) = d

head-timer : (w : List ℕ) (i : ℕ) → timer_of (field w i timer_field) (head_at w i) ≡ field w i timer_field
unfolding head_at
head-timer w i = go (eqb (field w i kind_field) 1) (eqb (field w i kind_field) 2) (eqb (field w i kind_field) 3) (eqb (field w i kind_field) 4)
  where
    go : (a b c d : Bool) → timer_of (field w i timer_field) (cond a (Go (field w i timer_field) (field w i value_field) (field w i first_field)) (cond b (Out (field w i name_field) (field w i timer_field) (field w i value_field) (field w i first_field) (field w i second_field))
        (cond c (In (field w i name_field) (field w i timer_field) (field w i value_field) (field w i first_field) (field w i second_field)) (cond d (Call (field w i name_field) (field w i value_field)) Stop)))) ≡ field w i timer_field
    go true b c d = refl
    go false true c d = refl
    go false false true d = refl
    go false false false true = refl
    go false false false false = refl

timer-kept : (w : List ℕ) (a : Part) (i d : ℕ) (ys : List Name) → part_known w ys a ≡ true → with_timer (ticks_of (timer_of d (head_of w i ys a))) a ≡ a
unfolding with_timer head_of part_known
timer-kept w stop i d ys e = refl
timer-kept w (go t v p) i d ys e = let r = and-inv _ _ e in rw (timer-is t r.0)
timer-kept w (out c t v p q) i d ys e = let r = and-inv _ _ (and-inv (chan_known w c) _ e).1 in rw (timer-is t r.0)
timer-kept w (inp c t y p q) i d ys e = let r = and-inv _ _ (and-inv (chan_known w c) _ e).1 in rw (timer-is t r.0)
timer-kept w (call x vs) i d ys e = refl

-- ── one component ──
module _ (w : List ℕ) (few : locs_in w ≤ 64) (good : script_ok w ≡ true) (timely : Timely (parts_in w) w) where
  part-is : (p : Process) (i : ℕ) → Stands w p i [] → size_p p ≤ suc i → i < parts_in w → Fit (place_known w) p 1 [] → part_at w i ≡ first_of p
  part-is p i s n h k =
      sym (first-joined (process_at w) (part_at w i) (next_at w i)) ∙ ap first_of (sym (process-is w good i h)) ∙ ap first_of (process-means w few p i 1 [] s n k)

  comp-means : (a : Part) (i j n l : ℕ) → part_at w i ≡ a → Row w i (head_of w i [] a) (args_of w [] a) n l [] → part_known w [] a ≡ true
      → means w (comp_of w (j ∷ i ∷ [])) ≡ comp (loc_name w j) none (one a)
  unfolding means comp_of mark_of process_of env_at names_at
  comp-means a i j n l e r k =
      let t : field w i timer_field ≡ timer_of (field w i timer_field) (head_of w i [] a) = sym (head-timer w i) ∙ ap (timer_of (field w i timer_field)) r.head in
      let m : with_timer (ticks_of (field w i timer_field)) a ≡ a = ap (λ x. with_timer (ticks_of x) a) t ∙ timer-kept w a i (field w i timer_field) [] k in
      rw (r.scope, env-none (loc_name w 0 ∷ loc_name w 0 ∷ loc_name w 0 ∷ loc_name w 0 ∷ loc_name w 0 ∷ loc_name w 0 ∷ loc_name w 0 ∷ loc_name w 0 ∷ []), e, none_in a, m)

  -- the parts of a process at i, at the location of number j
  spots-mean : (p : Process) (i j : ℕ) → Stands w p i [] → size_p p ≤ suc i → i < parts_in w → Fit (place_known w) p 1 []
      → map (means w) (map (comp_of w) (part_spots j p i)) ≡ split (loc_name w j) p
  unfolding part_spots split size_p Q.process_places
  spots-mean (one a) i j s n h k = rw (comp-means a i j _ _ (part-is (one a) i s n h k) s.0 (known-first w a 1 [] k))
  spots-mean (a ∥ p) i j s n h k =
      let x = size-some a in
      let z = size_p-some p in
      let f = fit-par (place_known w) a p 1 [] k in
      rw (comp-means a i j _ _ (part-is (a ∥ p) i s n h k) s.0 (known-first w a 1 [] f.0), spots-mean p (i - size a) j s.2 (omega arith) (omega arith) f.1)

  module _ (some : 0 < locs_in w) where
    comp-ok : (i j : ℕ) → j < locs_in w → i < parts_in w → comp_ok w (comp_of w (j ∷ i ∷ [])) ≡ true
    unfolding comp_ok comp_of mark_ok timer_ok wait_ok every
    comp-ok i j a b =
        let z = lt-ltb 0 (locs_in w) some in
        rw (lt-ltb j (locs_in w) a, lt-ltb i (parts_in w) b, le-leb (field w i timer_field) 1_000_001 (timely i b), z)

    spots-ok : (p : Process) (i j : ℕ) → j < locs_in w → i < parts_in w → every (comp_ok w) (map (comp_of w) (part_spots j p i)) ≡ true
    unfolding part_spots every
    spots-ok (one a) i j c b = and_in _ _ (comp-ok i j c b) refl
    spots-ok (a ∥ p) i j c b = and_in _ _ (comp-ok i j c b) (spots-ok p (i - size a) j c (omega arith))

  -- ── all located processes, n places being left ──
  loc-named : (l : Name) → loc_listed w l ≡ true → loc_name w (index (locs_of w) l) ≡ l
  unfolding loc_listed
  loc-named l e = loc-number w l e

  loc-within : (l : Name) → loc_listed w l ≡ true → index (locs_of w) l < locs_in w
  unfolding loc_listed
  loc-within l e = ltb-true _ (locs_in w) e

  all-mean : (ls : List Located) (i n : ℕ) → i ≡ n - 1 → size_located ls ≤ n → n ≤ parts_in w → AllStand w ls i → every (place_known w) (flat_map located_places ls) ≡ true
      → map (means w) (map (comp_of w) (spots_in w ls i)) ≡ flat_map components ls
  unfolding spots_in size_located flat_map components located_places
  all-mean [] i n q z t d e = refl
  all-mean (at l p ∷ ls) i n q z t d e =
      let r = size_p-some p in
      let s = every-split (place_known w) (located_places (at l p)) (flat_map located_places ls) e in
      let j : ℕ = index (locs_of w) l in
      let m : map (means w) (map (comp_of w) (part_spots j p i)) ≡ split l p = spots-mean p i j d.0.stands d.0.room (omega arith) s.0 ∙ ap (λ x. split x p) (loc-named l d.0.known) in
      ap (map (means w)) (map-append (comp_of w) (part_spots j p i) (spots_in w ls (i - size_p p)))
      ∙ map-append (means w) (map (comp_of w) (part_spots j p i)) (map (comp_of w) (spots_in w ls (i - size_p p)))
      ∙ rw (m, all-mean ls (i - size_p p) (n - size_p p) (omega arith) (omega arith) (omega arith) d.1 s.1)

  all-ok : (ls : List Located) (i n : ℕ) → i ≡ n - 1 → size_located ls ≤ n → n ≤ parts_in w → AllStand w ls i → every (comp_ok w) (map (comp_of w) (spots_in w ls i)) ≡ true
  unfolding spots_in size_located every
  all-ok [] i n q z t d = refl
  all-ok (at l p ∷ ls) i n q z t d =
      let r = size_p-some p in
      let b = loc-within l d.0.known in
      rw (map-append (comp_of w) (part_spots (index (locs_of w) l) p i) (spots_in w ls (i - size_p p)))
      (every_append (comp_ok w) (map (comp_of w) (part_spots (index (locs_of w) l) p i)) _ (spots-ok (omega arith) p i (index (locs_of w) l) b (omega arith))
      (all-ok ls (i - size_p p) (n - size_p p) (omega arith) (omega arith) (omega arith) d.1))

-- ── how many ──
part-count : (p : Process) (l : Name) (i j : ℕ) → length (part_spots j p i) ≡ length (split l p)
unfolding part_spots split
part-count (one a) l i j = refl
part-count (a ∥ p) l i j = ap suc (part-count p l (i - size a) j)

spots-count : (ls : List Located) (i : ℕ) (w : List ℕ) → length (spots ls i w) ≡ length (flat_map components ls)
unfolding spots flat_map components
spots-count [] i w = refl
spots-count (at l p ∷ ls) i w =
    length-append (part_spots _ p i) (spots ls (i - size_p p) (put_located w i l p))
    ∙ rw (part-count p l i _, spots-count ls (i - size_p p) (put_located w i l p)) (sym (length-append (split l p) (flat_map components ls)))

pub count-is : (base : List ℕ) (t : Tree) → length (spots_of base t) ≡ component_count t
unfolding spots_of component_count T.network_of
count-is base t = spots-count t.located (behind t) _

-- ── the network ──
module _ (base : List ℕ) (t : Tree) (blank : Blank base (part_count t)) (l : Within t) (f : WellTree t) (z : word (script_of base t) 4 ≡ 0) (e : Q.defined_once t.defs ≡ true) (k : every (place_known (script_of base t)) (places t) ≡ true)
    (g : is_edition (edition_in (script_of base t)) ≡ true) (st : State) (n : st.n ≡ length (spots_of base t)) (c : comps_of st ≡ map (comp_of (script_of base t)) (spots_of base t)) where
  good : script_ok (script_of base t) ≡ true
  good = script-ok t (script_of base t) (whole base t blank l f z) f l e k g

  comps-are : comps_of st ≡ map (comp_of (script_of base t)) (spots_in (script_of base t) t.located (behind t))
  unfolding comps_of
  comps-are = c ∙ ap (map (comp_of (script_of base t))) (spots-are base t blank l f z)

  -- reading gives the network of the text
  pub network-is : network_of (script_of base t) st ≡ T.network_of t
  unfolding network_of T.network_of net_of
  network-is =
      let h = whole base t blank l f z in
      let s = parts_are t in
      let p = h.parts in
      let m : map (means (script_of base t)) (comps_of st) ≡ flat_map components t.located =
      ap (map (means (script_of base t))) comps-are
      ∙ all-mean (script_of base t) h.making.locs good (λ j b. timers-small base t blank l f z j (omega (arith, h.parts, b))) t.located (behind t) (part_count t - size_defs t.defs) (behind-is t.defs (top t) (part_count t) refl) (omega arith) (omega arith)
      h.located (known-located t (script_of base t) h f l e k) in
      rw (defs-are t (script_of base t) h f l e k, m)

  -- and it passes question 17
  pub valid-is : PastKept st.n (replicate state_words 0) st.c → valid (script_of base t) st ≡ true
  valid-is zeros =
      let h = whole base t blank l f z in
      let s = parts_are t in
      let p = h.parts in
      let r = count-is base t in
      let few = l.components in
      let some : 0 < component_count t = unfold component_count T.network_of in filled (flat_map components t.located) (some-comps t.located f.some-located) in
      is-valid (script_of base t) st good
      (record { some = omega arith; few = omega arith; each = rw comps-are (all-ok (script_of base t) h.making.locs good (λ j b. timers-small base t blank l f z j (omega (arith, h.parts, b))) t.located (behind t) (part_count t - size_defs t.defs) (behind-is t.defs (top t) (part_count t) refl) (omega arith) (omega arith) h.located) })
      (blank-ledger (omega arith) zeros)
