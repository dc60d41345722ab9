-- Question 4 as the second pass answers it: given the counts of the first pass, the word 4 is 0 exactly if channels, locations and scopes keep within their
-- limits. One way by what stands then, the other by induction on the definitions and the located processes.
use Prim.Native.Nat.{ℕ, suc, ◌+◌, ◌-◌, ◌*◌, ◌≤◌, ◌<◌}
use native.Mathlib.Omega.{arith}
use mathlib.Core.List.{List, [], ◌∷◌, ◌++◌, flat_map}
use mathlib.Core.Bool.{Bool, true, false, ◌&&◌}
use mathlib.Core.Path.{◌≡◌, refl, ap, sym, ◌∙◌}
use borrow.Author.Tests.{leb-true, le-leb, eqb-true, eq-eqb}
use lib.Dec.{eqb, leb}
use lib.ListN.{length, length-map}
use Rattle.terms.specs.Names.{Name}
use Rattle.terms.specs.Terms.{Part, Process, Def}
use Rattle.terms.specs.Terms.Part.{stop, go, out, inp, call}
use Rattle.terms.specs.Terms.Process.{one, ◌∥◌}
use Rattle.terms.specs.Terms.Def.{define}
use Rattle.terms.specs.Same.{every}
use Rattle.terms.proofs.Names.{and-inv, and_in}
use Rattle.text.specs.Tree.{Located, Tree}
use Rattle.text.specs.Tree.Located.{at}
use Rattle.text.specs.WellFormed.{Each, WellDef, WellLocated, WellTree}
use Rattle.text.specs.Questions.{Place, firsts, part_places, process_places, def_places, located_places, places, locations_at, channels_at, located_names, channels, locations, most, definition_count, parameter_count, part_count, component_count, scope_size, fits}
use Rattle.table.specs.Words.{row_size, parts_at, word, name_at, loc_name, chan_name, scope_at, count_field}
use Rattle.table.specs.Size.{size, size_p}
use Rattle.table.proofs.Tests.{length-list_from, every_append}
use Rattle.table.proofs.Rows.{any-length, at_most}
use Rattle.text_build.specs.Rows.{Below, Stands, locs_of, chans_of, scope_names, first_place, second_place, entering}
use Rattle.text_build.specs.Growth.{Making}
use Rattle.text_build.specs.Put.{offsets, enter_loc, put}
use Rattle.text_build.proofs.Numbers.{names-entered}
use Rattle.text_build.proofs.Places.{PartFit, Fit, every-split, size_p-some}
use Rattle.text_build.proofs.Numbering.{flat_append}
use Rattle.text_build.proofs.Puts.{leaf-fit, go-fit, out-fit, in-fit, par-fit}
use Rattle.text_tree.specs.Pass.{Within, Blank, no_scope, param_scope, bodies, put_located, brackets, top, defined, behind, script_of}
use Rattle.text_tree.specs.Asked.{roomy}
use Rattle.text_tree.proofs.Whole.{DefsStand, AllStand}
use Rattle.text_tree.proofs.Sizes.{size_defs, size_located, parts_are, behind-is}
use Rattle.text_tree.proofs.Heads.{FewParams, HeadsStand, heads-kept}
use Rattle.text_tree.proofs.Params.{param-scope, param-eight, param-settled}
use Rattle.text_tree.proofs.Bodies.{body-went, body-numbered}
use Rattle.text_tree.proofs.Located.{loc-entered, none-eight, located-went, located-numbered}
use Rattle.text_tree.proofs.Reading.{headed, few, headed-few, headed-making, headed-clear, headed-locs, headed-chans, headed-stand, bodies-after, whole}
use Rattle.text_tree.proofs.Room.{Fits, fits-front, fits-rest, FitsAt, at_front, at_rest, loc-room, few8, Ready}
use Rattle.text_tree.proofs.Roomy.{put-roomy}

-- ── at most 8 in scope at every place ──
most-few : (xs : List Place) → every few8 xs ≡ true → most (λ x. length x.scope) xs ≤ 8
unfolding most every
most-few [] e = omega arith
most-few (x ∷ xs) e = let r = and-inv (few8 x) _ e in let a = leb-true (length x.scope) 8 r.0 in let b = most-few xs r.1 in omega arith

few-most : (xs : List Place) → most (λ x. length x.scope) xs ≤ 8 → every few8 xs ≡ true
unfolding most every
few-most [] h = refl
few-most (x ∷ xs) h = and_in _ _ (le-leb (length x.scope) 8 (omega arith)) (few-most xs (omega arith))

-- where rows stand, they hold their scopes
module _ (w : List ℕ) where
  row-few : (i : ℕ) (os : List ℕ) → scope_at w i ≡ os → leb (length (scope_names w os)) 8 ≡ true
  row-few i os e =
      let a : length (scope_names w os) ≡ length (scope_at w i) = length-map os (name_at w) ∙ ap length (sym e) in
      le-leb (length (scope_names w os)) 8 (omega (arith, any-length w i, at_most (word w (parts_at + i * row_size + count_field))))

  mutual
    unfolding process_places part_places

    part-few : (a : Part) (i d : ℕ) (os : List ℕ) → scope_at w i ≡ os → Below w a i os → PartFit few8 a d (scope_names w os)
    part-few stop i d os e b = leaf-fit few8 d (scope_names w os) stop refl (row-few i os e)
    part-few (go t v p) i d os e b = go-fit few8 d (scope_names w os) t v p (row-few i os e) (stands-few p (first_place i) (suc d) os b)
    part-few (out c t v p q) i d os e b = out-fit few8 d (scope_names w os) c t v p q (row-few i os e) (stands-few p (first_place i) (suc d) os b.0) (stands-few q (second_place i p) (suc d) os b.1)
    part-few (inp c t y p q) i d os e b =
        in-fit few8 d (scope_names w os) c t y p q (row-few i os e)
        (rw (← names-entered w i os y b.0) (stands-few p (first_place i) (suc d) (entering w i os y) b.1))
        (stands-few q (second_place i p) (suc d) os b.2)
    part-few (call x vs) i d os e b = leaf-fit few8 d (scope_names w os) (call x vs) refl (row-few i os e)

    stands-few : (p : Process) (i d : ℕ) (os : List ℕ) → Stands w p i os → Fit few8 p d (scope_names w os)
    stands-few (one a) i d os b = part-few a i d os b.0.scope b.1
    stands-few (a ∥ p) i d os b = par-fit few8 d (scope_names w os) a p (part-few a i d os b.0.scope b.1) (stands-few p (i - size a) d os b.2)

  defs-few : (ds : List Def) (k i : ℕ) → DefsStand w ds k i → every few8 (flat_map def_places ds) ≡ true
  unfolding flat_map def_places every
  defs-few [] k i d = refl
  defs-few (define x us p ∷ ds) k i d =
      every_append few8 (process_places p 1 (firsts [] us)) (flat_map def_places ds) (rw (← d.0.scope) (stands-few p i 1 (offsets (param_scope w k)) d.0.stands)) (defs-few ds (k + 1) (i - size_p p) d.1)

  located-few : (ls : List Located) (i : ℕ) → AllStand w ls i → every few8 (flat_map located_places ls) ≡ true
  unfolding flat_map located_places every
  located-few [] i d = refl
  located-few (at l p ∷ ls) i d = every_append few8 (process_places p 1 []) (flat_map located_places ls) (stands-few p i 1 [] d.0.stands) (located-few ls (i - size_p p) d.1)

-- ── the word 4 stays 0 ──
bodies-roomy : (ds : List Def) (k i n : ℕ) (w : List ℕ) → Making w → i ≡ n - 1 → size_defs ds ≤ n → n ≤ 4_096 → k + length ds ≤ 32 → FewParams ds → Each WellDef ds → HeadsStand w ds k i
    → word w 4 ≡ 0
    → every few8 (flat_map def_places ds) ≡ true
    → FitsAt w (flat_map def_places ds)
    → word (bodies ds k i w) 4 ≡ 0
unfolding bodies size_defs flat_map def_places
bodies-roomy [] k i n w m e s t c u f h z r q = z
bodies-roomy (define x us p ∷ ds) k i n w m e s t c u f h z r q =
    let b = size_p-some p in
    let y = every-split few8 (def_places (define x us p)) (flat_map def_places ds) r in
    let ready : Ready w i (param_scope w k) (firsts [] us) = record {
      making = m;
      eight = param-eight w x us k i (omega arith) u.0 h.0;
      settled = param-settled w x us k i (omega arith) u.0 h.0;
      names = (param-scope w x us k i (omega arith) u.0 h.0).names;
      clear = z;
    } in
    let zp : word (put p i (param_scope w k) w) 4 ≡ 0 =
    put-roomy p i 1 (param_scope w k) w (firsts [] us) ready f.0.2 (omega arith) (omega arith) y.0 (at_front w (def_places (define x us p)) (flat_map def_places ds) q) in
    let g = body-went x us p k i w m (omega arith) u.0 f.0 (omega arith) (omega arith) h.0 zp in
    bodies-roomy ds (k + 1) (i - size_p p) (n - size_p p) _ g.making (omega arith) (omega arith) (omega arith) (omega arith) u.1 f.1
    (heads-kept ds w _ (k + 1) (i - size_p p) u.1 (omega arith) g.between h.1) zp y.1
    (at_rest w _ (def_places (define x us p)) (flat_map def_places ds) (body-numbered x us p k i w m (omega arith) u.0 f.0 (omega arith) (omega arith) h.0 zp) q)

-- one located process
module _ (l : Name) (p : Process) (i : ℕ) (w : List ℕ) (m : Making w) (f : WellLocated (at l p)) (n : size_p p ≤ suc i) (t : i < 4_096) (z : word w 4 ≡ 0) (r : every few8 (located_places (at l p)) ≡ true)
    (q : Fits w (located_names (at l p)) (flat_map channels_at (located_places (at l p)))) where
  located-roomy : word (put_located w i l p) 4 ≡ 0
  unfolding put_located located_names located_places firsts
  located-roomy =
      let ns : List Name = flat_map locations_at (process_places p 1 []) in
      let cs : List Name = flat_map channels_at (process_places p 1 []) in
      let a = fits-front w (l ∷ []) ns [] cs q in
      let y = loc-room w l m f.0 z a.locs in
      let e = loc-entered w l m f.0 y in
      let ready : Ready (enter_loc w l) i no_scope [] = record { making = (e.grew 0 0).making; eight = none-eight; settled = tt; names = refl; clear = y } in
      put-roomy p i 1 no_scope (enter_loc w l) [] ready f.1 n t r (fits-rest w (enter_loc w l) (l ∷ []) ns [] cs e.numbered q)

brackets-roomy : (ls : List Located) (i n : ℕ) (w : List ℕ) → Making w → i ≡ n - 1 → size_located ls ≤ n → n ≤ 4_096 → Each WellLocated ls → word w 4 ≡ 0
    → every few8 (flat_map located_places ls) ≡ true
    → Fits w (flat_map located_names ls) (flat_map channels_at (flat_map located_places ls))
    → word (brackets ls i w) 4 ≡ 0
unfolding brackets size_located flat_map
brackets-roomy [] i n w m e s t f z r q = z
brackets-roomy (at l p ∷ ls) i n w m e s t f z r q =
    let b = size_p-some p in
    let y = every-split few8 (located_places (at l p)) (flat_map located_places ls) r in
    let h : Fits w (located_names (at l p) ++ flat_map located_names ls) (flat_map channels_at (located_places (at l p)) ++ flat_map channels_at (flat_map located_places ls)) =
    rw (flat_append channels_at (located_places (at l p)) (flat_map located_places ls)) at q in
    let zp = located-roomy l p i w m f.0 (omega arith) (omega arith) z y.0 (fits-front w (located_names (at l p)) (flat_map located_names ls) _ (flat_map channels_at (flat_map located_places ls)) h) in
    let g = located-went l p i w m f.0 (omega arith) (omega arith) zp in
    brackets-roomy ls (i - size_p p) (n - size_p p) (put_located w i l p) g.making (omega arith) (omega arith) (omega arith) f.1 zp y.1
    (fits-rest w _ (located_names (at l p)) (flat_map located_names ls) _ (flat_map channels_at (flat_map located_places ls)) (located-numbered l p i w m f.0 (omega arith) (omega arith) zp) h)

-- ── a whole text ──
module _ (base : List ℕ) (t : Tree) (blank : Blank base (part_count t)) (l : Within t) (f : WellTree t) where
  -- within the limits
  room-clear : length (channels t) ≤ 64 → length (locations t) ≤ 64 → scope_size t ≤ 8 → word (script_of base t) 4 ≡ 0
  unfolding channels locations scope_size places script_of defined
  room-clear a b c =
      let s = parts_are t in
      let p = l.parts in
      let d = headed-few base t blank l in
      let ds : List Place = flat_map def_places t.defs in
      let ls : List Place = flat_map located_places t.located in
      let r = every-split few8 ds ls (few-most (ds ++ ls) c) in
      let q : Fits (headed base t blank l) (flat_map locations_at ds ++ flat_map located_names t.located) (flat_map channels_at ds ++ flat_map channels_at ls) = record {
        locs = rw (headed-locs base t blank l) b;
        chans = rw (headed-chans base t blank l, ← flat_append channels_at ds ls) a;
      } in
      let z = bodies-roomy t.defs 0 (top t) (part_count t) (headed base t blank l) (headed-making base t blank l) refl (omega arith) p (omega arith) (few base t blank l) f.defs-well (headed-stand base t blank l f) (headed-clear base t blank l) r.0
      (fits-front (headed base t blank l) (flat_map locations_at ds) (flat_map located_names t.located) (flat_map channels_at ds) (flat_map channels_at ls) q) in
      let h = bodies-after base t blank l f z in
      brackets-roomy t.located (behind t) (part_count t - size_defs t.defs) (defined base t) h.went.making (behind-is t.defs (top t) (part_count t) refl) (omega arith) (omega arith) f.located-well z r.1
      (fits-rest (headed base t blank l) (defined base t) (flat_map locations_at ds) (flat_map located_names t.located) (flat_map channels_at ds) (flat_map channels_at ls) h.numbered q)

  -- the word 4 unset
  clear-channels : word (script_of base t) 4 ≡ 0 → length (channels t) ≤ 64
  unfolding chans_of
  clear-channels z =
      let h = whole base t blank l f z in
      let m = h.making.chans in
      omega (arith, ap length (sym h.chans), length-list_from (chan_name (script_of base t)) 0 (word (script_of base t) 2))

  clear-locations : word (script_of base t) 4 ≡ 0 → length (locations t) ≤ 64
  unfolding locs_of
  clear-locations z =
      let h = whole base t blank l f z in
      let m = h.making.locs in
      omega (arith, ap length (sym h.locs), length-list_from (loc_name (script_of base t)) 0 (word (script_of base t) 1))

  clear-scopes : word (script_of base t) 4 ≡ 0 → scope_size t ≤ 8
  unfolding scope_size places
  clear-scopes z =
      let h = whole base t blank l f z in
      most-few _ (every_append few8 (flat_map def_places t.defs) (flat_map located_places t.located) (defs-few (script_of base t) t.defs 0 (top t) h.bodies) (located-few (script_of base t) t.located (behind t) h.located))

  fits-clear : fits t ≡ true → word (script_of base t) 4 ≡ 0
  unfolding fits
  fits-clear e =
      let first : Bool = leb (definition_count t) 32 && leb (parameter_count t) 4 && leb (part_count t) 4_096 in
      let s = and-inv (first && leb (length (channels t)) 64 && leb (length (locations t)) 64 && leb (component_count t) 256) (leb (scope_size t) 8) e in
      let m = and-inv (first && leb (length (channels t)) 64 && leb (length (locations t)) 64) (leb (component_count t) 256) s.0 in
      let b = and-inv (first && leb (length (channels t)) 64) (leb (length (locations t)) 64) m.0 in
      let c = and-inv first (leb (length (channels t)) 64) b.0 in
      room-clear (leb-true _ 64 c.1) (leb-true _ 64 b.1) (leb-true _ 8 s.1)

  clear-fits : word (script_of base t) 4 ≡ 0 → fits t ≡ true
  unfolding fits
  clear-fits z =
      and_in _ _ (and_in _ _ (and_in _ _ (and_in _ _ (and_in _ _ (and_in _ _ (le-leb _ 32 l.definitions) (le-leb _ 4 l.parameters)) (le-leb _ 4_096 l.parts))
      (le-leb _ 64 (clear-channels z))) (le-leb _ 64 (clear-locations z))) (le-leb _ 256 l.components)) (le-leb _ 8 (clear-scopes z))

  -- question 4
  pub roomy-is : fits t ≡ roomy (script_of base t)
  unfolding roomy
  roomy-is = go (fits t) refl (eqb (word (script_of base t) 4) 0) refl
    where
      go : (a : Bool) → fits t ≡ a → (b : Bool) → eqb (word (script_of base t) 4) 0 ≡ b → a ≡ b
      go true p true q = refl
      go false p false q = refl
      go true p false q = sym (eq-eqb (word (script_of base t) 4) 0 (fits-clear p)) ∙ q
      go false p true q = sym p ∙ clear-fits (eqb-true (word (script_of base t) 4) 0 q)
