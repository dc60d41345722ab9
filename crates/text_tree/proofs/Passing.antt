-- What stands after reading passes question 17, once questions 5, 6 and 7 are answered by yes: names are held once and have their forms, each definition's
-- parameters are what is in scope in its body, each row passes its local tests. By induction on the definitions and the located processes.
use Prim.Native.Nat.{ℕ, zero, suc, ◌+◌, ◌-◌, ◌≤◌, ◌<◌}
use native.Mathlib.Omega.{arith}
use mathlib.Core.List.{List, [], ◌∷◌, map, flat_map}
use mathlib.Core.Bool.{Bool, true}
use mathlib.Core.Path.{◌≡◌, refl, ap, sym, ◌∙◌}
use borrow.Author.Tests.{lt-ltb, le-leb}
use lib.ListN.{length}
use Rattle.terms.specs.Names.{Name}
use Rattle.terms.specs.Terms.{Process, Def}
use Rattle.terms.specs.Terms.Def.{define}
use Rattle.terms.specs.Same.{every}
use Rattle.terms.proofs.Names.{and-inv, and_in}
use Rattle.terms.specs.Clock.{is_edition}
use Rattle.terms.specs.Letters.{is_location, is_small, is_identifier, distinct}
use Rattle.text.specs.Tree.{Located, Tree}
use Rattle.text.specs.Tree.Located.{at}
use Rattle.text.specs.WellFormed.{Is, Each, WellDef, WellTree}
use Rattle.text.specs.Questions as Q
use Rattle.text.specs.Questions.{params, identifier, firsts, def_places, located_places, places, part_count, definition_count}
use Rattle.table.specs.Words.{word, parts_in, locs_in, chans_in, defs_in, edition_in, loc_name, chan_name, def_name, body_of}
use Rattle.table.specs.Meaning.{list_from, process_at, def_of, defs_of}
use Rattle.table.specs.Valid.{below, sort_ok, def_ok, part_ok, script_ok}
use Rattle.table.specs.Size.{size_p}
use Rattle.table.proofs.ValidLists.{below_all, alike_all}
use Rattle.text_build.specs.Rows.{locs_of, chans_of, scope_names, place_known}
use Rattle.text_build.specs.Put.{offsets}
use Rattle.text_build.proofs.Places.{Fit, every-split, size_p-some}
use Rattle.text_build.proofs.RowWords.{side}
use Rattle.text_build.proofs.Stands.{process-means}
use Rattle.text_build.proofs.Passes.{GoodScope, no-scope, stands-scope, pass}
use Rattle.text_build.proofs.Into.{firsts-differ, firsts-every}
use Rattle.text_tree.specs.Pass.{Within, param_scope, top, behind}
use Rattle.text_tree.proofs.Whole.{Whole, DefStands, DefsStand, AllStand}
use Rattle.text_tree.proofs.Sizes.{size_defs, size_located, parts_are, behind-is}
use Rattle.text_tree.proofs.Once.{locations-well, channels-well, locations-differ, channels-differ}
use Rattle.text_tree.proofs.Heads.{HeadStands, FewParams}
use Rattle.text_tree.proofs.Params.{param-offsets}
use Rattle.text_tree.proofs.Reading.{few-params}

-- ── names ──
sort-ok : (f : Name → Bool) (xs : List Name) → every f xs ≡ true → distinct xs ≡ true → sort_ok f xs ≡ true
unfolding sort_ok
sort-ok f xs a b = and_in _ _ a b

ids-are : (w : List ℕ) (ds : List Def) (k i : ℕ) → DefsStand w ds k i → list_from k (length ds) (def_name w) ≡ map identifier ds
unfolding list_from
ids-are w [] k i d = refl
ids-are w (define x us p ∷ ds) k i d =
    let e : k + 1 ≡ suc k = omega arith in
    rw d.0.name (ap (λ l. x ∷ l) (ap (λ n. list_from n (length ds) (def_name w)) (sym e) ∙ ids-are w ds (k + 1) (i - size_p p) d.1))

ids-form : (ds : List Def) → Each WellDef ds → every is_identifier (map identifier ds) ≡ true
unfolding every
ids-form [] f = refl
ids-form (define x us p ∷ ds) f = and_in _ _ f.0.0 (ids-form ds f.1)

small-form : (us : List Name) → Each (Is is_small) us → every is_small us ≡ true
unfolding every
small-form [] f = refl
small-form (u ∷ us) f = and_in _ _ f.0 (small-form us f.1)

module _ (w : List ℕ) (few : locs_in w ≤ 64) where
  -- ── definitions ──
  def-known : (x : Name) (us : List Name) (p : Process) (k i : ℕ) → DefStands w x us p k i → every (place_known w) (def_places (define x us p)) ≡ true
      → Fit (place_known w) p 1 (scope_names w (offsets (param_scope w k)))
  unfolding def_places
  def-known x us p k i d e = rw d.scope e

  -- each definition is what its place in the table means
  pub defs-mean : (ds : List Def) (k i : ℕ) → DefsStand w ds k i → every (place_known w) (flat_map def_places ds) ≡ true → list_from k (length ds) (def_of w) ≡ ds
  unfolding list_from flat_map def_of
  defs-mean [] k i d e = refl
  defs-mean (define x us p ∷ ds) k i d e =
      let q : k + 1 ≡ suc k = omega arith in
      let s = every-split (place_known w) (def_places (define x us p)) (flat_map def_places ds) e in
      let b : process_at w i ≡ p = process-means w few p i 1 (offsets (param_scope w k)) d.0.stands d.0.room (def-known x us p k i d.0 s.0) in
      rw (d.0.name, d.0.params, d.0.body, b) (ap (λ l. define x us p ∷ l) (ap (λ n. list_from n (length ds) (def_of w)) (sym q) ∙ defs-mean ds (k + 1) (i - size_p p) d.1 s.1))

  -- the parameters in scope, each once
  params-good : (x : Name) (us : List Name) (p : Process) (k i : ℕ) → WellDef (define x us p) → DefStands w x us p k i → GoodScope w (offsets (param_scope w k))
  unfolding every distinct
  params-good x us p k i f d = record { inside = d.within; names = rw d.scope (sort-ok is_small (firsts [] us) (firsts-every is_small us [] refl (small-form us f.1)) (firsts-differ us [] refl)) }

  -- n places being left, the rows of the bodies pass
  defs-pass : (ds : List Def) (k i n : ℕ) → i ≡ n - 1 → size_defs ds ≤ n → n ≤ 4_096 → Each WellDef ds → DefsStand w ds k i → every (place_known w) (flat_map def_places ds) ≡ true
      → (j : ℕ) → n - size_defs ds ≤ j → j < n → part_ok w j ≡ true
  unfolding size_defs flat_map
  defs-pass [] k i n q z t f d e j a b = absurd (omega arith)
  defs-pass (define x us p ∷ ds) k i n q z t f d e j a b =
      let r = size_p-some p in
      let s = every-split (place_known w) (def_places (define x us p)) (flat_map def_places ds) e in
      side j (n - size_p p)
      (λ l. defs-pass ds (k + 1) (i - size_p p) (n - size_p p) (omega arith) (omega arith) (omega arith) f.1 d.1 s.1 j (omega arith) l)
      (λ l. pass w few p i 1 (offsets (param_scope w k)) d.0.stands d.0.room (omega arith) (def-known x us p k i d.0 s.0) (params-good x us p k i f.0 d.0) j (omega arith) (omega arith))

  all_pass : (ls : List Located) (i n : ℕ) → i ≡ n - 1 → size_located ls ≤ n → n ≤ 4_096 → AllStand w ls i → every (place_known w) (flat_map located_places ls) ≡ true
      → (j : ℕ) → n - size_located ls ≤ j → j < n → part_ok w j ≡ true
  unfolding size_located flat_map located_places every
  all_pass [] i n q z t d e j a b = absurd (omega arith)
  all_pass (at l p ∷ ls) i n q z t d e j a b =
      let r = size_p-some p in
      let s = every-split (place_known w) (located_places (at l p)) (flat_map located_places ls) e in
      side j (n - size_p p)
      (λ h. all_pass ls (i - size_p p) (n - size_p p) (omega arith) (omega arith) (omega arith) d.1 s.1 j (omega arith) h)
      (λ h. pass w few p i 1 [] d.0.stands d.0.room (omega arith) s.0 (no-scope w) j (omega arith) (omega arith))

  -- one definition: different parameters, at most 4, which are what is in scope in its body
  def-ok : (x : Name) (us : List Name) (p : Process) (k i : ℕ) → k < 32 → length us ≤ 4 → i < parts_in w → WellDef (define x us p) → distinct us ≡ true → DefStands w x us p k i → def_ok w k ≡ true
  unfolding def_ok
  def-ok x us p k i c n b f e d =
      let h : HeadStands w x us k i = record { name = d.name; arity = d.arity; body = d.body; params = d.params } in
      rw (stands-scope w p (body_of w k) (offsets (param_scope w k)) (rw d.body d.stands), param-offsets w x us k i c n h e, d.arity, d.body, d.params)
      (and_in _ _ (le-leb (length us) 4 n) (and_in _ _ (lt-ltb i (parts_in w) b) (and_in _ _ (alike_all _ _ refl (λ m q. refl)) (and_in _ _ (small-form us f.1) e))))

  defs-ok : (ds : List Def) (k i n : ℕ) → i ≡ n - 1 → size_defs ds ≤ n → n ≤ parts_in w → k + length ds ≤ 32 → FewParams ds → Each WellDef ds → every (λ d. distinct (params d)) ds ≡ true
      → DefsStand w ds k i
      → (j : ℕ) → j < length ds → def_ok w (k + j) ≡ true
  unfolding size_defs every
  defs-ok [] k i n q z t c m f e d j h = absurd (omega arith)
  defs-ok (define x us p ∷ ds) k i n q z t c m f e d zero h =
      let r = size_p-some p in
      let s = and-inv (distinct us) _ e in
      let y : k + 0 ≡ k = omega arith in
      rw y (def-ok x us p k i (omega arith) m.0 (omega arith) f.0 s.0 d.0)
  defs-ok (define x us p ∷ ds) k i n q z t c m f e d (suc j) h =
      let s = and-inv (distinct us) _ e in
      let y : k + suc j ≡ k + 1 + j = omega arith in
      rw y (defs-ok ds (k + 1) (i - size_p p) (n - size_p p) (omega arith) (omega arith) (omega arith) (omega arith) m.1 f.1 s.1 d.1 j (omega arith))

-- ── the whole script ──
module _ (t : Tree) (w : List ℕ) (h : Whole t w) (f : WellTree t) (l : Within t) (e : Q.defined_once t.defs ≡ true) (k : every (place_known w) (places t) ≡ true) where
  pub known-defs : every (place_known w) (flat_map def_places t.defs) ≡ true
  unfolding places
  known-defs = (every-split (place_known w) (flat_map def_places t.defs) _ k).0

  pub known-located : every (place_known w) (flat_map located_places t.located) ≡ true
  unfolding places
  known-located = (every-split (place_known w) (flat_map def_places t.defs) _ k).1

  defs_count : word w 3 ≡ length t.defs
  unfolding definition_count
  defs_count = h.defs

  params-few : FewParams t.defs
  unfolding Q.parameter_count
  params-few = few-params t.defs l.parameters

  locs-ok : sort_ok is_location (list_from 0 (locs_in w) (loc_name w)) ≡ true
  unfolding locs_of
  locs-ok = let q : list_from 0 (locs_in w) (loc_name w) ≡ Q.locations t = h.locs in rw q (sort-ok is_location (Q.locations t) (locations-well t f) (locations-differ t f))

  chans-ok : sort_ok is_small (list_from 0 (chans_in w) (chan_name w)) ≡ true
  unfolding chans_of
  chans-ok = let q : list_from 0 (chans_in w) (chan_name w) ≡ Q.channels t = h.chans in rw q (sort-ok is_small (Q.channels t) (channels-well t f) (channels-differ t f))

  ids-ok : sort_ok is_identifier (list_from 0 (defs_in w) (def_name w)) ≡ true
  unfolding Q.defined_once
  ids-ok =
      let s = and-inv (distinct (map identifier t.defs)) _ e in
      let q : list_from 0 (defs_in w) (def_name w) ≡ map identifier t.defs = ap (λ n. list_from 0 n (def_name w)) defs_count ∙ ids-are w t.defs 0 (top t) h.bodies in
      rw q (sort-ok is_identifier (map identifier t.defs) (ids-form t.defs f.defs-well) s.0)

  each-def : below (defs_in w) (def_ok w) ≡ true
  unfolding Q.defined_once
  each-def =
      let s = and-inv (distinct (map identifier t.defs)) _ e in
      let z = parts_are t in
      let p = h.parts in
      let m = h.making.defs in
      let c = defs_count in
      below_all (def_ok w) (defs_in w)
      (λ j b.
      let o : 0 + j ≡ j = omega arith in
      rw o at (defs-ok w h.making.locs t.defs 0 (top t) (part_count t) refl (omega arith) (omega arith) (omega arith) params-few f.defs-well s.1 h.bodies j (omega arith)))

  each_part : below (parts_in w) (part_ok w) ≡ true
  each_part =
      let z = parts_are t in
      let p = h.parts in
      let m = h.few in
      let n = size_defs t.defs in
      below_all (part_ok w) (parts_in w)
      (λ j b. side j (part_count t - size_defs t.defs)
      (λ a. all_pass w h.making.locs t.located (behind t) (part_count t - size_defs t.defs) (behind-is t.defs (top t) (part_count t) refl) (omega arith) (omega arith) h.located known-located j (omega arith) a)
      (λ a. defs-pass w h.making.locs t.defs 0 (top t) (part_count t) refl (omega arith) m f.defs-well h.bodies known-defs j a (omega arith)))

  -- the script passes question 17, if its edition does
  pub script-ok : is_edition (edition_in w) ≡ true → script_ok w ≡ true
  unfolding script_ok
  script-ok g =
      let p = h.parts in
      let m = h.few in
      and_in _ _ (and_in _ _ (le-leb (parts_in w) 4_096 (omega arith)) (and_in _ _ (le-leb (locs_in w) 64 h.making.locs) (and_in _ _ (le-leb (chans_in w) 64 h.making.chans) (and_in _ _ (le-leb (defs_in w) 32 h.making.defs) g))))
      (and_in _ _ locs-ok (and_in _ _ chans-ok (and_in _ _ ids-ok (and_in _ _ each-def each_part))))

  -- its definitions are those of the text
  pub defs-are : defs_of w ≡ t.defs
  unfolding defs_of
  defs-are = ap (λ n. list_from 0 n (def_of w)) defs_count ∙ defs-mean w h.making.locs t.defs 0 (top t) h.bodies known-defs
