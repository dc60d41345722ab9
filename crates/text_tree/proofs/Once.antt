-- Names numbered by first place are held once, and have the form that all of them have. The places of a well-formed text hold names of their forms.
-- By induction on the process; of a list of names by Into of the crate text_build.
use Prim.Native.Nat.{ℕ, suc}
use mathlib.Core.List.{List, [], ◌∷◌, ◌++◌, flat_map}
use mathlib.Core.Bool.{true}
use mathlib.Core.Path.{◌≡◌, refl}
use Rattle.terms.specs.Names.{Name}
use Rattle.terms.specs.Terms.{Value, Part, Process, Def}
use Rattle.terms.specs.Terms.Value.{loc, var}
use Rattle.terms.specs.Terms.Part.{stop, go, out, inp, call}
use Rattle.terms.specs.Terms.Process.{one, ◌∥◌}
use Rattle.terms.specs.Terms.Def.{define}
use Rattle.terms.specs.Same.{every}
use Rattle.terms.proofs.Names.{and_in}
use Rattle.terms.specs.Letters.{is_location, is_small, distinct}
use Rattle.text.specs.Tree.{Located, Tree}
use Rattle.text.specs.Tree.Located.{at}
use Rattle.text.specs.WellFormed.{Each, WellValue, WellPart, WellProcess, WellDef, WellLocated, WellTree}
use Rattle.text.specs.Questions.{Place, into, part_places, process_places, def_places, located_places, places, channels_at, loc_of, locations_at, located_names, channels, locations}
use Rattle.text.proofs.Gives.{each_append}
use Rattle.table.proofs.Tests.{every_append}
use Rattle.text_build.proofs.Into.{firsts-differ, firsts-every}

-- ── the names of places ──
abbrev WellPlaces : List Place → Type 0
WellPlaces xs = Each (λ x. WellPart x.part) xs

well-append : (xs ys : List Place) → WellPlaces xs → WellPlaces ys → WellPlaces (xs ++ ys)
well-append xs ys a b = each_append (λ x. WellPart x.part) xs ys a b

mutual
  unfolding part_places process_places

  part-well : (a : Part) (d : ℕ) (ys : List Name) → WellPart a → WellPlaces (part_places a d ys)
  part-well stop d ys f = (f, tt)
  part-well (go t v p) d ys f = (f, process-well p (suc d) ys f.2)
  part-well (out c t v p q) d ys f = (f, well-append (process_places p (suc d) ys) _ (process-well p (suc d) ys f.3) (process-well q (suc d) ys f.4))
  part-well (inp c t y p q) d ys f = (f, well-append (process_places p (suc d) (into ys y)) _ (process-well p (suc d) (into ys y) f.3) (process-well q (suc d) ys f.4))
  part-well (call i vs) d ys f = (f, tt)

  process-well : (p : Process) (d : ℕ) (ys : List Name) → WellProcess p → WellPlaces (process_places p d ys)
  process-well (one a) d ys f = part-well a d ys f
  process-well (a ∥ p) d ys f = well-append (part_places a d ys) _ (part-well a d ys f.0) (process-well p d ys f.1)

defs-well : (ds : List Def) → Each WellDef ds → WellPlaces (flat_map def_places ds)
unfolding flat_map def_places
defs-well [] f = tt
defs-well (define x us p ∷ ds) f = well-append (def_places (define x us p)) _ (process-well p 1 _ f.0.2) (defs-well ds f.1)

located-well : (ls : List Located) → Each WellLocated ls → WellPlaces (flat_map located_places ls)
unfolding flat_map located_places
located-well [] f = tt
located-well (at l p ∷ ls) f = well-append (located_places (at l p)) _ (process-well p 1 [] f.0.1) (located-well ls f.1)

value-form : (v : Value) → WellValue v → every is_location (loc_of v) ≡ true
unfolding loc_of every
value-form (loc l) f = and_in _ _ f refl
value-form (var x) f = refl

values-form : (vs : List Value) → Each WellValue vs → every is_location (flat_map loc_of vs) ≡ true
unfolding flat_map every
values-form [] f = refl
values-form (v ∷ vs) f = every_append is_location (loc_of v) (flat_map loc_of vs) (value-form v f.0) (values-form vs f.1)

place-locations : (a : Part) (d : ℕ) (ys : List Name) → WellPart a → every is_location (locations_at (record { depth = d; scope = ys; part = a })) ≡ true
unfolding locations_at flat_map every
place-locations stop d ys f = refl
place-locations (go t v p) d ys f = values-form (v ∷ []) (f.1, tt)
place-locations (out c t v p q) d ys f = values-form (v ∷ []) (f.2, tt)
place-locations (inp c t y p q) d ys f = refl
place-locations (call i vs) d ys f = values-form vs f.1

place-channels : (a : Part) (d : ℕ) (ys : List Name) → WellPart a → every is_small (channels_at (record { depth = d; scope = ys; part = a })) ≡ true
unfolding channels_at every
place-channels stop d ys f = refl
place-channels (go t v p) d ys f = refl
place-channels (out c t v p q) d ys f = and_in _ _ f.0 refl
place-channels (inp c t y p q) d ys f = and_in _ _ f.0 refl
place-channels (call i vs) d ys f = refl

locations-form : (xs : List Place) → WellPlaces xs → every is_location (flat_map locations_at xs) ≡ true
unfolding flat_map every
locations-form [] f = refl
locations-form (x ∷ xs) f = every_append is_location (locations_at x) (flat_map locations_at xs) (place-locations x.part x.depth x.scope f.0) (locations-form xs f.1)

channels-form : (xs : List Place) → WellPlaces xs → every is_small (flat_map channels_at xs) ≡ true
unfolding flat_map every
channels-form [] f = refl
channels-form (x ∷ xs) f = every_append is_small (channels_at x) (flat_map channels_at xs) (place-channels x.part x.depth x.scope f.0) (channels-form xs f.1)

located-form : (ls : List Located) → Each WellLocated ls → every is_location (flat_map located_names ls) ≡ true
unfolding flat_map every located_names located_places
located-form [] f = refl
located-form (at l p ∷ ls) f =
    every_append is_location (located_names (at l p)) (flat_map located_names ls) (and_in _ _ f.0.0 (locations-form (process_places p 1 []) (process-well p 1 [] f.0.1))) (located-form ls f.1)

-- ── the names of a text ──
module _ (t : Tree) (f : WellTree t) where
  pub locations-well : every is_location (locations t) ≡ true
  unfolding locations every
  locations-well =
      firsts-every is_location _ [] refl
      (every_append is_location (flat_map locations_at (flat_map def_places t.defs)) _ (locations-form _ (defs-well t.defs f.defs-well)) (located-form t.located f.located-well))

  pub channels-well : every is_small (channels t) ≡ true
  unfolding channels places every
  channels-well = firsts-every is_small _ [] refl (channels-form _ (well-append (flat_map def_places t.defs) _ (defs-well t.defs f.defs-well) (located-well t.located f.located-well)))

  pub locations-differ : distinct (locations t) ≡ true
  unfolding locations distinct
  locations-differ = firsts-differ _ [] refl

  pub channels-differ : distinct (channels t) ≡ true
  unfolding channels distinct
  channels-differ = firsts-differ _ [] refl
