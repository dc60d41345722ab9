-- A table that passes question 17 stands for a network of which 5, 6 and 7 hold, and which can be written if it has no mark: `back-sound`, `back-writable`.
-- By what holds of the process at a place: a definition's body has its parameters in scope, and a component has a location for each name in scope.
use Prim.Native.Nat.{ℕ, zero, suc, ◌+◌, ◌<◌}
use native.Mathlib.Omega.{arith}
use mathlib.Core.List.{List, [], ◌∷◌, map, flat_map}
use mathlib.Core.Bool.{Bool, true, false, cond, not}
use mathlib.Core.Path.{◌≡◌, refl, ap, sym, ◌∙◌}
use lib.Dec.{ltb}
use lib.ListN.{length, length-map}
use borrow.Author.Tests.{not-true}
use Rattle.terms.specs.Same.{every}
use Rattle.terms.specs.Rules.{unmarked}
use Rattle.terms.specs.Terms.Process.{one}
use Rattle.terms.specs.Clock.{ticks_of}
use Rattle.terms.specs.Substitution.{sub, sub_p}
use Rattle.terms.proofs.Names.{and-inv, and_in}
use Rattle.terms.proofs.Substitution.{empty, none-in_p}
use Rattle.terms.specs.Letters.{is_small, is_identifier, distinct}
use Rattle.text.specs.WellFormed.{Each, NonEmpty, WellDef, WellComponent, Writable}
use Rattle.text.specs.Questions.{Place, firsts, def_places, component_places, network_places, identifier, params, defined_once, call_met, bound_at, Sound}
use Rattle.table.specs.declared.Comp.{Comp}
use Rattle.table.specs.declared.State.{State}
use Rattle.table.specs.Words.{defs_in, name_at, loc_name, body_of, def_name, params_of, names_at}
use Rattle.table.specs.Meaning.{process_at, part_at, list_from, def_of, defs_of, with_timer, env_at, process_of, means, comps_of, net_of, network_of}
use Rattle.table.specs.Valid.{sort_ok, script_ok, comp_ok, valid}
use Rattle.table.proofs.Tests.{script-fine, def-fine, comp-fine, every_append}
use Rattle.table.proofs.Splits.{unmarked-is}
use Rattle.table.proofs.Fires.{scope-length, names-length}
use Rattle.text_network.specs.Text.{no_mark}
use Rattle.table.proofs.InUse.{valid-script, valid-state, comps-length}
use Rattle.text_network.proofs.Networks.{unmarked-table}
use Rattle.text_back.proofs.Scope.{Covers, covers-none, covers-all, each-with, each_both, each-every, loc-form, loc-forms}
use Rattle.text_back.proofs.Process.{FinePart, FineProcess, fine-one, fine-timer, timer-well, def-form, process-fits, part-at-fits}

-- ── lists ──
each_from : {A : Type 0} (P : A → Type 0) (g : ℕ → A) (k n : ℕ) → ((m : ℕ) → m < k + n → P (g m)) → Each P (list_from k n g)
unfolding list_from
each_from P g k zero f = tt
each_from P g k (suc n) f = (f k (omega arith), each_from P g (suc k) n (λ m h. f m (omega arith)))

each-mapped : {A B : Type 0} (P : B → Type 0) (f : A → B) (xs : List A) → Each (λ x. P (f x)) xs → Each P (map f xs)
each-mapped P f [] p = tt
each-mapped P f (x ∷ xs) p = (p.0, each-mapped P f xs p.1)

every-each : {A : Type 0} (f : A → Bool) (xs : List A) → Each (λ x. f x ≡ true) xs → every f xs ≡ true
unfolding every
every-each f [] p = refl
every-each f (x ∷ xs) p = and_in _ _ p.0 (every-each f xs p.1)

every-flat : {A B : Type 0} (f : B → Bool) (g : A → List B) (xs : List A) → Each (λ x. every f (g x) ≡ true) xs → every f (flat_map g xs) ≡ true
unfolding flat_map every
every-flat f g [] p = refl
every-flat f g (x ∷ xs) p = every_append f (g x) (flat_map g xs) p.0 (every-flat f g xs p.1)

map-from : {A B : Type 0} (f : A → B) (g : ℕ → A) (k n : ℕ) → map f (list_from k n g) ≡ list_from k n (λ m. f (g m))
unfolding list_from
map-from f g k zero = refl
map-from f g k (suc n) = rw (map-from f g (suc k) n)

some_one : {A : Type 0} (xs : List A) → 0 < length xs → NonEmpty xs
some_one [] h = absurd (omega arith)
some_one (x ∷ xs) h = tt

-- what holds of every place of a list of processes
abbrev Fine : List ℕ → List Place → Type 0
Fine w xs = (every (call_met (defs_of w)) xs ≡ true) × (every bound_at xs ≡ true)

module _ (w : List ℕ) (good : script_ok w ≡ true) where
  -- ── definitions ──
  body-fits : (d : ℕ) → d < defs_in w → FineProcess (defs_of w) 1 (firsts [] (params_of w d)) (process_at w (body_of w d))
  body-fits d h =
      let r = def-fine w good d h in
      let names : names_at w (body_of w d) ≡ params_of w d = unfold names_at params_of in ap (map (name_at w)) r.scope in
      let c : Covers (firsts [] (params_of w d)) empty (names_at w (body_of w d)) = rw names (covers-none (params_of w d) r.forms) in
      rw none-in_p at (process-fits w good (body_of w d) r.body (firsts [] (params_of w d)) empty c 1)

  def-well : (d : ℕ) → d < defs_in w → WellDef (def_of w d)
  unfolding def_of
  def-well d h =
      let r = def-fine w good d h in
      (def-form w good d h, each-every is_small (params_of w d) r.forms, (body-fits d h).well)

  defs-well : Each WellDef (defs_of w)
  unfolding defs_of
  defs-well = each_from WellDef (def_of w) 0 (defs_in w) (λ d h. def-well d (omega arith))

  def-places : (d : ℕ) → d < defs_in w → Fine w (def_places (def_of w d))
  unfolding def_of def_places
  def-places d h = let f = body-fits d h in (f.met, f.closed)

  defs-places : Each (λ x. Fine w (def_places x)) (defs_of w)
  defs-places = unfold defs_of in each_from (λ x. Fine w (def_places x)) (def_of w) 0 (defs_in w) (λ d h. def-places d (omega arith))

  -- 5: the names of definitions are held once, and so are the parameters of each
  names-differ : distinct (map identifier (defs_of w)) ≡ true
  unfolding defs_of sort_ok
  names-differ =
      let s = and-inv (every is_identifier (list_from 0 (defs_in w) (def_name w))) _ (script-fine w good).def-names in
      let e : map identifier (list_from 0 (defs_in w) (def_of w)) ≡ list_from 0 (defs_in w) (def_name w) = unfold def_of in map-from identifier (def_of w) 0 (defs_in w) in
      rw e s.1

  params-differ : (d : ℕ) → d < defs_in w → distinct (params (def_of w d)) ≡ true
  unfolding def_of
  params-differ d h = (def-fine w good d h).differ

  defs-distinct : defined_once (defs_of w) ≡ true
  unfolding defined_once
  defs-distinct =
      and_in _ _ names-differ
      (every-each (λ x. distinct (params x)) (defs_of w) (unfold defs_of in each_from (λ x. distinct (params x) ≡ true) (def_of w) 0 (defs_in w) (λ d h. params-differ d (omega arith))))

  -- ── components ──
  module _ (c : Comp) (fine : comp_ok w c ≡ true) where
    covered : Covers [] (env_at w c.place c.vals) (names_at w c.place)
    unfolding env_at
    covered =
        let f = comp-fine w c fine in
        covers-all (names_at w c.place) (map (loc_name w) c.vals) (loc-forms w good c.vals f.vals)
        (omega (arith, length-map c.vals (loc_name w), f.slots, names-length w c.place, scope-length w c.place))

    -- the part of an unmarked component
    part-fits : FinePart (defs_of w) 1 [] (with_timer (ticks_of c.timer) (sub (part_at w c.place) (env_at w c.place c.vals)))
    part-fits =
        fine-timer (defs_of w) 1 [] (ticks_of c.timer) _ (timer-well c.timer)
        (part-at-fits w good c.place (comp-fine w c fine).place [] (env_at w c.place c.vals) covered 1)

    comp-well : ltb c.mark 64 ≡ false → WellComponent (means w c)
    comp-well e = rw (unmarked-is w c e) (loc-form w good c.loc (comp-fine w c fine).loc, part-fits.well)

    process-of-fits : FineProcess (defs_of w) 1 [] (process_of w c)
    unfolding process_of
    process-of-fits = go (ltb c.mark 64)
      where
        go : (b : Bool) → FineProcess (defs_of w) 1 [] (cond b (sub_p (process_at w c.place) (env_at w c.place c.vals)) (one (with_timer (ticks_of c.timer) (sub (part_at w c.place) (env_at w c.place c.vals)))))
        go true = process-fits w good c.place (comp-fine w c fine).place [] (env_at w c.place c.vals) covered 1
        go false = fine-one (defs_of w) 1 [] _ part-fits

    comp-places : Fine w (component_places (means w c))
    unfolding means component_places
    comp-places = (process-of-fits.met, process-of-fits.closed)

-- ── the network ──
module _ (w : List ℕ) (st : State) (v : valid w st ≡ true) where
  comps-places : Each (λ x. Fine w (component_places x)) (net_of w st)
  unfolding net_of
  comps-places =
      each-mapped (λ x. Fine w (component_places x)) (means w) (comps_of st)
      (each-with (comp-places w (valid-script w st v)) (comps_of st) (each-every (comp_ok w) (comps_of st) (valid-state w st v).each))

  -- the places of all definitions and components
  every-place : (f : Place → Bool) → ((xs : List Place) → Fine w xs → every f xs ≡ true) → every f (network_places (network_of w st)) ≡ true
  unfolding network_places network_of
  every-place f g =
      every_append f (flat_map def_places (defs_of w)) (flat_map component_places (net_of w st))
      (every-flat f def_places (defs_of w) (each-with (λ x. g (def_places x)) (defs_of w) (defs-places w (valid-script w st v))))
      (every-flat f component_places (net_of w st) (each-with (λ x. g (component_places x)) (net_of w st) comps-places))

  -- 5, 6 and 7 hold of the network, marked or not
  pub back-sound : Sound (network_of w st)
  unfolding network_of
  back-sound = record {
    once = defs-distinct w (valid-script w st v);
    defined = every-place (call_met (defs_of w)) (λ xs f. f.0);
    closed = every-place bound_at (λ xs f. f.1);
  }

  -- the components in use all stand in the array
  module _ (u : every unmarked (net_of w st) ≡ true) where
    unmarked-each : Each (λ c. not (ltb c.mark 64) ≡ true) (comps_of st)
    unmarked-each = each-every (λ c. not (ltb c.mark 64)) (comps_of st) (sym (unmarked-table w st) ∙ (unfold no_mark in u))

    comps-well : Each WellComponent (net_of w st)
    unfolding net_of
    comps-well =
        each-mapped WellComponent (means w) (comps_of st)
        (each-with (λ c r. comp-well w (valid-script w st v) c r.0 (not-true (ltb c.mark 64) r.1)) (comps_of st)
        (each_both _ _ (comps_of st) (each-every (comp_ok w) (comps_of st) (valid-state w st v).each) unmarked-each))

    -- without a mark the network can be written
    pub back-writable : Writable (network_of w st)
    unfolding network_of
    back-writable = record {
      defs-well = defs-well w (valid-script w st v);
      comps-well = comps-well;
      some-comps = unfold net_of in some_one (map (means w) (comps_of st)) (omega (arith, length-map (comps_of st) (means w), comps-length st, (valid-state w st v).some));
    }
