-- Once questions 5, 6 and 7 are answered by yes, the script holds what every place of the text needs (`place_known`).
-- Timers and names have their forms by reading; locations and channels are in the tables; calls and variables are found by the questions.
use Prim.Native.Nat.{ℕ, suc, ◌≤◌, min}
use native.Mathlib.Omega.{arith}
use mathlib.Core.List.{List, [], ◌∷◌, flat_map}
use mathlib.Core.Bool.{Bool, true, ◌&&◌}
use mathlib.Core.Path.{◌≡◌, refl, sym, ◌∙◌}
use lib.Dec.{ltb}
use lib.ListN.{length}
use borrow.Author.Tests.{eqb-true, eq-eqb, le-leb}
use Rattle.terms.specs.Names.{Name}
use Rattle.terms.specs.Terms.{Timer, Value, Part, Process, Def}
use Rattle.terms.specs.Terms.Timer.{ticks, inf}
use Rattle.terms.specs.Terms.Value.{loc, var}
use Rattle.terms.specs.Terms.Part.{stop, go, out, inp, call}
use Rattle.terms.specs.Terms.Process.{one, ◌∥◌}
use Rattle.terms.specs.Terms.Def.{define}
use Rattle.terms.specs.Same.{every}
use Rattle.terms.proofs.Names.{and-inv, and_in}
use Rattle.terms.specs.Letters.{is_small}
use Rattle.text.specs.Tree.{Located, Tree}
use Rattle.text.specs.Tree.Located.{at}
use Rattle.text.specs.WellFormed.{Each, WellTimer, WellPart, WellProcess, WellDef, WellLocated, WellTree}
use Rattle.text.specs.Questions.{Place, into, firsts, part_places, process_places, def_places, located_places, places, parameter_count, defined_once, call_met, calls_met, bound_in, bound_at, bound}
use Rattle.text.proofs.Digits.{every_map}
use Rattle.table.specs.Words.{defs_in, arity_of}
use Rattle.table.specs.Valid.{index}
use Rattle.table.proofs.Tests.{every_append}
use Rattle.text_build.specs.Rows.{ids_of, timed, value_known, chan_known, call_known, part_known, place_known}
use Rattle.text_build.specs.Growth.{loc_listed, value_listed, part_listed, place_listed}
use Rattle.text_build.proofs.Places.{PartFit, Fit}
use Rattle.text_build.proofs.Numbers.{member-index}
use Rattle.text_tree.proofs.Whole.{Whole}
use Rattle.text_tree.proofs.AskedPlaces.{all_listed}
use Rattle.text_tree.proofs.AskedCalls.{call-is}
use Rattle.text_tree.proofs.AskedBound.{every-both, few-met}

-- ── forms ──
-- the timer of a place, and the name that it binds
abbrev formed : Part → Bool
formed stop = true
formed (go t v p) = timed t
formed (out c t v p q) = timed t
formed (inp c t y p q) = timed t && is_small y
formed (call x vs) = true

abbrev formed_at : Place → Bool
formed_at x = formed x.part

timer-formed : (t : Timer) → WellTimer t → timed t ≡ true
unfolding timed
timer-formed (ticks n) h = le-leb n 1_000_000 h
timer-formed inf h = refl

mutual
  unfolding part_places process_places every

  part-formed : (a : Part) (d : ℕ) (ys : List Name) → WellPart a → PartFit formed_at a d ys
  part-formed stop d ys f = refl
  part-formed (go t v p) d ys f = and_in _ _ (timer-formed t f.0) (process-formed p (suc d) ys f.2)
  part-formed (out c t v p q) d ys f =
      and_in _ _ (timer-formed t f.1) (every_append formed_at (process_places p (suc d) ys) _ (process-formed p (suc d) ys f.3) (process-formed q (suc d) ys f.4))
  part-formed (inp c t y p q) d ys f =
      and_in _ _ (and_in _ _ (timer-formed t f.1) f.2)
      (every_append formed_at (process_places p (suc d) (into ys y)) _ (process-formed p (suc d) (into ys y) f.3) (process-formed q (suc d) ys f.4))
  part-formed (call x vs) d ys f = refl

  process-formed : (p : Process) (d : ℕ) (ys : List Name) → WellProcess p → Fit formed_at p d ys
  process-formed (one a) d ys f = part-formed a d ys f
  process-formed (a ∥ p) d ys f = every_append formed_at (part_places a d ys) _ (part-formed a d ys f.0) (process-formed p d ys f.1)

defs-formed : (ds : List Def) → Each WellDef ds → every formed_at (flat_map def_places ds) ≡ true
unfolding flat_map def_places every
defs-formed [] f = refl
defs-formed (define x us p ∷ ds) f = every_append formed_at (process_places p 1 (firsts [] us)) _ (process-formed p 1 (firsts [] us) f.0.2) (defs-formed ds f.1)

located-formed : (ls : List Located) → Each WellLocated ls → every formed_at (flat_map located_places ls) ≡ true
unfolding flat_map located_places every
located-formed [] f = refl
located-formed (at l p ∷ ls) f = every_append formed_at (process_places p 1 []) _ (process-formed p 1 [] f.0.1) (located-formed ls f.1)

all-formed : (t : Tree) → WellTree t → every formed_at (places t) ≡ true
unfolding places
all-formed t f = every_append formed_at (flat_map def_places t.defs) _ (defs-formed t.defs f.defs-well) (located-formed t.located f.located-well)

-- ── values ──
module _ (w : List ℕ) (ys : List Name) where
  value-known : (v : Value) → value_listed w v ≡ true → bound_in ys v ≡ true → value_known w ys v ≡ true
  unfolding value_listed loc_listed value_known
  value-known (loc l) h b = h
  value-known (var x) h b = sym (member-index ys x) ∙ b

  values-known : (vs : List Value) → every (value_listed w) vs ≡ true → every (bound_in ys) vs ≡ true → every (value_known w ys) vs ≡ true
  unfolding every
  values-known [] h b = refl
  values-known (v ∷ vs) h b =
      let r = and-inv (value_listed w v) _ h in
      let k = and-inv (bound_in ys v) _ b in
      and_in _ _ (value-known v r.0 k.0) (values-known vs r.1 k.1)

-- ── places ──
module _ (t : Tree) (w : List ℕ) (s : Whole t w) (m : parameter_count t ≤ 4) (e : defined_once t.defs ≡ true) where
  -- what the tables, reading and questions 6 and 7 say of a place
  abbrev asked : Place → Bool
  asked x = (place_listed w x && formed_at x) && (call_met t.defs x && bound_at x)

  record Asked (x : Place) : Type 0 where
    listed : place_listed w x ≡ true
    form : formed_at x ≡ true
    met : call_met t.defs x ≡ true
    closed : bound_at x ≡ true

  asked-parts : (x : Place) → asked x ≡ true → Asked x
  asked-parts x h =
      let a = and-inv (place_listed w x && formed_at x) _ h in
      let b = and-inv (place_listed w x) _ a.0 in
      let c = and-inv (call_met t.defs x) _ a.1 in
      record { listed = b.0; form = b.1; met = c.0; closed = c.1 }

  part-known : (d : ℕ) (ys : List Name) (a : Part) → Asked (record { depth = d; scope = ys; part = a }) → part_known w ys a ≡ true
  unfolding part_known call_known place_listed part_listed call_met bound_at every parameter_count
  part-known d ys stop r = refl
  part-known d ys (go u v p) r = and_in _ _ r.form (value-known w ys v r.listed (and-inv (bound_in ys v) _ r.closed).0)
  part-known d ys (out c u v p q) r =
      let k = and-inv (chan_known w c) _ r.listed in
      and_in _ _ k.0 (and_in _ _ r.form (value-known w ys v k.1 (and-inv (bound_in ys v) _ r.closed).0))
  part-known d ys (inp c u y p q) r = and_in _ _ r.listed r.form
  part-known d ys (call x vs) r =
      let n = few-met x vs t.defs m r.met in
      let k = and-inv (ltb (index (ids_of w) x) (defs_in w)) _ (sym (call-is t w s m e x vs) ∙ r.met) in
      let q = eqb-true (min (length vs) 5) (arity_of w (index (ids_of w) x)) k.1 in
      and_in _ _ (and_in _ _ k.0 (and_in _ _ (eq-eqb (length vs) (arity_of w (index (ids_of w) x)) (omega arith)) (le-leb (length vs) 4 n)))
      (values-known w ys vs r.listed r.closed)

  place-known : (x : Place) → asked x ≡ true → place_known w x ≡ true
  unfolding place_known
  place-known x h = part-known x.depth x.scope x.part (asked-parts x h)

  pub known : WellTree t → calls_met t ≡ true → bound t ≡ true → every (place_known w) (places t) ≡ true
  unfolding calls_met bound
  known f c b =
      every_map place-known (places t)
      (every-both (λ x. place_listed w x && formed_at x) (λ x. call_met t.defs x && bound_at x) (places t)
      (every-both (place_listed w) formed_at (places t) (all_listed t w s) (all-formed t f))
      (every-both (call_met t.defs) bound_at (places t) c b))
