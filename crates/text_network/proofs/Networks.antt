-- The text of a table: its definitions in order, then its components, each unmarked one the part at its place with its own timer and values.
-- By what a definition and an unmarked component stand for; all slots of a component hold locations.
use Prim.Native.Nat.{ℕ, suc, ◌+◌, ◌-◌, ◌*◌, ◌≤◌, ◌<◌}
use native.Mathlib.Omega.{arith}
use mathlib.Core.List.{List, [], ◌∷◌, ◌++◌, map}
use mathlib.Core.Bool.{Bool, true, false, not}
use mathlib.Core.Path.{◌≡◌, refl, ap, sym, ◌∙◌}
use lib.Dec.{ltb}
use lib.ListN.{take, drop, replicate, drop_of_length-le}
use native.Mathlib.Numerals.{add-one}
use borrow.Author.Tests.{ltb-false, le-ltb, not-true}
use Rattle.terms.specs.Names.{bytes}
use Rattle.terms.specs.Same.{every}
use Rattle.terms.specs.Rules.{unmarked}
use Rattle.text.specs.Write.{spell_component}
use Rattle.table.specs.declared.Comp.{Comp}
use Rattle.table.specs.declared.State.{State}
use Rattle.table.specs.Words.{row_size, locs_at, locs_in, defs_in, name_at, loc_name, def_name, arity_of, body_of, params_at, params_of, first_param, fourth_param, ids_at, name_size, second_param, third_param}
use Rattle.table.specs.Meaning.{list_from, def_of, defs_of, means, no_comp, comp_in, comps_of, net_of, network_of}
use Rattle.table.specs.Valid.{script_ok, comp_ok, valid}
use Rattle.table.proofs.Tests.{script-fine, comp-fine, every-get_or}
use Rattle.table.proofs.Splits.{unmarked-is, marked-is}
use Rattle.text_letters.specs.Forms.{listed}
use Rattle.text_process.specs.Forms.{process_text, part_text}
use Rattle.text_process.specs.Values.{part_seen, process_seen}
use Rattle.text_process.proofs.Values.{all_shown}
use Rattle.text_process.proofs.Places.{none_seen, every-less}
use Rattle.text_network.specs.Forms.{def_text, defs_text, comp_text, barred, net_text}
use Rattle.text_network.specs.Text.{text_of, no_mark}
use Rattle.text_network.proofs.Spelled.{text-spelled, network-spelled}
use Rattle.table.proofs.InUse.{valid-state, comps-length, in_use, comp-at}

-- ── definitions ──
pub def-written : (w : List ℕ) (d : ℕ)
    → name_at w (ids_at + d * row_size) ++ (listed (map (name_at w) (take (arity_of w d) ((first_param + d * row_size) ∷ (second_param + d * row_size) ∷ (third_param + d * row_size) ∷ (fourth_param + d * row_size) ∷ [])))
    ++ (bytes " = " ++ (process_text (process_seen w (body_of w d) (replicate 8 64)) ++ bytes " .\n")))
    ≡ def_text (def_of w d)
def-written w d = unfold def_text def_of def_name params_of params_at in rw (none_seen w (body_of w d))

pub defs-next : (w : List ℕ) (d n : ℕ) → d < n → defs_text (list_from d (n - d) (def_of w)) ≡ def_text (def_of w d) ++ defs_text (list_from (d + 1) (n - (d + 1)) (def_of w))
defs-next w d n h =
    ap (λ m. defs_text (list_from d m (def_of w))) left
    ∙ first (n - (d + 1))
    ∙ ap (λ m. def_text (def_of w d) ++ defs_text (list_from m (n - (d + 1)) (def_of w))) (sym (add-one d))
  where
    first : (m : ℕ) → defs_text (list_from d (suc m) (def_of w)) ≡ def_text (def_of w d) ++ defs_text (list_from (suc d) m (def_of w))
    first m = unfold list_from defs_text in refl

    left : n - d ≡ suc (n - (d + 1))
    left = omega arith

pub defs-end : (w : List ℕ) (d n : ℕ) → n ≤ d → defs_text (list_from d (n - d) (def_of w)) ≡ []
defs-end w d n h = ap (λ m. defs_text (list_from d m (def_of w))) left ∙ (unfold list_from defs_text in refl)
  where
    left : n - d ≡ 0
    left = omega arith

pub defs-all : (w : List ℕ) → defs_text (defs_of w) ≡ defs_text (list_from 0 (defs_in w - 0) (def_of w))
defs-all w = unfold defs_of in ap (λ m. defs_text (list_from 0 m (def_of w))) left
  where
    left : defs_in w ≡ defs_in w - 0
    left = omega arith

-- ── one component ──
module _ (w : List ℕ) (good : script_ok w ≡ true) (c : Comp) (fine : comp_ok w c ≡ true) where
  pub comp-written : 64 ≤ c.mark
      → name_at w (locs_at + c.loc * name_size) ++ (91 ∷ (part_text (part_seen w c.place c.timer c.vals) ++ (93 ∷ []))) ≡ comp_text (means w c)
  comp-written h =
      let f = comp-fine w c fine in
      let e = all_shown w c.place c.vals (every-less (locs_in w) c.vals (script-fine w good).locs f.vals) in
      sym (ap comp_text (unmarked-is w c (le-ltb c.mark 64 h)) ∙ (unfold comp_text process_text part_text part_seen loc_name in rw e))

-- ── all components ──
-- 14 on the table
unmarked-one : (w : List ℕ) (c : Comp) (b : Bool) → ltb c.mark 64 ≡ b → unmarked (means w c) ≡ not b
unfolding unmarked
unmarked-one w c true e = rw (marked-is w c e)
unmarked-one w c false e = rw (unmarked-is w c e)

unmarked-all : (w : List ℕ) (cs : List Comp) → every unmarked (map (means w) cs) ≡ every (λ c. not (ltb c.mark 64)) cs
unfolding every
unmarked-all w [] = refl
unmarked-all w (c ∷ cs) = rw (unmarked-one w c (ltb c.mark 64) refl, unmarked-all w cs)

pub unmarked-table : (w : List ℕ) (st : State) → no_mark w st ≡ every (λ c. not (ltb c.mark 64)) (comps_of st)
unfolding no_mark net_of
unmarked-table w st = unmarked-all w (comps_of st)

-- the components that are left from position k on
module _ (w : List ℕ) (st : State) where
  abbrev pub left : ℕ → List (List ℕ)
  left k = map comp_text (map (means w) (drop k (comps_of st)))

  pub comps-first : 0 < st.n → net_text (map comp_text (net_of w st)) ≡ comp_text (means w (comp_in st.c 0)) ++ barred (left 1)
  comps-first l = unfold net_of in ap (λ cs. net_text (map comp_text (map (means w) cs))) (comp-at st 0 l) ∙ (unfold net_text in refl)

  pub comps-next : (k : ℕ) → k < st.n → barred (left k) ≡ bytes " | " ++ (comp_text (means w (comp_in st.c k)) ++ barred (left (k + 1)))
  comps-next k l = ap (λ cs. barred (map comp_text (map (means w) cs))) (comp-at st k l) ∙ (unfold barred in refl)

  pub comps-end : (k : ℕ) → st.n ≤ k → barred (left k) ≡ bytes " .\n"
  comps-end k l = ap (λ cs. barred (map comp_text (map (means w) cs))) (drop_of_length-le (comps_of st) {i = k} (omega (arith, comps-length st))) ∙ (unfold barred in refl)

  -- a component in use is good, and unmarked where all are
  pub comp-good : (k : ℕ) → k < st.n → valid w st ≡ true → no_mark w st ≡ true → (comp_ok w (comp_in st.c k) ≡ true) × (64 ≤ (comp_in st.c k).mark)
  comp-good k l v u =
      let q = in_use st no_comp k l in
      let g = every-get_or (comp_ok w) (comps_of st) no_comp k (valid-state w st v).each (omega (arith, comps-length st)) in
      let m = every-get_or (λ c. not (ltb c.mark 64)) (comps_of st) no_comp k (sym (unmarked-table w st) ∙ u) (omega (arith, comps-length st)) in
      (rw q at g, ltb-false (comp_in st.c k).mark 64 (not-true (ltb (comp_in st.c k).mark 64) (rw q at m)))

-- ── the whole text ──
pub text-is : (w : List ℕ) (st : State) → defs_text (defs_of w) ++ net_text (map comp_text (net_of w st)) ≡ text_of w st
unfolding text_of network_of
text-is w st = sym (text-spelled (defs_of w) (map spell_component (net_of w st)) ∙ ap (λ z. defs_text (defs_of w) ++ z) (network-spelled (net_of w st)))
