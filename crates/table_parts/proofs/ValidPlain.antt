-- An output or an input with no variable in scope and nothing after it.
-- By the laws of scopes, of which the one of the part is empty.
use Prim.Native.Nat.{ℕ, suc, ◌<◌}
use native.Mathlib.Omega.{arith}
use mathlib.Core.List.{List}
use mathlib.Core.Bool.{true}
use mathlib.Core.Path.{◌≡◌, refl, ◌∙◌}
use lib.Dec.{eqb, ltb}
use borrow.Author.Tests.{eq-eqb, lt-ltb}
use Rattle.terms.specs.Names.{Name}
use Rattle.terms.specs.Letters.{is_small}
use Rattle.table.specs.Words.{chans_in, field, next_at, low_at, own_at, bound_at, scope_at, names_at, count_field, first_field, name_field, second_field, slot_field, timer_field, value_field}
use Rattle.table.specs.Valid.{alike, index, timer_ok, ref_ok, inner_ok, entered, head_ok, next_ok, stacked, floor, low_ok}
use Rattle.table_scopes.specs.Tests.{Scoped}
use Rattle.table_parts.specs.Tests.{rest_ok, send_ok, out_ok, in_ok}
use Rattle.table_scopes.proofs.ValidScopes.{slot-none, inner-is, bound-is}

module _ (w : List ℕ) (i : ℕ) (s : Scoped w i 0) where
  -- ── P and Q ──
  pub inner-plain : (p : ℕ) → p < i → field w p count_field ≡ 0 → inner_ok w i p (scope_at w i) ≡ true
  unfolding alike
  inner-plain p b e = inner-is w i 0 s p b (rw e refl)

  pub bound-plain : (p k : ℕ) → p < i → field w p count_field ≡ 1 → field w p slot_field ≡ own_at i → inner_ok w i p (entered w i k) ≡ true
  unfolding alike
  bound-plain p k b e o = bound-is w i 0 s p k (omega arith) b (rw e refl) ∙ eq-eqb (field w p slot_field) (own_at i) o

  pub no_slot : (x : Name) → index (names_at w i) x ≡ 0
  no_slot x = slot-none w i 0 s x (λ j b. absurd (omega arith))

  -- ── what an output and an input share ──
  pub send-plain : next_at w i ≡ 0 → field w i name_field < chans_in w → timer_ok (field w i timer_field) ≡ true → field w i second_field < i
      → field w (field w i second_field) count_field ≡ 0
      → suc (field w i first_field) ≡ i
      → suc (field w i second_field) ≡ low_at w (field w i first_field)
      → low_at w i ≡ low_at w (field w i second_field)
      → send_ok w i ≡ true
  unfolding send_ok next_ok low_ok
  send-plain e n t b z f g l =
      let x : ltb (field w i name_field) (chans_in w) ≡ true = lt-ltb (field w i name_field) (chans_in w) n in
      let y : inner_ok w i (field w i second_field) (scope_at w i) ≡ true = inner-plain (field w i second_field) b z in
      let u : eqb (suc (field w i first_field)) i ≡ true = eq-eqb (suc (field w i first_field)) i f in
      let v : eqb (suc (field w i second_field)) (low_at w (field w i first_field)) ≡ true = eq-eqb (suc (field w i second_field)) (low_at w (field w i first_field)) g in
      let d : eqb (low_at w i) (low_at w (field w i second_field)) ≡ true = eq-eqb (low_at w i) (low_at w (field w i second_field)) l in
      simp (e, x, t, y, u, v, d)

-- ── the tests of the whole part from those ──
module _ (w : List ℕ) (i : ℕ) where
  pub out-rest : ref_ok w (names_at w i) (field w i value_field) ≡ true → inner_ok w i (field w i first_field) (scope_at w i) ≡ true
      → out_ok w i ≡ send_ok w i
  unfolding rest_ok head_ok stacked floor send_ok
  out-rest r n = simp (r, n)

  pub in_rest : is_small (bound_at w i) ≡ true → eqb (index (names_at w i) (bound_at w i)) (field w i value_field) ≡ true
      → inner_ok w i (field w i first_field) (entered w i (field w i value_field)) ≡ true
      → in_ok w i ≡ send_ok w i
  unfolding rest_ok head_ok stacked floor send_ok
  in_rest y x n = simp (y, x, n)
