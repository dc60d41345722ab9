-- The parameters of a definition: their names stand four words apart, and they are what is in scope in its body.
-- By the number of parameters, which is at most 4.
use Prim.Native.Nat.{ℕ, zero, suc, ◌+◌, ◌*◌, ◌≤◌, ◌<◌}
use native.Mathlib.Omega.{arith}
use mathlib.Core.List.{List, [], ◌∷◌}
use mathlib.Core.Bool.{true, false}
use mathlib.Core.Path.{◌≡◌, ap, sym, ◌∙◌}
use lib.ListN.{length, get_or, take, length-map}
use lib.Seq.{length-take-le, get_or-take, ext_get_or}
use Rattle.table.specs.Words.{row_size, name_at, field, at_most8, arity_of, params_at, params_of, scope_at, first_param, fourth_param, name_size, second_param, third_param, count_field, slot_field}
use Rattle.table.specs.Meaning.{list_from}
use Rattle.table.specs.Valid.{alike}
use Rattle.table.specs.Tests.{row_name}
use Rattle.table.proofs.ValidLists.{alike_all, alike-miss, alike-uneven, list_from-length, list_from-at}
use Rattle.table.proofs.Rows.{any-scope, any-length, front_at, at_most, map_at}

-- where four parameters would stand
abbrev four : ℕ → List ℕ
four d = (first_param + d * row_size) ∷ (second_param + d * row_size) ∷ (third_param + d * row_size) ∷ (fourth_param + d * row_size) ∷ []

four-at : (d k : ℕ) → k < 4 → get_or (four d) k 0 ≡ first_param + d * row_size + k * name_size
four-at d zero h = omega arith
four-at d (suc zero) h = omega arith
four-at d (suc (suc zero)) h = omega arith
four-at d (suc (suc (suc zero))) h = omega arith
four-at d (suc (suc (suc (suc k)))) h = absurd (omega arith)

module _ (w : List ℕ) (d a : ℕ) (e : a ≡ arity_of w d) (h : a ≤ 4) where
  params_are : params_at w d ≡ take a (four d)
  unfolding params_at
  params_are = ap (λ n. take n (four d)) (sym e)

  params-length : length (params_at w d) ≡ a
  params-length = ap length params_are ∙ length-take-le a (four d) h

  param-at : (k : ℕ) → k < a → get_or (params_at w d) k 0 ≡ first_param + d * row_size + k * name_size
  param-at k b = ap (λ t. get_or t k 0) params_are ∙ get_or-take a (four d) k 0 b ∙ four-at d k (omega arith)

  pub params-names : params_of w d ≡ list_from 0 a (row_name w (first_param + d * row_size) 4)
  unfolding params_of row_name
  params-names =
      ext_get_or [] (params_of w d) (list_from 0 a (row_name w (first_param + d * row_size) 4)) (many ∙ sym (list_from-length 0 a (row_name w (first_param + d * row_size) 4)))
      (λ k b. each k (omega (arith, many)))
    where
      many : length (params_of w d) ≡ a
      many = length-map (params_at w d) (name_at w) ∙ params-length

      each : (k : ℕ) → k < a → get_or (params_of w d) k [] ≡ get_or (list_from 0 a (row_name w (first_param + d * row_size) 4)) k []
      each k b =
          map_at (name_at w) (params_at w d) k (omega (arith, params-length))
          ∙ ap (name_at w) (param-at k b ∙ omega arith)
          ∙ sym (list_from-at 0 a (row_name w (first_param + d * row_size) 4) k [] b)

  -- ── the scope of the body ──
  module _ (b : ℕ) where
    pub params-uneven : (at_most8 (field w b count_field) ≡ a → ⊥) → alike (scope_at w b) (params_at w d) ≡ false
    params-uneven z = alike-uneven (scope_at w b) (params_at w d) (λ p. z (sym (any-length w b) ∙ p ∙ params-length))

    module _ (c : at_most8 (field w b count_field) ≡ a) where
      scope-length : length (scope_at w b) ≡ a
      scope-length = any-length w b ∙ c

      scope-at : (k : ℕ) → k < a → get_or (scope_at w b) k 0 ≡ field w b (slot_field + k)
      scope-at k l = ap (λ t. get_or t k 0) (any-scope w b) ∙ front_at w b (at_most8 (field w b count_field)) k (at_most (field w b count_field)) (omega (arith, c, l))

      pub params-alike : ((k : ℕ) → k < a → field w b (slot_field + k) ≡ first_param + d * row_size + k * name_size) → alike (scope_at w b) (params_at w d) ≡ true
      params-alike p =
          alike_all (scope_at w b) (params_at w d) (scope-length ∙ sym params-length)
          (λ k l. let m : k < a = omega (arith, scope-length, l) in scope-at k m ∙ p k m ∙ sym (param-at k m))

      pub params-differ : (k : ℕ) → k < a → (field w b (slot_field + k) ≡ first_param + d * row_size + k * name_size → ⊥) → alike (scope_at w b) (params_at w d) ≡ false
      params-differ k l z =
          alike-miss (scope_at w b) (params_at w d) k (omega (arith, scope-length)) (omega (arith, params-length))
          (λ p. z (sym (scope-at k l) ∙ p ∙ param-at k l))
