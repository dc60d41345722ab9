-- A part with no variable in scope and nothing after it: stop, or a call of locations.
-- By the definitions: a value below 64 asks nothing of a scope.
use Prim.Native.Nat.{ℕ, ◌≤◌, ◌<◌}
use native.Mathlib.Omega.{arith}
use mathlib.Core.List.{List}
use mathlib.Core.Bool.{Bool, true, false}
use mathlib.Core.Path.{◌≡◌, refl, ap, ◌∙◌}
use lib.Dec.{eqb, leb, ltb}
use borrow.Author.Tests.{eq-eqb, lt-ltb, ltb-true, ltb-false}
use Rattle.terms.specs.Same.{every}
use Rattle.table.specs.declared.Head.TheVariants.{Call}
use Rattle.table.specs.Words.{last_name, field, next_at, low_at, scope_at, names_at, locs_in, defs_in, arity_of, args_at, arg_at, count_field, kind_field, name_field, value_field}
use Rattle.table.specs.Valid.{ref_ok, head_ok, stacked, floor}
use Rattle.table_scopes.specs.Tests.{end_ok}
use Rattle.table_parts.specs.Tests.{row_ok, rest_ok, PlainCall}
use Rattle.table.proofs.WordsHead.{head-call, head-stop}
use Rattle.table_scopes.proofs.ValidScopes.{end-last}
use Rattle.table_parts.proofs.ValidParts.{args-all, part-is, rest-stop, scope-passes}

module _ (w : List ℕ) (i : ℕ) (low : low_at w i ≡ i) (none : field w i count_field ≡ 0) (last : next_at w i ≡ 0) where
  empty : every (λ o. ltb o last_name) (scope_at w i) ≡ true
  unfolding scope_at every
  empty = rw none refl

  ends : end_ok w i i ≡ true
  ends = end-last w i i last ∙ eq-eqb (low_at w i) i low

  pub leaf-stop : field w i kind_field ≡ 0 → row_ok w i ≡ true
  leaf-stop k =
      let t : leb (field w i kind_field) 4 ≡ true = rw k in
      let z = head-stop w i (λ x. omega (arith, x, k)) (λ x. omega (arith, x, k)) (λ x. omega (arith, x, k)) (λ x. omega (arith, x, k)) in
      part-is w i t (scope-passes w i (omega (arith, none)) empty) ∙ ap (rest_ok w i) z ∙ rest-stop w i ∙ ends

  ref-plain : (v : ℕ) → v < locs_in w → locs_in w ≤ 64 → ref_ok w (names_at w i) v ≡ true
  unfolding ref_ok
  ref-plain v h b = rw (lt-ltb v 64 (omega (arith, h, b)), lt-ltb v (locs_in w) h)

  call-rest : locs_in w ≤ 64 → PlainCall w i → rest_ok w i (Call (field w i name_field) (field w i value_field)) ≡ end_ok w i i
  unfolding rest_ok head_ok stacked floor end_ok
  call-rest b p =
      let g : ltb (field w i name_field) (defs_in w) ≡ true = lt-ltb (field w i name_field) (defs_in w) p.held in
      let x : eqb (field w i value_field) (arity_of w (field w i name_field)) ≡ true = eq-eqb (field w i value_field) (arity_of w (field w i name_field)) p.count in
      let h : every (ref_ok w (names_at w i)) (args_at w i (field w i value_field)) ≡ true = args-all w i (ref_ok w (names_at w i)) (field w i value_field) (λ k l f. ref-plain (arg_at w i k) (p.located k l f) b) in
      simp (g, x, h)

  pub leaf-call : locs_in w ≤ 64 → field w i kind_field ≡ 4 → PlainCall w i → row_ok w i ≡ true
  leaf-call b k p =
      let t : leb (field w i kind_field) 4 ≡ true = rw k in
      part-is w i t (scope-passes w i (omega (arith, none)) empty) ∙ ap (rest_ok w i) (head-call w i k) ∙ call-rest b p ∙ ends

-- what holds below i and from i up to j holds below j
pub joined : (f : ℕ → Bool) (i j : ℕ) → ((k : ℕ) → k < i → f k ≡ true) → ((k : ℕ) → k < j → i ≤ k → f k ≡ true) → (k : ℕ) → k < j → f k ≡ true
joined f i j a b k h = by-test (ltb k i) refl
  where
    by-test : (t : Bool) → ltb k i ≡ t → f k ≡ true
    by-test true e = a k (ltb-true k i e)
    by-test false e = b k h (ltb-false k i e)

pub ruleset leaf_laws = (leaf-stop, leaf-call)
