-- What the contracts of the tests of parts cite: a plain call, and the pieces of a part's test.
-- Serves inner contracts only.
use Rattle.std.specs.Prelude.{ℕ, suc, ◌<◌, List, Bool, true, ◌&&◌, ◌≡◌, eqb, leb, ltb}
use Rattle.terms.specs.Same.{every}
use Rattle.table.specs.declared.Head.{Head}
use Rattle.table.specs.declared.Head.TheVariants.{Out, In}
use Rattle.table.specs.Words.{last_name, locs_in, chans_in, defs_in, arity_of, field, head_at, next_at, low_at, scope_at, arg_at, count_field, first_field, kind_field, name_field, second_field, timer_field, value_field}
use Rattle.table.specs.Valid.{timer_ok, inner_ok, head_ok, next_ok, stacked, floor, low_ok, tree_ok}

-- a call of a held definition with its number of arguments, all of which are locations
pub record PlainCall (w : List ℕ) (i : ℕ) : Type 0 where
  pub held : field w i name_field < defs_in w
  pub count : field w i value_field ≡ arity_of w (field w i name_field)
  pub located : (k : ℕ) → k < field w i value_field → k < 4 → arg_at w i k < locs_in w

-- the tests of a part but for the names in its scope
unfoldable pub slots_ok : List ℕ → ℕ → Bool
slots_ok w i = leb (field w i count_field) 8 && every (λ o. ltb o last_name) (scope_at w i)

unfoldable pub row_ok : List ℕ → ℕ → Bool
row_ok w i = leb (field w i kind_field) 4 && (slots_ok w i && (head_ok w i (head_at w i) && (next_ok w i (next_at w i) && tree_ok w i)))

-- a part that passes, with no variable in scope
pub record Leaf (w : List ℕ) (i : ℕ) : Type 0 where
  pub row : row_ok w i ≡ true
  pub empty : field w i count_field ≡ 0

-- the tests of a part of head h, but for its kind and scope
unfoldable pub rest_ok : List ℕ → ℕ → Head → Bool
rest_ok w i h =
    head_ok w i h && (next_ok w i (next_at w i) && (stacked w i h && low_ok w (low_at w i) (floor w i h) (next_at w i)))

-- the tests that an output and an input share
unfoldable pub send_ok : List ℕ → ℕ → Bool
send_ok w i =
    (ltb (field w i name_field) (chans_in w) && (timer_ok (field w i timer_field) && inner_ok w i (field w i second_field) (scope_at w i)))
    && (next_ok w i (next_at w i)
    && ((eqb (suc (field w i first_field)) i && eqb (suc (field w i second_field)) (low_at w (field w i first_field)))
    && low_ok w (low_at w i) (low_at w (field w i second_field)) (next_at w i)))

-- the tests of an output and of an input, but for kind and scope
abbrev pub out_ok : List ℕ → ℕ → Bool
out_ok w i = rest_ok w i (Out (field w i name_field) (field w i timer_field) (field w i value_field) (field w i first_field) (field w i second_field))

abbrev pub in_ok : List ℕ → ℕ → Bool
in_ok w i = rest_ok w i (In (field w i name_field) (field w i timer_field) (field w i value_field) (field w i first_field) (field w i second_field))
