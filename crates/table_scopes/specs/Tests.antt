-- What the contracts of the tests of scopes cite: what is known of a scope, the names in it, and what comes after a part.
-- Serves inner contracts only.
use Rattle.std.specs.Prelude.{ℕ, ◌+◌, ◌≤◌, ◌<◌, List, Bool, ◌&&◌, ◌≡◌, eqb}
use Rattle.terms.specs.Letters.{is_small}
use Rattle.table.specs.Words.{name_at, field, next_at, low_at, names_at, count_field, slot_field}
use Rattle.table.specs.Valid.{index, sort_ok, next_ok, low_ok}

-- what is known of a part whose scope is read: its place is one, and n is how many variables it has, which is at most 8
pub record Scoped (w : List ℕ) (i n : ℕ) : Type 0 where
  pub place : i < 4_096
  pub count : n ≡ field w i count_field
  pub small : n ≤ 8

-- the name at the slot k of the scope has the form of a variable, and no slot before it has that name
unfoldable pub slot_named : List ℕ → ℕ → ℕ → Bool
slot_named w i k = is_small (name_at w (field w i (slot_field + k))) && eqb (index (names_at w i) (name_at w (field w i (slot_field + k)))) k

-- the names in scope at i
unfoldable pub scope_named : List ℕ → ℕ → Bool
scope_named w i = sort_ok is_small (names_at w i)

-- the tests of a part whose least place is f that look at what comes after it
unfoldable pub end_ok : List ℕ → ℕ → ℕ → Bool
end_ok w i f = next_ok w i (next_at w i) && low_ok w (low_at w i) f (next_at w i)
