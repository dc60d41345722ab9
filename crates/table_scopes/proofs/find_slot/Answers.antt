-- The names in scope are compared with the name from the first slot on.
-- By what the library says of `find` over a range.
use Prim.Native.Nat.{ℕ, ◌+◌, ◌≤◌, ◌<◌}
use mathlib.Core.List.{List}
use native.Mathlib.Omega.{arith}
use mathlib.Core.Bool.{Bool, true, false}
use mathlib.Core.Path.{◌≡◌, sym, ◌∙◌}
use Rattle.std.proofs.Common.{rules}
use Rattle.std.specs.Prelude.{Option, Some, None}
use Rattle.std.specs.Option.{MatchOption, unwrap_or}
use Rattle.std.proofs.lemmas.Iterator.{first_from_Range}
use borrow.Author.Tests.{tests}
use Rattle.terms.specs.Names.{Name, same_name}
use Rattle.table.specs.Valid.{index}
use Rattle.table_scopes.specs.Tests.{Scoped}
use Rattle.table.specs.Words.{name_at, names_at, field, slot_field}
use Rattle.table.specs.Tests.{key_name}
use Rattle.table_scopes.proofs.ValidScopes.{slot-hit, slot-none}
use Rattle.table_scopes.proofs.find_slot.Goals as goal

module _ (w : List ℕ) (i n : ℕ) (s : Scoped w i n) (x : Name) where
  abbrev same : ℕ → Bool
  same k = same_name (name_at w (field w i (slot_field + k))) x

  found : (r : Option ℕ) → MatchOption r ((k : ℕ) → 0 ≤ k → k < n → same k ≡ false) (λ j. (0 ≤ j) × (j < n) × (same j ≡ true) × ((k : ℕ) → 0 ≤ k → k < j → same k ≡ false))
      → unwrap_or r n ≡ index (names_at w i) x
  found None h = sym (slot-none w i n s x (λ k b. h k (omega arith) b))
  found (Some j) h = sym (slot-hit w i n s x j h.1 (λ k b. h.3 k (omega arith) b) h.2)

pub returns : goal.returns
returns c =
    let a = c.args in
    c.unwrap_or.ensures
    ∙ found a.w.now a.i a.n c.requires (key_name a.x) c.find.result
    (first_from_Range _ _ _ c.find.result (λ k. same a.w.now a.i a.n c.requires (key_name a.x) k ≡ true) (λ k. same a.w.now a.i a.n c.requires (key_name a.x) k ≡ false) c.find.ensures.ran (λ x q k. search (rules, tests)) (λ x q k. search (rules, tests)))
