-- Parts are passed as long as each is in order by its own.
-- By what the library says of `find` over a range.
use Prim.Native.Nat.{ℕ, ◌≤◌, ◌<◌}
use native.Mathlib.Omega.{arith}
use mathlib.Core.List.{List}
use mathlib.Core.Path.{◌≡◌}
use Rattle.std.proofs.Common.{rules}
use Rattle.std.specs.Prelude.{Option, Some, None}
use Rattle.std.specs.Option.{MatchOption, unwrap_or}
use Rattle.std.specs.Bool.{⊤}
use Rattle.std.proofs.lemmas.Iterator.{first_from_Range}
use borrow.Author.Tests.{tests}
use Rattle.table_parts.specs.Tests.{Leaf}
use Rattle.table_parts.proofs.after_leaves.Goals as goal

found : (w : List ℕ) (i n r : ℕ) (o : Option ℕ) → i ≤ n → r ≡ unwrap_or o n
    → MatchOption o ((k : ℕ) → i ≤ k → k < n → Leaf w k) (λ j. (i ≤ j) × (j < n) × ⊤ × ((k : ℕ) → i ≤ k → k < j → Leaf w k))
    → (i ≤ r) × (r ≤ n) × ((k : ℕ) → k < r → i ≤ k → Leaf w k)
found w i n r None b e h = (omega (arith, e), omega (arith, e), λ k c d. h k d (omega (arith, e)))
found w i n r (Some j) b e h = (omega (arith, e, h.0), omega (arith, e, h.1), λ k c d. h.3 k d (omega (arith, e)))

pub returns : goal.returns
returns c =
    let a = c.args in
    found a.w.now a.i a.n c.unwrap_or.result c.find.result (omega (arith, c.requires)) c.unwrap_or.ensures
    (first_from_Range _ _ _ c.find.result (λ k. ⊤) (λ k. Leaf a.w.now k) c.find.ensures.ran (λ x q k. tt) (λ x q k. search (rules, tests)))
