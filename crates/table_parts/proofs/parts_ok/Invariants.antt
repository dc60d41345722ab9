-- First each row, leaves in runs, then the names in the scopes.
-- By the invariant that all rows passed are in order, and the law that a part's test is both (ValidRoots).
use Prim.Native.Nat.{ℕ, ◌-◌, ◌≤◌, ◌<◌}
use mathlib.Core.Path.{◌≡◌}
use mathlib.Core.Bool.{true}
use Rattle.table.specs.Words.{parts_in}
use Rattle.table_parts.specs.Tests.{row_ok}
use Rattle.table_parts.proofs.parts_ok.Given as goal

abbrev pub invariant-loop-i : goal.invariant-loop-i
invariant-loop-i l = (l.n ≡ parts_in l.w) × (l.i ≤ l.n) × ((k : ℕ) → k < l.i → row_ok l.w k ≡ true)

abbrev pub decreases-loop-i : goal.decreases-loop-i
decreases-loop-i l = l.n - l.i
