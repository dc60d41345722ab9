-- The first row of each process that is in no other is tested, from the highest place down.
-- By the invariant that the names in the scopes of all rows from i on are in order; below f there are none (ValidRoots).
use Prim.Native.Nat.{ℕ, ◌≤◌, ◌<◌}
use mathlib.Core.Path.{◌≡◌}
use mathlib.Core.Bool.{true}
use Rattle.table.specs.Words.{parts_in}
use Rattle.table_scopes.specs.Tests.{scope_named}
use Rattle.table_parts.proofs.scopes_named.Given as goal

abbrev pub invariant-loop-i : goal.invariant-loop-i
invariant-loop-i l = (l.i ≤ parts_in l.w) × ((m : ℕ) → l.i ≤ m → m < parts_in l.w → scope_named l.w m ≡ true)

abbrev pub decreases-loop-i : goal.decreases-loop-i
decreases-loop-i l = l.i
