-- The names in scope are compared with the name from the first slot on.
-- By the invariant that no slot passed has the name.
use Prim.Native.Nat.{ℕ, ◌<◌}
use mathlib.Core.Path.{◌≡◌}
use mathlib.Core.Bool.{false}
use lib.ListN.{get_or}
use Rattle.terms.specs.Names.{same_name}
use Rattle.table.specs.Words.{name_at}
use Rattle.table.specs.Tests.{key_name}
use Rattle.text_put.proofs.values.slot.Given as goal

abbrev pub invariant-loop-j : goal.invariant-loop-j
invariant-loop-j l = (m : ℕ) → m < l.j → same_name (name_at l.w (get_or l.at m 0)) (key_name l.k) ≡ false
