-- No name stands among those after it.
-- By the invariant that none passed does, and that the number of each is noted.
-- what holds from i on holds from one less on, if it holds there
use Prim.Native.Nat.{ℕ, ◌+◌, ◌≤◌, ◌<◌}
use mathlib.Core.Path.{◌≡◌}
use mathlib.Core.Bool.{false}
use lib.ListN.{length, drop}
use Rattle.terms.specs.Letters.{member}
use Rattle.table.specs.Meaning.{list_from}
use Rattle.table.specs.Tests.{row_name}
use Rattle.table_names.specs.Tests.{Noted}
use Rattle.table_names.proofs.many_apart.Given as goal

abbrev pub invariant-loop-i : goal.invariant-loop-i
invariant-loop-i l =
    (length l.seen ≡ 1_013)
    × ((k : ℕ) → l.i ≤ k → k < l.n → Noted l.seen (row_name l.w l.o l.s k))
    × ((k : ℕ) → l.i ≤ k → k < l.n → member (row_name l.w l.o l.s k) (drop (k + 1) (list_from 0 l.n (row_name l.w l.o l.s))) ≡ false)
