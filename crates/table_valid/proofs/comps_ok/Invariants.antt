-- Each head is tested, and each value counted that is too large.
-- By the invariant that all heads passed are in order, and that nothing was counted exactly if all values passed are locations.
use Prim.Native.Nat.{ℕ, ◌+◌, ◌*◌, ◌<◌}
use mathlib.Core.Path.{◌≡◌}
use mathlib.Core.Bool.{true}
use lib.Dec.{ltb}
use Rattle.terms.specs.Same.{every}
use Rattle.table.specs.Valid.{below}
use Rattle.table.specs.Meaning.{comp_in}
use Rattle.table_valid.specs.Tests.{head_fine, Few, nothing}
use Rattle.table_valid.proofs.comps_ok.Given as goal

abbrev pub invariant-loop-i : goal.invariant-loop-i
invariant-loop-i l =
    ((k : ℕ) → k < l.i → head_fine l.w (comp_in l.c k) ≡ true)
    × (nothing l.s ≡ below l.i (λ k. every (λ v. ltb v (l.m + 1)) (comp_in l.c k).vals))
    × Few (2 * l.i) l.s
