-- The loop's invariant: from here on stand the located processes that are left to put and to gather.
use Prim.Native.Nat.{◌-◌, ◌≤◌, ◌<◌}
use mathlib.Core.Path.{◌≡◌}
use lib.ListN.{length}
use Rattle.text_fill.specs.Located.{NetworkAt}
use Rattle.text_fill.proofs.Bracketed.{Going}
use Rattle.text_fill.proofs.network.put_network.Given as goal

abbrev pub invariant-loop-r : goal.invariant-loop-r
invariant-loop-r l = (l.j < 4_096) × (l.n ≤ length l.out) × (length l.out ≡ length l.initial.out) × ((x : NetworkAt l.s l.at) → Going l.s l.at l.here l.initial.w l.w l.i l.j l.initial.out l.out l.n x)

abbrev pub decreases-loop-r : goal.decreases-loop-r
decreases-loop-r l = length l.s - l.here
