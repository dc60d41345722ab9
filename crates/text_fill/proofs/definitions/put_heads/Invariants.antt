-- The loop's invariant: from here on stand the definitions whose heads are left to write.
use Prim.Native.Nat.{◌-◌, ◌<◌}
use lib.ListN.{length}
use Rattle.text_fill.specs.Ready.{Ready}
use Rattle.text_fill.proofs.Defs.{HeadsGoing}
use Rattle.text_fill.proofs.definitions.put_heads.Given as goal

abbrev pub invariant-loop-w : goal.invariant-loop-w
invariant-loop-w l = (l.j < 4_096) × ((x : Ready l.s) → HeadsGoing l.s l.here l.k l.j l.initial.w l.w l.i x)

abbrev pub decreases-loop-w : goal.decreases-loop-w
decreases-loop-w l = length l.s - l.here
