-- The loop's invariant: from here on stand the definitions whose bodies are left to put.
use Prim.Native.Nat.{◌-◌, ◌<◌}
use lib.ListN.{length}
use Rattle.text_fill.specs.Ready.{Ready}
use Rattle.text_fill.proofs.Defs.{BodiesGoing}
use Rattle.text_fill.proofs.definitions.put_bodies.Given as goal

abbrev pub invariant-loop-w : goal.invariant-loop-w
invariant-loop-w l = (l.j < 4_096) × ((x : Ready l.s) → BodiesGoing l.s l.here l.k l.j l.initial.w l.w l.i x)

abbrev pub decreases-loop-w : goal.decreases-loop-w
decreases-loop-w l = length l.s - l.here
