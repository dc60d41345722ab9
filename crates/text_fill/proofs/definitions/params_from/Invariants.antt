-- The loop's invariant: from here on stand the parameters that are left to write. The bytes left fall with each name and its comma.
use Prim.Native.Nat.{◌-◌}
use lib.ListN.{length}
use Rattle.text_fill.specs.Ready.{NamesAt}
use Rattle.text_fill.proofs.Defs.{Going}
use Rattle.text_fill.proofs.definitions.params_from.Given as goal

abbrev pub invariant-loop-x : goal.invariant-loop-x
invariant-loop-x l = (x : NamesAt l.s l.at 0) → Going l.s l.at l.here l.j l.initial.w l.w l.k x

abbrev pub decreases-loop-x : goal.decreases-loop-x
decreases-loop-x l = length l.s - l.here
