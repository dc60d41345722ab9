-- The loop's invariant: of the values some are read, and from here on stand the others. The bytes left fall with each value and its comma.
use Prim.Native.Nat.{◌-◌}
use lib.ListN.{length}
use Rattle.text_put.specs.Found.{ValuesAt, values_of}
use Rattle.text_put.proofs.Arguments.{Going}
use Rattle.text_put.proofs.values.args_from.Given as goal

abbrev pub invariant-loop-x : goal.invariant-loop-x
invariant-loop-x l = (x : ValuesAt l.s l.at) → Going l.s l.here l.initial.w l.w l.sc l.n l.k (values_of x) x.left

abbrev pub decreases-loop-x : goal.decreases-loop-x
decreases-loop-x l = length l.s - l.here
