-- A process whose outermost parts are gathered, part by part. The falling number is the bytes left.
use Prim.Native.Nat.{◌-◌}
use lib.ListN.{length}
use Rattle.text_fill.proofs.network.+put_outer.Given as goal

abbrev pub decreases-put_outer : goal.decreases-put_outer
decreases-put_outer l = length l.s.now - l.at
