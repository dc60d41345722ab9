-- The bytes left fall with each text and its mark.
use Rattle.std.proofs.Common.{length}
use Rattle.run_many.proofs.all.Given as goal

abbrev pub decreases-loop-rest : goal.decreases-loop-rest
decreases-loop-rest g l = length l.rest
