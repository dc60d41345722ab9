-- The loop's invariant: the next piece can be made, and what was written is what came before it. Each turn leaves one piece less.
use Rattle.std.proofs.Common.{ℕ, List, ◌≡◌, ◌++◌, length}
use Rattle.std.specs.Io.KnownBytes.{Appends}
use mathlib.Core.List.{flatten}
use Rattle.run_pieces.specs.Pieces.{pieces_left, ProgressOk}
use Rattle.timorun.proofs.show.Given as goal

abbrev pub invariant-loop-len : goal.invariant-loop-len
invariant-loop-len g l = ProgressOk l.w l.now × (length l.buf ≡ 65_536)
    × ((done : List ℕ) × (flatten (pieces_left l.w l.initial.now) ≡ done ++ flatten (pieces_left l.w l.now)) × Appends (g.W.Write.contents l.initial.to) (g.W.Write.contents l.to) done)

abbrev pub decreases-loop-len : goal.decreases-loop-len
decreases-loop-len g l = length (pieces_left l.w l.now)
