-- `text_at` reads definitions and then a network, and adds their numbers up.
-- The loop's invariant is `Before`: what was gathered, joined with the text that is left, is the whole.
use Prim.Native.Nat.{◌-◌}
use lib.ListN.{length}
use Rattle.text_scan.proofs.Texts.{Before}
use Rattle.text_scan.proofs.text_at.Given as goal

abbrev pub invariant-loop-t : goal.invariant-loop-t
invariant-loop-t l = Before l.s l.at l.t.end l.t

abbrev pub decreases-loop-t : goal.decreases-loop-t
decreases-loop-t l = length l.s - l.t.end
