-- `all_located` reads located processes joined by `|`, and adds their numbers up.
-- The loop's invariant is `Gathered`: what was gathered, joined with what is left, is the whole.
use Prim.Native.Nat.{◌-◌}
use lib.ListN.{length}
use Rattle.text_scan.proofs.Texts.{Gathered}
use Rattle.text_scan.proofs.all_located.Given as goal

abbrev pub invariant-loop-t : goal.invariant-loop-t
invariant-loop-t l = Gathered l.s l.at l.here l.t

abbrev pub decreases-loop-t : goal.decreases-loop-t
decreases-loop-t l = length l.s - l.here
