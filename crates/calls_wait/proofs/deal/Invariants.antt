-- `deal` meets its contract. The loop's invariant: the chains are those of the numbers from i on.
use lib.ListN.{drop}
use Rattle.calls_wait.specs.Waits.{Dealt}
use Rattle.calls_wait.proofs.deal.Given as goal

abbrev pub invariant-loop-i : goal.invariant-loop-i
invariant-loop-i l = Dealt l.ears (drop l.i l.keys) l.heads l.nexts
