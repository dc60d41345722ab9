-- `set_of` meets its contract. The loop's invariant: x is the set of the l lowest bits.
use mathlib.Core.Path.{◌≡◌}
use Rattle.calls_forced.specs.Marked.{is_marked}
use Rattle.calls_forced.specs.Report.{mask}
use Rattle.calls_forced.proofs.forced.set_of.Given as goal

abbrev pub invariant-loop-l : goal.invariant-loop-l
invariant-loop-l l = l.x ≡ mask (is_marked l.marks) 0 l.l
