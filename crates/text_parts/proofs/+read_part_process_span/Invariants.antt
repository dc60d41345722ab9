-- The reader of a process, by its span, and the reader of a part, each the other's callee: what they answer stands for what the grammar gives, stopped at the limits.
-- The falling number is the bytes left, twice, and one more for the process reader; the loop's invariant is `Gathered`.
use Prim.Native.Nat.{◌+◌, ◌*◌, ◌-◌, ◌≤◌}
use lib.ListN.{length}
use Rattle.text_parts.proofs.Cycle.{Gathered}
use Rattle.text_parts.proofs.+read_part_process_span.Given as goal

abbrev pub decreases-process_span : goal.decreases-process_span
decreases-process_span l = 2 * (length l.s.now - l.at) + 1

abbrev pub decreases-read_part : goal.decreases-read_part
decreases-read_part l = 2 * (length l.s.now - l.at)

abbrev pub invariant-process_span-loop-part : goal.invariant-process_span-loop-part
invariant-process_span-loop-part l = (length l.s - l.here ≤ length l.s - l.at) × Gathered l.s l.at l.here l.size

abbrev pub decreases-process_span-loop-part : goal.decreases-process_span-loop-part
decreases-process_span-loop-part l = length l.s - l.here
