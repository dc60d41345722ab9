-- Two parts, their inner processes, and two processes part by part.
-- All fall by the place in the first table: three times the place for inner processes, one more for a part and two for a process, which begins with the part at its own place.
-- processes at places, and under values, that are given by equations
use Prim.Native.Nat.{◌+◌, ◌*◌, ◌≤◌}
use Rattle.text_process.specs.Values.{Places, process_seen}
use Rattle.calls_alike.proofs.Decided.{Hangs}
use Rattle.calls_alike.proofs.parts.+part_by_part.Given as goal

abbrev pub decreases-same_process : goal.decreases-same_process
decreases-same_process l = 3 * l.i + 2

abbrev pub decreases-same_part : goal.decreases-same_part
decreases-same_part l = 3 * l.i + 1

abbrev pub decreases-same_inner : goal.decreases-same_inner
decreases-same_inner l = 3 * l.i

abbrev pub invariant-same_process-loop-i : goal.invariant-same_process-loop-i
invariant-same_process-loop-i l = Places l.w.table.now l.a l.w.vals × Places l.v.table.now l.b l.v.vals × (l.a ≤ l.i) × Hangs (process_seen l.w.table.now l.i l.w.vals) (process_seen l.v.table.now l.j l.v.vals) (process_seen l.w.table.now l.a l.w.vals) (process_seen l.v.table.now l.b l.v.vals)

abbrev pub decreases-same_process-loop-i : goal.decreases-same_process-loop-i
decreases-same_process-loop-i l = l.a
