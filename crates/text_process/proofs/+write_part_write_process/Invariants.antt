-- A part is what stands before its first process, and then its processes; a process is its parts, joined by ` | `.
-- Both fall by the place: twice the place for a part, and one more for a process, since a process begins with the part at its own place.
-- the process at n, where n is the place m
use Prim.Native.Nat.{◌+◌, ◌*◌, ◌≤◌}
use Rattle.text_process.specs.Forms.{process_text}
use Rattle.text_process.specs.Values.{Places, process_seen}
use Rattle.text_letters.proofs.Pages.{LeftOf}
use Rattle.text_process.proofs.+write_part_write_process.Given as goal

abbrev pub decreases-write_process : goal.decreases-write_process
decreases-write_process l = 2 * l.i + 1

abbrev pub decreases-write_part : goal.decreases-write_part
decreases-write_part l = 2 * l.i

abbrev pub invariant-write_process-loop-i : goal.invariant-write_process-loop-i
invariant-write_process-loop-i l = Places l.w l.j l.vals × (l.j ≤ l.i) × LeftOf l.initial.page (process_text (process_seen l.w l.i l.vals)) l.page (process_text (process_seen l.w l.j l.vals))

abbrev pub decreases-write_process-loop-i : goal.decreases-write_process-loop-i
decreases-write_process-loop-i l = l.j
