-- Process reader and part reader, each the other's callee. The falling number is the bytes left, twice, and one more for the process reader.
use Prim.Native.Nat.{◌+◌, ◌*◌, ◌-◌}
use lib.ListN.{length}
use Rattle.text_put.proofs.parts.+put_part_put_process.Given as goal

abbrev pub decreases-put_process : goal.decreases-put_process
decreases-put_process l = 2 * (length l.s.now - l.at) + 1

abbrev pub decreases-put_part : goal.decreases-put_part
decreases-put_part l = 2 * (length l.s.now - l.at)
