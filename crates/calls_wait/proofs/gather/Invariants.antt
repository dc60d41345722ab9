-- `gather` meets its contract. The loop's invariant: what is gathered so far is that of the components looked at.
use Prim.Native.Nat.{◌≤◌}
use lib.ListN.{take}
use Rattle.table.specs.Meaning.{comps_of}
use Rattle.calls_wait.specs.Waits.{Gathered}
use Rattle.calls_wait.proofs.gather.Given as goal

abbrev pub invariant-loop-i : goal.invariant-loop-i
invariant-loop-i l = (l.m ≤ l.i) × Gathered l.net.script.now l.l (take l.i (comps_of (record { c = l.net.words.now; n = l.net.n }))) l.ears l.keys l.m
