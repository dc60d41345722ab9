-- `run` meets its contract. The loop's invariant: the calls made so far are a run, and the codes past them are as they were.
use mathlib.Core.Path.{◌≡◌}
use Prim.Native.Nat.{min}
use lib.ListN.{length}
use Rattle.table.specs.Valid.{valid}
use Rattle.calls.proofs.Calls.{Running}
use Rattle.calls.proofs.run.run.Given as goal

abbrev pub invariant-loop-j : goal.invariant-loop-j
invariant-loop-j l = record {
  many : l.done ≡ min (length l.calls) (length l.initial.codes);
  running : Running l.w (record { c = l.initial.c; n = l.n }) l.calls l.initial.codes l.codes l.j (record { c = l.c; n = l.k });
  good : l.good ≡ valid l.w (record { c = l.initial.c; n = l.n });
}
