-- `pass_rest` meets its contract. The loop's invariant: what was written and what remains are what the tick leaves (Passing).
use Rattle.table.specs.Meaning.{PastKept}
use Rattle.calls_pass.specs.Passed.{passed_from}
use Rattle.calls_pass.proofs.Passing.{Passing, left_over}
use Rattle.calls_pass.proofs.pass.pass_rest.Given as goal

abbrev pub invariant-loop-i : goal.invariant-loop-i
invariant-loop-i l = Passing l.w l.l (record { c = l.c; n = l.n }) (passed_from l.w l.l (record { c = l.c; n = l.n }) l.j l.initial.out) l.out l.k l.i l.next × PastKept l.k l.initial.out l.out

abbrev pub decreases-loop-i : goal.decreases-loop-i
decreases-loop-i l = left_over l.n l.i l.next
