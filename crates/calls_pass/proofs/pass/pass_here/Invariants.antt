-- `pass_here` meets its contract. The loop's invariant: the components up to i have passed, each as one, and the others are as they were (Passing).
use Rattle.calls_pass.specs.Passed.{PassedHere}
use Rattle.calls_pass.proofs.pass.pass_here.Given as goal

abbrev pub invariant-loop-i : goal.invariant-loop-i
invariant-loop-i l = PassedHere l.w l.l (record { c = l.initial.c; n = l.n }) l.c l.i
