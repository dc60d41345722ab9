-- `sweep` meets its contract: the records written and the sweep over the positions left are the whole sweep (Going).
use Rattle.calls_sweep.proofs.Going.{Going, Adding}
use Rattle.calls_sweep.proofs.sweep.sweep.Given as goal

abbrev pub invariant-loop-p : goal.invariant-loop-p
invariant-loop-p l =
    Going l.w l.l (record { c = l.initial.c; n = l.n }) (record { c = l.c; n = l.n }) l.heads l.nexts l.initial.acts l.acts l.count l.p × Adding l.w l.l (record { c = l.initial.c; n = l.n }) (record { c = l.c; n = l.n }) l.sent l.sum l.p
