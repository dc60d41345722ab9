-- `step_by` meets its contract: question 8, then the step with or without what it keeps.
use native.Mathlib.Omega.{arith}
use mathlib.Core.Path.{refl}
use lib.ListN.{length}
use Rattle.calls_step.proofs.Stepping.{step-out}
use Rattle.calls_step.proofs.step.step_by.Goals as goal

pub returns-then-word-l : goal.returns-then-word-l
returns-then-word-l c =
    let a = c.args in
    rw (step-out a.w.now (record { c = a.c.now; n = a.n }) a.l (length a.records.now) (omega (arith, c.word.ensures))) (refl, refl, refl)
