-- `step_conforming_valid` meets its contract: by what the test answers.
use mathlib.Core.Bool.{true, false}
use mathlib.Core.Path.{refl, ap, ◌∙◌}
use lib.ListN.{length}
use Rattle.std.specs.Prelude.{Ok}
use Rattle.calls_profile.proofs.Answering.{test-refused, test-answered}
use Rattle.calls_profile.proofs.outward.step_conforming_valid.Goals as goal

pub returns-in-Err : goal.returns-in-Err
returns-in-Err c =
    let a = c.args in
    rw (test-refused a.w.now (record { c = a.c.now; n = a.n }) a.l (length a.records.now) c.conforms_valid.result c.conforms_valid.ensures c.in-Err.e c.in-Err.is, ← c.number.ensures) (c.refuse.ensures, refl, refl)

pub returns-in-Ok-true : goal.returns-in-Ok-true
returns-in-Ok-true c =
    let a = c.args in
    rw (test-answered a.w.now (record { c = a.c.now; n = a.n }) a.l (length a.records.now) c.conforms_valid.result c.conforms_valid.ensures true (c.in-Ok-true.is ∙ ap Ok c.in-Ok-true.field-0-test)) c.step_valid.ensures

pub returns-in-Ok-false : goal.returns-in-Ok-false
returns-in-Ok-false c =
    let a = c.args in
    rw (test-answered a.w.now (record { c = a.c.now; n = a.n }) a.l (length a.records.now) c.conforms_valid.result c.conforms_valid.ensures false (c.in-Ok-false.is ∙ ap Ok c.in-Ok-false.field-0-test), ← c.number-in-Ok-false.ensures) (c.refuse-in-Ok-false.ensures, refl, refl)
