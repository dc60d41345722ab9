-- `test_valid` meets its contract: the answer in the call's form.
use mathlib.Core.Path.{sym, ap, ◌∙◌}
use Rattle.terms.specs.Refusals.{answer_of}
use Rattle.calls_profile.specs.Profiled.{tested}
use Rattle.calls_profile.proofs.outward.test_valid.Goals as goal

pub returns-in-Ok : goal.returns-in-Ok
returns-in-Ok c = ap (λ r. tested (answer_of (λ y. y) r)) (sym c.in-Ok.is) ∙ ap tested c.conforms_valid.ensures

pub returns-in-Err : goal.returns-in-Err
returns-in-Err c = c.refuse.ensures ∙ rw c.number.ensures (ap (λ r. tested (answer_of (λ y. y) r)) (sym c.in-Err.is) ∙ ap tested c.conforms_valid.ensures)
