-- `step_at` meets its contract: question 17, then the step on a valid table.
use mathlib.Core.Path.{refl, sym, ◌∙◌}
use Rattle.calls_step.specs.Stepped.{step_answer}
use Rattle.calls.proofs.step_at.Goals as goal

pub step_valid-requires : goal.step_valid-requires
step_valid-requires c = sym c.is_valid.ensures ∙ c.if-is_valid.true

pub returns-then-is_valid : goal.returns-then-is_valid
unfolding step_answer
returns-then-is_valid c =
    let v = sym c.is_valid.ensures ∙ c.if-is_valid.true in
    rw v c.step_valid.ensures

pub returns : goal.returns
unfolding step_answer
returns c =
    let v = sym c.is_valid.ensures ∙ c.if-is_valid.false in
    rw v (rw c.number.ensures at c.refuse.ensures, refl, refl)
