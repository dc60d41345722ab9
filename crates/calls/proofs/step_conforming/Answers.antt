-- `step_conforming` meets its contract: question 17, then the conforming step on a valid table.
use mathlib.Core.Path.{refl, sym, ◌∙◌}
use Rattle.calls_profile.specs.Profiled.{conforming_answer}
use Rattle.calls.proofs.step_conforming.Goals as goal

pub step_conforming_valid-requires : goal.step_conforming_valid-requires
step_conforming_valid-requires c = sym c.is_valid.ensures ∙ c.if-is_valid.true

pub returns-then-is_valid : goal.returns-then-is_valid
unfolding conforming_answer
returns-then-is_valid c =
    let v = sym c.is_valid.ensures ∙ c.if-is_valid.true in
    rw v c.step_conforming_valid.ensures

pub returns : goal.returns
unfolding conforming_answer
returns c =
    let v = sym c.is_valid.ensures ∙ c.if-is_valid.false in
    rw v (rw c.number.ensures at c.refuse.ensures, refl, refl)
