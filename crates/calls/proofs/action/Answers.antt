-- `action` meets its contract: question 17, then the action on a valid table.
use mathlib.Core.Path.{refl, sym, ◌∙◌}
use Rattle.calls_act.specs.Acted.{action_answer}
use Rattle.calls.proofs.action.Goals as goal

pub act_valid-requires : goal.act_valid-requires
act_valid-requires c = sym c.is_valid.ensures ∙ c.if-is_valid.true

pub returns-then-is_valid : goal.returns-then-is_valid
unfolding action_answer
returns-then-is_valid c =
    let v = sym c.is_valid.ensures ∙ c.if-is_valid.true in
    rw v c.act_valid.ensures

pub returns : goal.returns
unfolding action_answer
returns c =
    let v = sym c.is_valid.ensures ∙ c.if-is_valid.false in
    rw v (rw c.number.ensures at c.refuse.ensures, refl)
