-- Question 17, then the number.
-- By the answer to question 17.
use mathlib.Core.Path.{sym, ◌∙◌}
use Rattle.host.specs.Shown.{count_answer}
use Rattle.host.proofs.count_at.Goals as goal

pub returns-then-is_valid : goal.returns-then-is_valid
unfolding count_answer
returns-then-is_valid c = let v = sym c.is_valid.ensures ∙ c.if-is_valid.true in rw (v, c.word.ensures)

pub returns : goal.returns
unfolding count_answer
returns c = let v = sym c.is_valid.ensures ∙ c.if-is_valid.false in rw v
