-- Question 17 of both, then the comparison.
-- By the tests in their order.
use Rattle.table.proofs.ValidBool.{failed, passed}
use Rattle.calls_same.specs.Answer.{same_answer}
use Rattle.calls_same.proofs.same.Goals.{then-not-is_valid-via-then-not-is_valid, then-not-is_valid-via-else-not-is_valid+then-not-is_valid-2}
use Rattle.calls_same.proofs.same.Goals as goal

pub returns-then-not-is_valid : goal.returns-then-not-is_valid
unfolding same_answer
returns-then-not-is_valid c =
    elim c.then-not-is_valid.branch [
      | then-not-is_valid-via-then-not-is_valid w ↦ rw (failed w.if-not-is_valid.true c.is_valid.ensures) c.answer.ensures
      | then-not-is_valid-via-else-not-is_valid+then-not-is_valid-2 w ↦ rw (passed w.if-not-is_valid.false c.is_valid.ensures, failed w.if-not-is_valid-2.true w.is_valid-else-not-is_valid.ensures) c.answer.ensures
    ]

pub returns : goal.returns
unfolding same_answer
returns c = rw (passed c.if-not-is_valid.false c.is_valid.ensures, passed c.if-not-is_valid-2.false c.is_valid-else-not-is_valid.ensures, ← c.same_networks.ensures) c.answer-2.ensures
