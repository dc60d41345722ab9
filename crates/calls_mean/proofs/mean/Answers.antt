-- `mean` meets its contract: question 17, then the mean of what is kept beside the components.
use Rattle.table.specs.Meaning.{tally_of}
use Rattle.table.proofs.InUse.{valid-ledger}
use Rattle.table.proofs.ValidBool.{failed, passed}
use Rattle.calls_mean.specs.Averaged.{mean_answer}
use Rattle.calls_mean.proofs.mean.Goals as goal

pub returns-then-not-is_valid : goal.returns-then-not-is_valid
unfolding mean_answer
returns-then-not-is_valid c = rw (failed c.if-not-is_valid.true c.is_valid.ensures) c.answer.ensures

pub mean_of-requires : goal.mean_of-requires
mean_of-requires c = let g = valid-ledger _ _ (passed c.if-not-is_valid.false c.is_valid.ensures) in (g.few, g.within)

pub returns : goal.returns
unfolding mean_answer tally_of
returns c = rw (passed c.if-not-is_valid.false c.is_valid.ensures) c.mean_of.ensures
