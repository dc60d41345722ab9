-- `put_row` meets its contract: its three kinds of rights, one after the other (Under).
use Rattle.text_answer.proofs.Under.{row_put}
use Rattle.text_answer.proofs.given.put_row.Goals as goal

pub returns : goal.returns
returns c = row_put _ _ _ _ _ _ c.put_flags.ensures c.put_flags-2.ensures c.put_flags-3.ensures
