-- `fresh_at` meets its contract.
use Rattle.table.specs.Split.{fresh}
use Rattle.calls_pass.proofs.pass.fresh_at.Goals as goal

pub returns : goal.returns
unfolding fresh
returns c = rw (c.timer_in.ensures, c.head_at-h.ensures, c.wide.ensures)
