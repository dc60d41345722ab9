-- `waited` meets its contract.
use Rattle.table.specs.Split.{timed}
use Rattle.calls_pass.proofs.pass.waited.Goals as goal

pub returns : goal.returns
unfolding timed
returns c = rw (c.longer.ensures, c.less_one-u.ensures.1)
