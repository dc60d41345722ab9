-- `sends_by` meets its contract: who lacks the right has no channel.
use mathlib.Core.Path.{sym, ◌∙◌}
use Rattle.calls_sweep.specs.Visit.{sends_by}
use Rattle.calls_sweep.proofs.sweep.sends_by.Goals as goal

pub returns-then-right_in : goal.returns-then-right_in
unfolding sends_by
returns-then-right_in c = rw (sym c.right_in.ensures ∙ c.if-right_in.true) (c.unwrap_or.ensures ∙ c.sent_on.ensures.number)

pub returns : goal.returns
unfolding sends_by
returns c = rw (sym c.right_in.ensures ∙ c.if-right_in.false)
