-- `act_by` meets its contract: what must act does what it does by itself.
use mathlib.Core.Path.{sym, ◌∙◌}
use Rattle.calls_sweep.specs.Visit.{act_by}
use Rattle.calls_sweep.proofs.sweep.act_by.Goals as goal

pub returns-then-must_act : goal.returns-then-must_act
unfolding act_by
returns-then-must_act c = rw (← c.is_some.ensures, sym c.must_act.ensures ∙ c.if-must_act.true) c.act_of.ensures

pub returns : goal.returns
unfolding act_by
returns c = rw (← c.is_some.ensures, sym c.must_act.ensures ∙ c.if-must_act.false)
