-- `must_act` meets its contract: what would act is asked for its right.
use mathlib.Core.Path.{sym, ◌∙◌}
use Rattle.table.specs.Fire.{must_act}
use Rattle.calls_must.proofs.forced.must_act.Goals as goal

pub returns-then-would_act : goal.returns-then-would_act
unfolding must_act
returns-then-would_act c = rw (sym c.would_act.ensures ∙ c.if-would_act.true) c.right_in.ensures

pub returns-else-would_act : goal.returns-else-would_act
unfolding must_act
returns-else-would_act c = rw (sym c.would_act.ensures ∙ c.if-would_act.false) c.if-would_act.false
