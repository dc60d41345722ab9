-- `only_waits` meets its contract: in each arm the head is known.
use mathlib.Core.Path.{sym, ap, ◌∙◌}
use mathlib.Core.Bool.{not}
use Rattle.calls_pass.specs.Turn.{only_waits}
use Rattle.calls_pass.proofs.Turns.{silent-waits, waiting-waits}
use Rattle.calls_pass.proofs.pass.only_waits.Goals as goal

pub returns-in-Go : goal.returns-in-Go
unfolding only_waits
returns-in-Go c = let a = c.args in sym (ap (only_waits a.w.now a.c) c.in-Go.is)

pub returns-in-Out : goal.returns-in-Out
returns-in-Out c = let a = c.args in ap not c.is_expired.ensures ∙ waiting-waits a.w.now a.c a.h c.in-Out.is

pub returns-in-Stop : goal.returns-in-Stop
returns-in-Stop c = let a = c.args in silent-waits a.w.now a.c a.h c.in-Stop.is
