-- `Timer::is_due` meets its contract: the test on the number is the test on the timer.
use mathlib.Core.Path.{sym}
use Rattle.terms.proofs.Clock.{due-is}
use Rattle.terms.proofs.Timer.is_due.Goals as goal

pub returns : goal.returns
returns c = sym (due-is _)
