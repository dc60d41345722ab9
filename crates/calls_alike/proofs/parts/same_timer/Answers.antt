-- Timers above 1,000,000 are inf, others are their numbers.
-- By what each stands for.
use mathlib.Core.Path.{ap}
use Rattle.terms.specs.Clock.{ticks_of}
use borrow.Author.Tests.{eq-eqb}
use Rattle.calls_alike.proofs.Decided.{always, infs-decide}
use Rattle.calls_alike.proofs.parts.same_timer.Goals as goal

pub returns-then-t-u : goal.returns-then-t-u
returns-then-t-u c = rw (eq-eqb _ _ c.if-t-u.true) (always (ap ticks_of c.if-t-u.true))

pub returns-else-t-u : goal.returns-else-t-u
returns-else-t-u c = rw c.min.ensures (infs-decide c.args.t c.args.u c.if-t-u.false)
