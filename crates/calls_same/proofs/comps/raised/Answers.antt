-- `raised` meets its contract: the position decides.
use borrow.Author.Tests.{eq-eqb, ne_eqb}
use Rattle.calls_same.specs.Unused.{raised_to}
use Rattle.calls_same.proofs.comps.raised.Goals as goal

pub returns-then-p-low : goal.returns-then-p-low
unfolding raised_to
returns-then-p-low c = rw (eq-eqb _ _ c.if-p-low.true)

pub returns-else-p-low : goal.returns-else-p-low
unfolding raised_to
returns-else-p-low c = rw (ne_eqb _ _ c.if-p-low.false)
