-- `Timer::new` meets its contract: the test decides which case of the definition holds.
use borrow.Author.Tests.{le-leb, lt-leb}
use Rattle.terms.specs.Clock.{made_of}
use Rattle.terms.proofs.Timer.new.Goals as goal

pub returns-then-n-le1000000 : goal.returns-then-n-le1000000
unfolding made_of
returns-then-n-le1000000 c = simp (le-leb _ _ c.if-n-le1000000.true)

pub returns-else-n-le1000000 : goal.returns-else-n-le1000000
unfolding made_of
returns-else-n-le1000000 c = simp (lt-leb _ _ c.if-n-le1000000.false)
