-- `Timer::is_expired` meets its contract: the test on the numbers is the test on the timer and the edition.
use Rattle.terms.proofs.Clock.{expired-below}
use Rattle.terms.proofs.Timer.is_expired.Goals as goal

pub returns : goal.returns
returns c = expired-below _ _ c.requires
