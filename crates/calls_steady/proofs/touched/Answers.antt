-- `touched` meets its contract: the mark decides, then the location.
use borrow.Author.Tests.{le-ltb, lt-ltb}
use Rattle.calls_steady.specs.Steady.{touches}
use Rattle.calls_steady.proofs.touched.Goals as goal

pub returns-then-c-lt64 : goal.returns-then-c-lt64
unfolding touches
returns-then-c-lt64 c = rw (lt-ltb _ _ c.if-c-lt64.true)

pub returns-else-c-lt64 : goal.returns-else-c-lt64
unfolding touches
returns-else-c-lt64 c = rw (le-ltb _ _ c.if-c-lt64.false)
