-- `ready_at` meets its contract: the mark decides, then the location.
use borrow.Author.Tests.{lt-ltb, le-ltb, lt-leb}
use Rattle.table.specs.Fire.{ready_at}
use Rattle.calls_must.proofs.forced.ready_at.Goals as goal

pub returns-then-c-ge64 : goal.returns-then-c-ge64
unfolding ready_at
returns-then-c-ge64 c = rw (le-ltb _ _ c.if-c-ge64.true)

pub returns-else-c-ge64 : goal.returns-else-c-ge64
unfolding ready_at
returns-else-c-ge64 c = rw (lt-ltb _ _ c.if-c-ge64.false) (lt-leb 64 _ c.if-c-ge64.false)
