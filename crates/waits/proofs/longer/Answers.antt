-- A wait below its end is one more, and at its end it stays.
-- By the test's answer.
use native.Mathlib.Omega.{arith}
use native.Mathlib.Numerals.{add-one}
use borrow.Author.Tests.{lt-ltb, le-ltb}
use Rattle.waits.specs.Waits.{longer}
use Rattle.waits.proofs.longer.Goals as goal

pub returns-then-n-lt-LONGEST : goal.returns-then-n-lt-LONGEST
unfolding longer
returns-then-n-lt-LONGEST c = let n = c.args.n in rw (lt-ltb n 1_000_000 (omega arith)) (add-one n)

pub returns-else-n-lt-LONGEST : goal.returns-else-n-lt-LONGEST
unfolding longer
returns-else-n-lt-LONGEST c = let n = c.args.n in rw (le-ltb n 1_000_000 (omega arith))
