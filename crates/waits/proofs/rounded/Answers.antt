-- What the remainder lacks of the count is compared with it: below the half, above it, or neither.
-- By the two tests' answers.
use Prim.Native.Nat.{◌+◌}
use native.Mathlib.Omega.{arith}
use native.Mathlib.Numerals.{add-one}
use borrow.Author.Tests.{lt-ltb, le-ltb}
use Rattle.waits.specs.Mean.{rounded}
use Rattle.waits.proofs.rounded.Goals as goal

pub returns-then-r-rest : goal.returns-then-r-rest
unfolding rounded
returns-then-r-rest c =
    let a = c.args in
    rw (lt-ltb (a.r + a.r) a.n (omega arith))

pub returns-then-rest-r : goal.returns-then-rest-r
unfolding rounded
returns-then-rest-r c =
    let a = c.args in
    rw (le-ltb (a.r + a.r) a.n (omega arith)) (rw (lt-ltb a.n (a.r + a.r) (omega arith)) (add-one a.q))

pub returns-else-rest-r : goal.returns-else-rest-r
unfolding rounded
returns-else-rest-r c =
    let a = c.args in
    rw (le-ltb (a.r + a.r) a.n (omega arith)) (rw (le-ltb a.n (a.r + a.r) (omega arith)) (omega arith))
