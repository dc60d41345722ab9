-- `key_of` meets its contract: the greatest rank leaves room for a position.
use native.Mathlib.Omega.{arith}
use Rattle.calls_wait.specs.Waits.{key_of}
use Rattle.calls_wait.proofs.key_of.Goals as goal

pub overflow_mul-result : goal.overflow_mul-result
overflow_mul-result c = omega (arith, c.rank.ensures.1)

pub overflow_cast-result : goal.overflow_cast-result
overflow_cast-result c = omega arith

pub overflow_add-result : goal.overflow_add-result
overflow_add-result c = omega (arith, c.rank.ensures.1)

pub returns : goal.returns
unfolding key_of
returns c = rw c.rank.ensures.0
