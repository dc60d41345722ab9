-- `left` meets its contract by its definition.
use mathlib.Core.Path.{refl}
use Rattle.table.specs.Fire.{left_at}
use Rattle.calls_fire.proofs.fire.left.Goals as goal

pub returns : goal.returns
unfolding left_at
returns c = refl
