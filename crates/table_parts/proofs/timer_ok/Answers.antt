-- The test of its definition.
-- By that definition.
use mathlib.Core.Path.{refl}
use Rattle.table.specs.Valid.{timer_ok}
use Rattle.table_parts.proofs.timer_ok.Goals as goal

pub returns : goal.returns
unfolding timer_ok
returns c = refl
