-- The four words of a name within the script, or the slower reading of one that runs past its end.
-- By the definition of a name.
use mathlib.Core.Path.{refl}
use Rattle.table.specs.Words.{name_at}
use Rattle.table.proofs.words.key_at.Goals as goal

pub returns-then-o-wide : goal.returns-then-o-wide
unfolding name_at
returns-then-o-wide c = refl
