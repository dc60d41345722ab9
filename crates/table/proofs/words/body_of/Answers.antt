-- The word that the definition names.
-- By its definition.
use mathlib.Core.Path.{refl}
use Rattle.table.specs.Words.{body_of}
use Rattle.table.proofs.words.body_of.Goals as goal

pub returns : goal.returns
unfolding body_of
returns c = refl
