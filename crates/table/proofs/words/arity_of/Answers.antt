-- The word that the definition names.
-- By its definition.
use mathlib.Core.Path.{refl}
use Rattle.table.specs.Words.{arity_of}
use Rattle.table.proofs.words.arity_of.Goals as goal

pub returns : goal.returns
unfolding arity_of
returns c = refl
