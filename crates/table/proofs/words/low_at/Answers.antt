-- The field that the definition names.
-- By its definition.
use Rattle.table.specs.Words.{low_at}
use Rattle.table.proofs.words.low_at.Goals as goal

pub returns : goal.returns
unfolding low_at
returns c = c.field.ensures
