-- The field that the definition names.
-- By its definition.
use Rattle.table.specs.Words.{next_at}
use Rattle.table.proofs.words.next_at.Goals as goal

pub returns : goal.returns
unfolding next_at
returns c = c.field.ensures
