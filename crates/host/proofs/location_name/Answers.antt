-- The names of locations stand one after another.
use Rattle.table.specs.Words.{loc_name}
use Rattle.host.proofs.location_name.Goals as goal

pub returns : goal.returns
unfolding loc_name
returns c = rw c.from.ensures c.name_at.ensures
