-- The names of channels stand one after another.
use Rattle.table.specs.Words.{chan_name}
use Rattle.host.proofs.channel_name.Goals as goal

pub returns : goal.returns
unfolding chan_name
returns c = rw c.from.ensures c.name_at.ensures
