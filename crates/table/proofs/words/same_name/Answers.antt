-- Two places have the same name where their words are the same name.
-- By what their keys stand for.
use Rattle.table.proofs.words.same_name.Goals as goal

pub returns : goal.returns
returns c = rw (c.same_key.ensures, c.key_at.ensures, c.key_at-2.ensures)
