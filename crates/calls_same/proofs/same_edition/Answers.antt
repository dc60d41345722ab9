-- The two words are compared.
use Rattle.calls_same.proofs.same_edition.Goals as goal

pub returns : goal.returns
returns c = rw (c.word.ensures, c.word-2.ensures)
