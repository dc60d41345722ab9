-- By the fields.
use Rattle.text_tree.specs.Asked.{comp_of}
use Rattle.text_answer.proofs.state.comp_of.Goals as goal

pub returns : goal.returns
unfolding comp_of
returns c = rw (c.word-t.ensures, c.wide.ensures)
