-- Four bytes of a word, the first lowest.
use borrow.Author.Rules.{rules}
use Rattle.text_build.specs.Keys.{quad_of}
use Rattle.text_build.proofs.quad.Goals as goal

pub returns : goal.returns
unfolding quad_of
returns c = search rules
