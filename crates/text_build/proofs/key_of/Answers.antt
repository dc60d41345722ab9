-- The four words of a word of the text, each from its four bytes.
use Rattle.text_build.specs.Keys.{key_of}
use Rattle.text_build.proofs.key_of.Goals as goal

pub returns : goal.returns
unfolding key_of
returns c = rw (c.quad.ensures, c.quad-2.ensures, c.quad-3.ensures, c.quad-4.ensures)
