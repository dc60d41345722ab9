-- `is_letter` knows the letters: the library's test of a byte is that of two ranges.
use Rattle.terms.proofs.Classes.{capital-is, lower-is}
use Rattle.terms.proofs.characters.is_letter.Goals as goal

pub returns : goal.returns
returns c = rw (capital-is c.args.b, lower-is c.args.b) c.is_ascii_alphabetic.ensures.value
