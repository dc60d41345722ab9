-- `is_digit` knows the digits: the library's test of a byte is that of the range.
use mathlib.Core.Path.{sym, ◌∙◌}
use Rattle.terms.proofs.Classes.{digit-is}
use Rattle.terms.proofs.characters.is_digit.Goals as goal

pub returns : goal.returns
returns c = c.is_ascii_digit.ensures.value ∙ sym (digit-is c.args.b)
