-- `is_capital` knows the capitals: the library's test of a byte is that of the range.
use mathlib.Core.Path.{sym, ◌∙◌}
use Rattle.terms.proofs.Classes.{capital-is}
use Rattle.terms.proofs.characters.is_capital.Goals as goal

pub returns : goal.returns
returns c = c.is_ascii_uppercase.ensures.value ∙ sym (capital-is c.args.b)
