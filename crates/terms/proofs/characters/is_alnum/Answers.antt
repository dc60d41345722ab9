-- `is_alnum` knows the letters and digits: the library's test of a byte is that of three ranges.
use mathlib.Core.Path.{sym, ◌∙◌}
use Rattle.terms.proofs.Classes.{alnum-is}
use Rattle.terms.proofs.characters.is_alnum.Goals as goal

pub returns : goal.returns
returns c = c.is_ascii_alphanumeric.ensures.value ∙ sym (alnum-is c.args.b)
