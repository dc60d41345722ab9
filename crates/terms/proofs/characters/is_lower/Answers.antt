-- `is_lower` knows the small letters: the library's test of a byte is that of the range.
use mathlib.Core.Path.{sym, ◌∙◌}
use Rattle.terms.proofs.Classes.{lower-is}
use Rattle.terms.proofs.characters.is_lower.Goals as goal

pub returns : goal.returns
returns c = c.is_ascii_lowercase.ensures.value ∙ sym (lower-is c.args.b)
