-- `list_of` reads nothing, or names in brackets.
-- By whether `(` comes next.
use mathlib.Core.Path.{◌∙◌}
use lib.ListN.{drop}
use Rattle.text.specs.Tokens.{lex}
use Rattle.text_words.specs.Sorts.{fits}
use Rattle.text_parts.proofs.Fields.{list_open}
use Rattle.text_parts.proofs.list_of.Goals as goal

pub returns-in-Some : goal.returns-in-Some
returns-in-Some c = let a = c.args in c.names_at.ensures ∙ list_open (fits a.f) (lex (drop a.at a.s.now)) _ c.in-Some.ensures
