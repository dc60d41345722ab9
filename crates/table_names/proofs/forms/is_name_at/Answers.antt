-- The name's words are read and tested.
-- By the two calls' answers.
use mathlib.Core.Path.{ap, ◌∙◌}
use Rattle.terms.specs.Letters.{is_name}
use Rattle.table_names.specs.Tests.{first_of}
use Rattle.table_names.proofs.forms.is_name_at.Goals as goal

pub returns : goal.returns
returns c = c.is_name.ensures ∙ ap (is_name (first_of c.args.s)) c.key_at.ensures
