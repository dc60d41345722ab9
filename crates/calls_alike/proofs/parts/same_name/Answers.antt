-- Two names are one if their letters are.
-- By what a name's words stand for.
use mathlib.Core.Path.{ap, ◌∙◌}
use Rattle.terms.specs.Names.{same_name}
use Rattle.table.specs.Words.{name_at}
use Rattle.calls_alike.proofs.Decided.{told, flipped, names-decide}
use Rattle.calls_alike.proofs.parts.same_name.Goals as goal

pub returns : goal.returns
returns c =
    let k = c.args in
    flipped (told (c.is_named.ensures ∙ ap (same_name (name_at k.v.now k.p)) c.key_at.ensures) (names-decide (name_at k.v.now k.p) (name_at k.w.now k.o)))
