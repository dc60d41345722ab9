-- `is_expired` meets its contract: the timer decides under the script's edition.
use mathlib.Core.Path.{sym, ap, ◌∙◌}
use Rattle.terms.specs.Clock.{is_edition}
use Rattle.table.specs.Split.{expired_at}
use Rattle.calls_pass.proofs.pass.is_expired.Goals as goal

pub is_expired-requires : goal.is_expired-requires
is_expired-requires c = ap is_edition c.word.ensures ∙ c.requires

pub returns : goal.returns
unfolding expired_at
returns c = rw (sym c.word.ensures) c.is_expired.ensures
