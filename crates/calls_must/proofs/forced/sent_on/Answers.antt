-- `sent_on` meets its contract: only an output sends on a channel.
use mathlib.Core.Path.{sym, ap, ◌∙◌}
use Rattle.std.specs.Prelude.{unwrap_or}
use Rattle.calls_must.specs.Heard.{sends_on}
use Rattle.calls_must.proofs.Hearing.{no-output, sent-number}
use Rattle.calls_must.proofs.forced.sent_on.Goals as goal

pub returns-in-Out : goal.returns-in-Out
unfolding sends_on
returns-in-Out c = let e = sym (ap sends_on c.in-Out.is) in record { which = e; number = ap (λ o. unwrap_or o 64) e ∙ sent-number c.args.h }

pub returns-in_default : goal.returns-in_default
returns-in_default c = let e = no-output c.args.h c.in_default.not-Out in record { which = e; number = ap (λ o. unwrap_or o 64) e ∙ sent-number c.args.h }
