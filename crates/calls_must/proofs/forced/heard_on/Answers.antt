-- `heard_on` meets its contract: only an input hears a channel.
use mathlib.Core.Path.{sym, ap}
use Rattle.calls_must.specs.Heard.{heard_on}
use Rattle.calls_must.proofs.Hearing.{no-input}
use Rattle.calls_must.proofs.forced.heard_on.Goals as goal

pub returns-in-In : goal.returns-in-In
unfolding heard_on
returns-in-In c = sym (ap heard_on c.in-In.is)

pub returns-in_default : goal.returns-in_default
returns-in_default c = no-input c.args.h c.in_default.not-In
