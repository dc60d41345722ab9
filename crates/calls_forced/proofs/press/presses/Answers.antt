-- `presses` meets its contract: what it asks of the marks is whether its channel is heard at its location.
use mathlib.Core.Path.{ap, ◌∙◌}
use Rattle.std.proofs.Common.{rules}
use Rattle.table.specs.Fire.{must_act}
use Rattle.calls_forced.specs.Marked.{is_heard, presses_in}
use Rattle.calls_forced.proofs.Places.{heard_of}
use Rattle.calls_forced.proofs.press.presses.Goals as goal

pub returns : goal.returns
unfolding presses_in
returns c =
    let a = c.args in
    c.must_act.ensures ∙ ap (λ b. must_act a.w.now b a.c a.h) (heard_of a.ears.now a.c.loc c.sent_on.result c.is_some_and-heard.result (search rules) ∙ ap (is_heard a.ears.now a.c.loc) c.sent_on.ensures.which)
