-- `ear_in` meets its contract: only an input hears a channel.
use mathlib.Core.Path.{sym, ap, ◌∙◌}
use Prim.Native.Nat.{◌+◌, ◌*◌}
use Rattle.std.specs.Prelude.{Some}
use Rattle.calls_forced.specs.Marked.{ear_in}
use Rattle.calls_forced.proofs.Places.{no-ear}
use Rattle.calls_forced.proofs.ears.ear_in.Goals as goal

pub returns-in-In : goal.returns-in-In
unfolding ear_in
returns-in-In c =
    let a = c.args in
    ap (λ k. Some (k * 64 + c.wide-in-In.result)) c.wide.ensures ∙ ap (λ k. Some (a.l * 64 + k)) c.wide-in-In.ensures ∙ sym (ap (ear_in a.l) c.in-In.is)

pub returns-in_default : goal.returns-in_default
returns-in_default c = no-ear c.args.l c.args.h c.in_default.not-In
