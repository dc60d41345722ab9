-- `becomes_call` meets its contract: a head that is no call is refused, and of a call the definition computes.
use mathlib.Core.Path.{sym, ap, subst}
use Prim.Native.Nat.{◌<◌}
use Rattle.terms.specs.Rules.Kind.{calls}
use Rattle.table.specs.Fire.{becomes_at, loaded}
use Rattle.calls_fire.specs.Fired.{callee}
use Rattle.calls_fire.proofs.Heads.{no-call}
use Rattle.calls_fire.proofs.fire.becomes_call.Goals as goal

pub returns-in_default : goal.returns-in_default
returns-in_default c = no-call c.args.w.now c.args.c c.args.h c.in_default.not-Call

pub body_of-place-requires : goal.body_of-place-requires
unfolding callee
body_of-place-requires c =
    rw c.wide.ensures (subst (λ h. callee h < 32) c.in-Call.is c.requires.0)

pub returns : goal.returns
unfolding becomes_at loaded
returns c =
    let a = c.args in
    rw (
      c.left.ensures,
      c.body_of-place.ensures,
      c.wide.ensures,
      c.arg_in-x3.ensures,
      c.arg_in-x2.ensures,
      c.arg_in-x1.ensures,
      c.arg_in-x0.ensures,
      c.wide-i.ensures,
    ) (sym (ap (becomes_at a.w.now calls a.c) c.in-Call.is))
