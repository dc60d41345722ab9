-- `spared` meets its contract: with less room than positions nothing is said.
use native.Mathlib.Omega.{arith}
use Rattle.calls_act.proofs.Positions.{few-comps}
use Rattle.calls_step.proofs.step.spared.Goals as goal

pub returns : goal.returns
returns c = λ e.
    let n = few-comps _ _ c.args.net.passes in
    (omega arith, omega (arith, n, c.messages.ensures, c.if-messages.false), c.known_steady.ensures e)
