-- `Timer::rank` meets its contract: the lesser of the number and that of inf.
use native.Mathlib.Omega.{arith}
use mathlib.Core.Path.{◌∙◌}
use Rattle.terms.proofs.Clock.{rank-min}
use Rattle.terms.proofs.Timer.rank.Goals as goal

pub returns : goal.returns
returns c = (c.min.ensures ∙ rank-min c.args.self.raw, omega arith)
