-- `Timer::infinite` meets its contract: 1,000,001 stands for inf.
use native.Mathlib.Omega.{arith}
use Rattle.terms.proofs.Clock.{inf-of}
use Rattle.terms.proofs.Timer.infinite.Goals as goal

pub returns : goal.returns
returns c = inf-of 1_000_001 (omega arith)
