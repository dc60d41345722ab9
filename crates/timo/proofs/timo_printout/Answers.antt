-- The printout, in bytes of any number.
-- By the law of a text that is never refused: it is shorter than where the count stops.
use native.Mathlib.Omega.{arith}
use Rattle.host.proofs.Shows.{shows}
use Rattle.timo.proofs.timo_printout.Goals as goal

pub returns : goal.returns
returns c =
    let p = c.printout.ensures in
    (shows p.0 (omega arith) (omega arith), p.1)
