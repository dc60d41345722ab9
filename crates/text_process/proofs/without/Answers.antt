-- The slot of an input emptied; one past the eight is none of them.
-- By setting an element, or none.
use native.Mathlib.Omega.{arith}
use mathlib.Core.Path.{ap, sym}
use lib.ListN.{set}
use lib.Seq.{set_out}
use Rattle.text_process.proofs.without.Goals as goal

pub returns-then-j-lt8 : goal.returns-then-j-lt8
returns-then-j-lt8 c = ap (λ n. set c.args.vals.now n 64) c.wide-j.ensures

pub returns-else-j-lt8 : goal.returns-else-j-lt8
returns-else-j-lt8 c = sym (set_out c.args.vals.now c.args.k 64 (omega arith))
