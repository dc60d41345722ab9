-- The slot of the input's name emptied; one past the eight is none of them.
-- By setting an element, or none.
use native.Mathlib.Omega.{arith}
use mathlib.Core.Path.{refl, ap, sym}
use lib.ListN.{set}
use lib.Seq.{set_out}
use Rattle.table.specs.Words.{field}
use Rattle.calls_alike.proofs.parts.hidden.Goals as goal

pub returns-then-k-lt8 : goal.returns-then-k-lt8
returns-then-k-lt8 c = (refl, ap (λ n. set c.args.w.now.vals n 64) c.link-k.ensures)

pub returns-else-k-lt8 : goal.returns-else-k-lt8
returns-else-k-lt8 c = (refl, sym (set_out c.args.w.now.vals (field c.args.w.now.table.now c.args.i 3) 64 (omega (arith, c.link-k.ensures, c.if-k-lt8.false))))
