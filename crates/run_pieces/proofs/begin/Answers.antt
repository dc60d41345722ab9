-- The text is refused, or its first step is next.
use Rattle.std.proofs.Common.{arith}
use Rattle.run_print.proofs.Playing.{as-given}
use Rattle.run_pieces.proofs.Pieces.{first-refused, first-step}
use Rattle.run_pieces.proofs.begin.Goals as goal

pub returns-then-r-ne0 : goal.returns-then-r-ne0
returns-then-r-ne0 c =
    let x = as-given _ _ _ _ _ c.all_rights.ensures c.read_over-r.ensures in
    let b = first-refused _ _ _ _ _ x c.if-r-ne0.true in
    (b.0, b.1, (c.read_over-r.result, b.2, x))

pub returns : goal.returns
returns c =
    let x = as-given _ _ _ _ _ c.all_rights.ensures c.read_over-r.ensures in
    let b = first-step _ _ _ _ _ x (omega (arith, c.if-r-ne0.false)) in
    (b.0, b.1, (c.read_over-r.result, b.2, x))
