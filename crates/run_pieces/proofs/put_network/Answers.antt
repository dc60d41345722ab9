-- The network is refused, or written.
use Rattle.std.proofs.Common.{rules, arith}
use Rattle.text_letters.proofs.Pages.{from_start}
use Rattle.run_pieces.proofs.Pieces.{piece-unwritten, piece-written}
use Rattle.run_pieces.proofs.put_network.Goals as goal

pub returns-then-r-ne0 : goal.returns-then-r-ne0
returns-then-r-ne0 c =
    let p = c.requires in
    let k = piece-unwritten _ _ p.0 p.1 _ c.write-r.ensures c.if-r-ne0.true (omega (arith, p.1, c.write-r.auto)) (from_start c.new-page.ensures.begins c.put_refused.ensures) in
    search rules

pub returns : goal.returns
returns c =
    let p = c.requires in
    piece-written _ _ p.0 p.1 _ c.write-r.ensures (omega (arith, c.if-r-ne0.false))
