-- A refusal, or the mean; the other pieces have functions of their own.
use Rattle.std.proofs.Common.{rules}
use Rattle.table.proofs.InUse.{valid-ledger}
use Rattle.text_letters.proofs.Pages.{from_start}
use Rattle.run_pieces.proofs.Pieces.{piece-refused, piece-mean}
use Rattle.run_pieces.proofs.put_next.Goals as goal

pub put_mean-requires : goal.put_mean-requires
put_mean-requires c =
    let good = rw c.in-Mean.is at c.requires.0 in
    let g = valid-ledger _ _ good in
    (g.few, g.within)

pub returns-in-Refused : goal.returns-in-Refused
returns-in-Refused c =
    let few = rw c.in-Refused.is at c.requires.0 in
    let k = piece-refused c.args.w.now c.in-Refused.code c.args.now.now.state few c.requires.1 (from_start c.new-page.ensures.begins c.put_refused.ensures) in
    rw c.in-Refused.is (search rules)

pub returns-in-Mean : goal.returns-in-Mean
returns-in-Mean c =
    let good = rw c.in-Mean.is at c.requires.0 in
    let k = piece-mean c.args.w.now c.args.now.now.state good c.requires.1 (from_start c.new-page-in-Mean.ensures.begins c.put_mean.ensures) in
    rw c.in-Mean.is (search rules)
