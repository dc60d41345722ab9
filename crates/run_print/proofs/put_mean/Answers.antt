-- There were no messages, or the mean is written as a number.
-- By the answer of `mean_of` (Means).
use Rattle.text_letters.proofs.Pages.{same, then}
use Rattle.run_print.proofs.Means.{line-none, line-some, in-range}
use Rattle.run_print.proofs.put_mean.Goals as goal

pub returns-then-m-eq0 : goal.returns-then-m-eq0
returns-then-m-eq0 c = same (line-none _ _ _ c.mean_of-m.ensures c.if-m-eq0.true) c.put_all.ensures

pub rounded-requires : goal.rounded-requires
rounded-requires c = in-range _ _ _ c.mean_of-m.ensures c.requires.1 c.if-m-eq0.false

pub returns-else-m-eq0 : goal.returns-else-m-eq0
returns-else-m-eq0 c =
    let m = c.mean_of-m in
    let e = rw c.rounded.ensures at c.put_number.ensures in
    same (line-some _ _ m.result m.ensures c.if-m-eq0.false) (then e c.put.ensures)
