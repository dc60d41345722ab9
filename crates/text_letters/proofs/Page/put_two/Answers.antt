-- The letters of two words: of the first alone where the second is 0.
-- By the laws of two words.
use native.Mathlib.Omega.{arith}
use mathlib.Core.Path.{sym}
use Rattle.text_letters.proofs.Pages.{then, same}
use Rattle.text_letters.proofs.Letters.{two_none, two-some}
use Rattle.text_letters.proofs.Page.put_two.Goals as goal

pub returns-then-y-eq0 : goal.returns-then-y-eq0
returns-then-y-eq0 c = rw c.if-y-eq0.true (same (sym (two_none c.args.x)) c.put_last.ensures)

pub returns-else-y-eq0 : goal.returns-else-y-eq0
returns-else-y-eq0 c =
    same (sym (two-some c.args.x c.args.y c.if-y-eq0.false (omega arith))) (then c.put_four.ensures c.put_last-else-y-eq0.ensures)
