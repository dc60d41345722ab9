-- The letters of a name of two words, or of more.
-- By the laws of four words.
use native.Mathlib.Omega.{arith}
use mathlib.Core.Path.{sym}
use Rattle.text_letters.proofs.Pages.{then, same}
use Rattle.text_letters.proofs.Letters.{key-short, key-long}
use Rattle.text_letters.proofs.Page.put_key.Goals as goal
use Rattle.text_letters.proofs.Page.put_key.Goals.{else-k-eq0-via-then-k-eq0+else-k-eq0-2, else-k-eq0-via-else-k-eq0}

pub returns-then-k-eq0-2 : goal.returns-then-k-eq0-2
returns-then-k-eq0-2 c = same (sym (key-short c.args.k c.if-k-eq0.true c.if-k-eq0-2.true)) c.put_two.ensures

pub returns-else-k-eq0 : goal.returns-else-k-eq0
returns-else-k-eq0 c =
    same (sym (key-long c.args.k (omega arith) (omega arith) (λ p q. elim c.else-k-eq0.branch [ else-k-eq0-via-then-k-eq0+else-k-eq0-2 w ↦ w.if-k-eq0-2.false q | else-k-eq0-via-else-k-eq0 w ↦ w.if-k-eq0.false p ])))
    (then c.put_four.ensures (then c.put_four-else-k-eq0.ensures c.put_two-else-k-eq0.ensures))
