-- The digits of a number: those of a tenth of it, and one more.
-- By the laws of digits.
use mathlib.Core.Path.{sym}
use Rattle.text_letters.proofs.Pages.{then, same}
use Rattle.text.proofs.Digits.{digits-one}
use Rattle.text_letters.proofs.Numbers.{digits_more}
use Rattle.text_letters.proofs.Page.+put_number.Goals as goal

pub returns-then-n-lt10 : goal.returns-then-n-lt10
returns-then-n-lt10 t c = same (sym (digits-one c.args.n c.if-n-lt10.true)) c.put.ensures

pub returns-else-n-lt10 : goal.returns-else-n-lt10
returns-else-n-lt10 t c = same (sym (digits_more c.args.n c.if-n-lt10.false)) (then c.put_number.ensures c.put-else-n-lt10.ensures)
