-- A label, written beside the lent bytes first.
-- By the law that a label has at most 51 bytes.
use native.Mathlib.Omega.{arith}
use Rattle.text_letters.proofs.Pages.{from_start}
use Rattle.run_line.proofs.Fits.{label-short}
use Rattle.host.proofs.Given.{handed}
use Rattle.host.proofs.give_label.Goals as goal

pub returns : goal.returns
returns c = handed (from_start c.new-page.ensures.begins c.put_label.ensures) (label-short _ _) (omega arith) (rw c.text.ensures at c.give.ensures)
