-- A name, written beside the lent bytes first.
-- By the law that a name has at most 16 bytes.
use native.Mathlib.Omega.{arith}
use Rattle.text_letters.proofs.Pages.{from_start}
use Rattle.run_line.proofs.Fits.{name-short}
use Rattle.host.proofs.Given.{handed}
use Rattle.host.proofs.give_name.Goals as goal

pub returns : goal.returns
returns c = handed (from_start c.new-page.ensures.begins c.put_name.ensures) (name-short _ _) (omega arith) (rw c.text.ensures at c.give.ensures)
