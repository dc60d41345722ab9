-- The digits of a number: those of a tenth of it, and one more.
-- The measure is the number.
use Rattle.text_letters.proofs.Page.+put_number.Given as goal

abbrev pub decreases-put_number : goal.decreases-put_number
decreases-put_number l = l.n
