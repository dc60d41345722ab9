-- A timer's digits, or `inf`.
-- By the range of its number.
use native.Mathlib.Omega.{arith}
use Rattle.terms.proofs.Clock.{ticks-of, inf-of}
use Rattle.text_letters.specs.Forms.{timer_text}
use Rattle.text_letters.proofs.Page.put_timer.Goals as goal

pub returns-then-t-le1000000 : goal.returns-then-t-le1000000
unfolding timer_text
returns-then-t-le1000000 c = rw (ticks-of c.args.t (omega arith)) c.put_number.ensures

pub returns-else-t-le1000000 : goal.returns-else-t-le1000000
unfolding timer_text
returns-else-t-le1000000 c = rw (inf-of c.args.t (omega arith)) c.put_all.ensures
