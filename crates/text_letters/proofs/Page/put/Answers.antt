-- One byte within the buffer, past its end, and where the count stops.
-- By the laws of the three places.
use native.Mathlib.Omega.{arith}
use mathlib.Core.Path.{refl}
use Rattle.text_letters.proofs.Puts.{one_in, one-past, one-full}
use Rattle.text_letters.proofs.Page.put.Goals as goal

pub returns-then-self : goal.returns-then-self
returns-then-self c = let p = c.args.self.now in record { same_bytes = refl; wrote = one_in p.buf.now p.at c.args.b (omega arith) (omega arith) }

pub returns-then-self-lt9223372036854775808 : goal.returns-then-self-lt9223372036854775808
returns-then-self-lt9223372036854775808 c = let p = c.args.self.now in record { same_bytes = refl; wrote = one-past p.buf.now p.at c.args.b (omega arith) (omega arith) }

pub returns-else-self-lt9223372036854775808 : goal.returns-else-self-lt9223372036854775808
returns-else-self-lt9223372036854775808 c = let p = c.args.self.now in record { same_bytes = refl; wrote = one-full p.buf.now p.at c.args.b (omega arith) (omega arith) }
