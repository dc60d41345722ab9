-- The write call: a network that fails question 17 is refused, and any other is written by `write_valid`.
-- By the answer to question 17.
use Rattle.text_write.proofs.Answered.{says-17}
use Rattle.text_write.proofs.write.Goals as goal

pub returns-in-None : goal.returns-in-None
returns-in-None c =
    let a = c.args in
    rw c.from.ensures (says-17 a.w.now (record { c = a.c.now; n = a.n }) a.buf.now c.in-None.ensures)
