-- `opening` meets its contract: each question in turn (Proposing).
use native.Mathlib.Omega.{arith}
use Rattle.table.proofs.ValidBool.{failed, passed}
use Rattle.calls_propose.proofs.Proposing.{begin-bad, begin-out, begin-in}
use Rattle.calls_propose.proofs.next.opening.Goals as goal

pub returns-then-not-is_valid : goal.returns-then-not-is_valid
returns-then-not-is_valid c =
    let a = c.args in
    begin-bad a.w.now (record { c = a.c.now; n = a.n }) a.l (failed c.if-not-is_valid.true c.is_valid.ensures)

pub returns-then-word-l : goal.returns-then-word-l
returns-then-word-l c =
    let a = c.args in
    begin-out a.w.now (record { c = a.c.now; n = a.n }) a.l (passed c.if-not-is_valid.false c.is_valid.ensures) (omega (arith, c.word.ensures))

pub returns : goal.returns
returns c =
    let a = c.args in
    begin-in a.w.now (record { c = a.c.now; n = a.n }) a.l (passed c.if-not-is_valid.false c.is_valid.ensures) (omega (arith, c.word.ensures))
