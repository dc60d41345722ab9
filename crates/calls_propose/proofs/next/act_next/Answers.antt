-- `act_next` meets its contract: each answer of the action, then question 16 by the label's last number (Proposing).
use native.Mathlib.Omega.{arith}
use mathlib.Core.Path.{refl}
use Rattle.std.proofs.lemmas.Result.{err_from_is_err_and}
use Rattle.terms.proofs.Refusals.{number-some}
use Rattle.calls_propose.proofs.Proposing.{next-refused, next-elsewhere, next-fired}
use Rattle.calls_propose.proofs.next.act_next.Goals as goal

pub returns-in_err-label : goal.returns-in_err-label
returns-in_err-label c =
    let a = c.args in
    let h = rw (c.wide.ensures, c.wide-2.ensures) at c.in_err-label.ensures in
    let p = err_from_is_err_and c.from_residual.result c.from_residual.ensures.1 in
    rw (p.1, p.2) (next-refused a.w.now (record { c = a.c.now; n = a.n }) a.l a.r c.requires.0 c.requires.1 _ _ h (number-some c.in_err-label.field-0.0))

pub returns-then-label-l : goal.returns-then-label-l
returns-then-label-l c =
    let a = c.args in
    let h = rw (c.wide.ensures, c.wide-2.ensures) at c.in_ok-label.ensures in
    next-elsewhere a.w.now (record { c = a.c.now; n = a.n }) a.l a.r c.requires.0 c.requires.1 _ _ h refl (λ e. omega arith)

pub returns : goal.returns
returns c =
    let a = c.args in
    let h = rw (c.wide.ensures, c.wide-2.ensures) at c.in_ok-label.ensures in
    next-fired a.w.now (record { c = a.c.now; n = a.n }) a.l a.r c.requires.0 c.requires.1 _ _ h refl (omega arith)
