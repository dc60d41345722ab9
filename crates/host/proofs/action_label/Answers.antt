-- Question 17, those of the action, then the label.
-- By the law of the label that the code gives back.
use native.Mathlib.Omega.{arith}
use Rattle.host.specs.Shown.{label_answer}
use Rattle.host.proofs.Given.{refuses, answers-as}
use Rattle.host.proofs.Labelled.{label-refused, label-taken}
use Rattle.host.proofs.action_label.Goals as goal

pub returns-in_default : goal.returns-in_default
unfolding label_answer
returns-in_default c = rw (c.in_default.ensures, c.from.ensures) (refuses 17 _)

pub returns-then-r-ne0 : goal.returns-then-r-ne0
returns-then-r-ne0 c =
    let s = c.in-Some.ensures in
    let v = rw (s.0, s.1, s.2) at c.in-Some.net.passes in
    let e = rw (s.0, s.1, s.2) at c.label_at-r.ensures in
    answers-as (label-refused _ _ _ _ _ _ c.label_at-r.result v e c.if-r-ne0.true) (refuses _ _)

pub returns : goal.returns
returns c =
    let s = c.in-Some.ensures in
    let v = rw (s.0, s.1, s.2) at c.in-Some.net.passes in
    let e = rw (s.0, s.1, s.2) at c.label_at-r.ensures in
    answers-as (label-taken _ _ _ _ _ _ c.label_at-r.result v e (omega (arith, c.if-r-ne0.false))) (rw c.from-2.ensures c.give_label.ensures)
