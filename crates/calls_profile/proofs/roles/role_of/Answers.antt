-- `role_of` meets its contract: who is not ready has no role, and the channel of another is one of 64.
use Prim.Native.Nat.{◌+◌}
use native.Mathlib.Omega.{arith}
use mathlib.Core.Path.{sym, ap, subst, ◌∙◌}
use Rattle.table.specs.Words.{head_at}
use Rattle.table.specs.Split.{due_at}
use Rattle.table.proofs.ValidBool.{failed, passed}
use Rattle.calls_fire.proofs.Heads.{place-fits}
use Rattle.calls_must.proofs.Hearing.{InEar, ear-fits}
use Rattle.calls_profile.specs.Roles.{receivers, role_in, role_of}
use Rattle.calls_profile.proofs.Ready.{role-is}
use Rattle.calls_profile.proofs.roles.role_of.Goals as goal

pub returns-then-not-ready_at : goal.returns-then-not-ready_at
unfolding role_of
returns-then-not-ready_at c = rw (failed c.if-not-ready_at.true c.ready_at.ensures)

pub head_at-requires : goal.head_at-requires
head_at-requires c =
    let a = c.args in
    let q = c.requires in
    rw c.wide.ensures (place-fits a.w.now a.c q.0 q.1)

pub returns-in-Stop : goal.returns-in-Stop
unfolding role_in
returns-in-Stop c =
    let a = c.args in
    let r = passed c.if-not-ready_at.false c.ready_at.ensures in
    let e = ap (head_at a.w.now) (sym c.wide.ensures) ∙ sym c.head_at.ensures ∙ c.in-Stop.is in
    role-is a.w.now a.l a.c _ r e

pub returns-then-is_due : goal.returns-then-is_due
unfolding role_in due_at
returns-then-is_due c =
    let a = c.args in
    let r = passed c.if-not-ready_at.false c.ready_at.ensures in
    let e = ap (head_at a.w.now) (sym c.wide.ensures) ∙ sym c.head_at.ensures ∙ c.in-Go.is in
    role-is a.w.now a.l a.c _ r e ∙ rw (sym c.is_due.ensures ∙ c.if-is_due.true)

pub returns-else-is_due : goal.returns-else-is_due
unfolding role_in due_at
returns-else-is_due c =
    let a = c.args in
    let r = passed c.if-not-ready_at.false c.ready_at.ensures in
    let e = ap (head_at a.w.now) (sym c.wide.ensures) ∙ sym c.head_at.ensures ∙ c.in-Go.is in
    role-is a.w.now a.l a.c _ r e ∙ rw (sym c.is_due.ensures ∙ c.if-is_due.false)

pub returns-in-Out : goal.returns-in-Out
unfolding role_in
returns-in-Out c =
    let a = c.args in
    let r = passed c.if-not-ready_at.false c.ready_at.ensures in
    let e = ap (head_at a.w.now) (sym c.wide.ensures) ∙ sym c.head_at.ensures ∙ c.in-Out.is in
    let f = subst (InEar 64) e (ear-fits a.w.now a.c c.requires.0 c.requires.1) in
    (c.wide-in-Out.ensures ∙ sym (role-is a.w.now a.l a.c _ r e), omega (arith, f, c.wide-in-Out.ensures))

pub returns-in-In : goal.returns-in-In
unfolding role_in
returns-in-In c =
    let a = c.args in
    let r = passed c.if-not-ready_at.false c.ready_at.ensures in
    let e = ap (head_at a.w.now) (sym c.wide.ensures) ∙ sym c.head_at.ensures ∙ c.in-In.is in
    let f = subst (InEar 64) e (ear-fits a.w.now a.c c.requires.0 c.requires.1) in
    (ap (λ k. k + receivers) c.wide-in-In.ensures ∙ sym (role-is a.w.now a.l a.c _ r e), omega (arith, f, c.wide-in-In.ensures))

pub returns-in-Call : goal.returns-in-Call
unfolding role_in
returns-in-Call c =
    let a = c.args in
    let r = passed c.if-not-ready_at.false c.ready_at.ensures in
    let e = ap (head_at a.w.now) (sym c.wide.ensures) ∙ sym c.head_at.ensures ∙ c.in-Call.is in
    role-is a.w.now a.l a.c _ r e
