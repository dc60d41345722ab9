-- `step_asked` meets its contract: questions 15, 18 and 13 in turn, by the laws of the step on a table (Stepping).
use native.Mathlib.Omega.{arith}
use Prim.Native.Nat.{◌+◌, ◌≤◌}
use mathlib.Core.Path.{refl, ◌∙◌}
use lib.ListN.{length}
use Rattle.table.specs.declared.State.{State}
use Rattle.table.specs.Meaning.{count_in}
use Rattle.table.proofs.InUse.{valid-ledger}
use Rattle.table_waits.proofs.Ledger.{counted-length}
use Rattle.calls_act.proofs.Positions.{few-comps}
use Rattle.calls_step.proofs.Stepping.{step_small, step-uncounted, fits-now, sent-few, count-now, told-good, step-full, step-done, step-took}
use Rattle.calls_step.proofs.step.step_asked.Goals as goal

pub sweep-s-requires : goal.sweep-s-requires
sweep-s-requires c =
    let a = c.args in
    (c.requires.0, c.sized.ensures, few-comps a.w.now (record { c = a.c.now; n = a.n }) c.requires.0)

pub returns-then-records-s : goal.returns-then-records-s
returns-then-records-s c =
    let a = c.args in
    let st : State = record { c = a.c.now; n = a.n } in
    let s = c.sweep-s.ensures in
    rw (step_small a.w.now st a.l c.requires.0 _ _ _ _ _ _ s c.requires.1 (length a.records.now) c.if-records-s.true) (refl, refl, refl)

pub overflow_add-messages : goal.overflow_add-messages
overflow_add-messages c =
    let a = c.args in
    let st : State = record { c = a.c.now; n = a.n } in
    let s = c.sweep-s.ensures in
    omega (arith, c.messages.ensures, count-now a.w.now st a.l c.requires.0 _ _ _ _ _ _ s, (valid-ledger a.w.now st c.requires.0).few, sent-few a.w.now st a.l c.requires.0 _ _ _ _ _ _ s, few-comps a.w.now st c.requires.0)

pub returns-then-messages-s-gt-MOST : goal.returns-then-messages-s-gt-MOST
returns-then-messages-s-gt-MOST c =
    let a = c.args in
    let st : State = record { c = a.c.now; n = a.n } in
    let s = c.sweep-s.ensures in
    rw (step-uncounted a.w.now st a.l c.requires.0 _ _ _ _ _ _ s c.requires.1 (length a.records.now) (omega arith) (omega (arith, c.if-messages-s-gt-MOST.true, c.messages.ensures, count-now a.w.now st a.l c.requires.0 _ _ _ _ _ _ s))) (refl, refl, refl)

pub count_messages-requires : goal.count_messages-requires
count_messages-requires c =
    let a = c.args in
    let st : State = record { c = a.c.now; n = a.n } in
    let s = c.sweep-s.ensures in
    let h : count_in a.c.now + c.sweep-s.result.sent ≤ 1_000_000 = omega (arith, c.if-messages-s-gt-MOST.false, c.messages.ensures, count-now a.w.now st a.l c.requires.0 _ _ _ _ _ _ s) in
    fits-now a.w.now st a.l c.requires.0 _ _ _ _ _ _ s h

pub pass_all-requires : goal.pass_all-requires
pass_all-requires c =
    let a = c.args in
    let st : State = record { c = a.c.now; n = a.n } in
    let s = c.sweep-s.ensures in
    let h : count_in a.c.now + c.sweep-s.result.sent ≤ 1_000_000 = omega (arith, c.if-messages-s-gt-MOST.false, c.messages.ensures, count-now a.w.now st a.l c.requires.0 _ _ _ _ _ _ s) in
    rw c.count_messages.ensures (told-good a.w.now st a.l c.requires.0 _ _ _ _ _ _ s c.requires.1 h, counted-length _ _ _ ∙ s.slotted)

pub returns-in_default : goal.returns-in_default
returns-in_default c =
    let a = c.args in
    let st : State = record { c = a.c.now; n = a.n } in
    let s = c.sweep-s.ensures in
    let h : count_in a.c.now + c.sweep-s.result.sent ≤ 1_000_000 = omega (arith, c.if-messages-s-gt-MOST.false, c.messages.ensures, count-now a.w.now st a.l c.requires.0 _ _ _ _ _ _ s) in
    let e = rw c.count_messages.ensures at c.in_default.ensures in
    rw (step-full a.w.now st a.l c.requires.0 _ _ _ _ _ _ s c.requires.1 (length a.records.now) (omega arith) h e) (refl, refl, refl)

pub put_records-requires : goal.put_records-requires
put_records-requires c =
    let a = c.args in
    let st : State = record { c = a.c.now; n = a.n } in
    let s = c.sweep-s.ensures in
    (s.room, omega (arith, s.few, few-comps a.w.now st c.requires.0), omega arith)

pub returns : goal.returns
returns c =
    let a = c.args in
    let st : State = record { c = a.c.now; n = a.n } in
    let s = c.sweep-s.ensures in
    let h : count_in a.c.now + c.sweep-s.result.sent ≤ 1_000_000 = omega (arith, c.if-messages-s-gt-MOST.false, c.messages.ensures, count-now a.w.now st a.l c.requires.0 _ _ _ _ _ _ s) in
    let p = rw c.count_messages.ensures at c.in-Some.ensures in
    rw (step-done a.w.now st a.l c.requires.0 _ _ _ _ _ _ s c.requires.1 (length a.records.now) (omega arith) h (omega (arith, p.1, p.2)))
    (step-took a.w.now st a.l c.requires.0 _ _ _ _ _ _ s c.requires.1 h _ _ _ _ p.0 p.1 (omega (arith, p.1, p.2)) p.3 c.put_records.ensures)
