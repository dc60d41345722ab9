-- `step_free` meets its contract: there is room for the records and for the components (Stepping).
use native.Mathlib.Omega.{arith}
use Prim.Native.Nat.{◌+◌, ◌≤◌}
use mathlib.Core.Path.{◌∙◌}
use lib.ListN.{length}
use Rattle.table.specs.declared.State.{State}
use Rattle.table.specs.Meaning.{count_in}
use Rattle.table_waits.proofs.Ledger.{counted-length}
use Rattle.calls_act.proofs.Positions.{few-comps}
use Rattle.calls_pass.proofs.Passing.{pass_fits}
use Rattle.calls_step.proofs.Stepping.{fits-now, sent-few, told-good, step-steady, step-done, step-took, written}
use Rattle.calls_step.proofs.step.step_free.Goals as goal

pub count_messages-requires : goal.count_messages-requires
count_messages-requires c =
    let a = c.args in
    let v = c.requires in
    let st : State = record { c = a.c.now; n = a.n } in
    let s = c.sweep-s.ensures in
    fits-now a.w.now st a.l v.0 _ _ _ _ _ _ s (omega (arith, v.3, sent-few a.w.now st a.l v.0 _ _ _ _ _ _ s))

pub pass_all-requires : goal.pass_all-requires
pass_all-requires c =
    let a = c.args in
    let v = c.requires in
    let st : State = record { c = a.c.now; n = a.n } in
    let s = c.sweep-s.ensures in
    let h = sent-few a.w.now st a.l v.0 _ _ _ _ _ _ s in
    rw c.count_messages.ensures (told-good a.w.now st a.l v.0 _ _ _ _ _ _ s v.1 (omega (arith, v.3, h)), counted-length _ _ _ ∙ s.slotted)

pub returns : goal.returns
returns c =
    let a = c.args in
    let v = c.requires in
    let st : State = record { c = a.c.now; n = a.n } in
    let s = c.sweep-s.ensures in
    let h : count_in a.c.now + c.sweep-s.result.sent ≤ 1_000_000 = omega (arith, v.3, sent-few a.w.now st a.l v.0 _ _ _ _ _ _ s) in
    let z = step-steady a.w.now st a.l v.0 _ _ _ _ _ _ s v.1 v.4 in
    let e = rw c.count_messages.ensures at c.pass_all.ensures in
    let few = few-comps a.w.now st v.0 in
    let p = rw z at (pass_fits _ _ _ _ e (omega arith)) in
    rw (step-done a.w.now st a.l v.0 _ _ _ _ _ _ s v.1 (length a.records.now) (omega (arith, s.few, v.2)) h (omega arith))
    (step-took a.w.now st a.l v.0 _ _ _ _ _ _ s v.1 h _ a.n _ _ p.0 (omega arith) (omega arith) p.1 (written a.w.now st a.l v.0 _ _ _ _ _ _ s v.1))
