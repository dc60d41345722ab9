-- `all_fired` meets its contract: the components so far stand for what the records so far make of those at entry (Proposing).
use native.Mathlib.Omega.{arith}
use mathlib.Core.Path.{refl, sym, ap, ◌∙◌}
use Prim.Native.Nat.{◌+◌}
use lib.ListN.{drop}
use Rattle.std.proofs.lemmas.Result.{err_from_is_err_and}
use Rattle.terms.proofs.Refusals.{number-some}
use Rattle.table.specs.declared.State.{State}
use Rattle.table_waits.proofs.Ledger.{others-then}
use Rattle.calls_act.specs.Acted.{after}
use Rattle.calls_propose.specs.Proposed.{so_far, fired_all}
use Rattle.calls_propose.proofs.Proposing.{one_more, all-fired, fired-no}
use Rattle.calls_propose.proofs.next.all_fired.Goals as goal

pub returns-in_err-opening : goal.returns-in_err-opening
returns-in_err-opening c =
    let a = c.args in
    let s : State = record { c = a.c.now; n = a.n } in
    let p = err_from_is_err_and c.from_residual.result c.from_residual.ensures.1 in
    let f = c.in_err-opening.ensures in
    rw (p.1, p.2) (fired-no a.w.now a.l s a.records.now _ _ _ _ (number-some c.in_err-opening.field-0.0) refl f.far)

pub loop-r-init : goal.loop-r-init
loop-r-init c =
    let f = c.in_ok-opening.ensures in
    record { held = f.held (omega arith); far = ap (fired_all c.args.w.now c.args.l c.args.records.now) f.far }

pub act_next-requires : goal.act_next-requires
act_next-requires c = (c.loop-r.invariant.held.good, c.loop-r.invariant.held.here)

pub returns-in_err-act_next : goal.returns-in_err-act_next
returns-in_err-act_next c =
    let a = c.args in
    let s : State = record { c = a.c.now; n = a.n } in
    let l = c.loop-r in
    let p = err_from_is_err_and c.from_residual-in_err-act_next.result c.from_residual-in_err-act_next.ensures.1 in
    let f = c.in_err-act_next.ensures in
    let e = sym (one_more a.w.now a.l a.records.now (so_far a.w.now 0 (after s l.c)) l.r-index c.loop-r-test.true) ∙ l.invariant.far in
    rw (p.1, p.2) (fired-no a.w.now a.l s (drop (l.r-index + 1) a.records.now) _ _ _ _ (number-some c.in_err-act_next.field-0.0) e f.far)

pub loop-r-preserved : goal.loop-r-preserved
loop-r-preserved c =
    let a = c.args in
    let s : State = record { c = a.c.now; n = a.n } in
    let l = c.loop-r in
    let f = c.in_ok-act_next.ensures in
    let h = f.held (omega arith) in
    record {
      held = record { good = h.good; here = h.here; past = others-then (omega arith) l.invariant.held.past h.past };
      far = ap (fired_all a.w.now a.l (drop (l.r-index + 1) a.records.now)) f.far ∙ sym (one_more a.w.now a.l a.records.now (so_far a.w.now 0 (after s l.c)) l.r-index c.loop-r-test.true) ∙ l.invariant.far;
    }

pub returns : goal.returns
returns c =
    let a = c.args in
    let s : State = record { c = a.c.now; n = a.n } in
    let i = c.loop-r.invariant in
    record { far = sym (all-fired a.w.now a.l a.records.now (so_far a.w.now 0 (after s c.loop-r.c)) c.loop-r.r-index c.loop-r-test.false) ∙ i.far; held = λ z. i.held }
