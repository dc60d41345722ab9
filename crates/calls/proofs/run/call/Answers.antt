-- `call` meets its contract: 17, if it was answered by no; else 4 is a tick, every other number an action of that kind.
use mathlib.Core.List.{[], ◌∷◌}
use borrow.Author.Tests.{eq-eqb, ne_eqb}
use Rattle.table.specs.declared.State.{State}
use Rattle.table.proofs.ValidBool.{failed, passed}
use Rattle.calls_act.specs.Acted.{action_answer, action_rule}
use Rattle.calls_tick.specs.Ticked.{tick_answer, tick_rule}
use Rattle.calls.specs.Run.{answer_to, given_by}
use Rattle.calls.proofs.Calls.{tick-does, act-does, refused-17}
use Rattle.calls.proofs.run.call.Goals as goal

pub returns-then-not-good : goal.returns-then-not-good
returns-then-not-good c =
    let a = c.args in
    refused-17 a.w.now (record { c = a.c.now; n = a.n }) (a.kind ∷ a.p ∷ a.q ∷ []) c.refuse.result (failed c.if-not-good.true c.requires) (rw c.number.ensures at c.refuse.ensures)

pub tick_valid-requires : goal.tick_valid-requires
tick_valid-requires c = passed c.if-not-good.false c.requires

pub returns-then-kind-eq4 : goal.returns-then-kind-eq4
unfolding answer_to given_by tick_answer
returns-then-kind-eq4 c =
    let a = c.args in
    let st : State = record { c = a.c.now; n = a.n } in
    rw (eq-eqb _ _ c.if-kind-eq4.true, passed c.if-not-good.false c.requires) (tick-does a.w.now st (tick_rule a.w.now st a.p) c.tick_valid.result _ c.tick_valid.ensures)

pub act_valid-r-requires : goal.act_valid-r-requires
act_valid-r-requires c = passed c.if-not-good.false c.requires

pub returns : goal.returns
unfolding answer_to given_by action_answer
returns c =
    let a = c.args in
    let st : State = record { c = a.c.now; n = a.n } in
    let e = rw (c.wide.ensures, c.wide-2.ensures) at c.act_valid-r.ensures in
    rw (ne_eqb _ _ c.if-kind-eq4.false, passed c.if-not-good.false c.requires) (act-does a.w.now st (action_rule a.w.now st a.kind a.p a.q) c.act_valid-r.result _ e)
