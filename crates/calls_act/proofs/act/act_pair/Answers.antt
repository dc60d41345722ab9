-- `act_pair` meets its contract: two positions in use hold good components, and what they become is put in their places.
use native.Mathlib.Omega.{arith}
use mathlib.Core.Path.{refl, ap, ap₂, ◌∙◌}
use Rattle.std.proofs.lemmas.Result.{err_from_is_err_and}
use Rattle.table.specs.Fire.{together_at}
use Rattle.table.specs.declared.State.{State}
use Rattle.table.proofs.InUse.{valid-ledger}
use Rattle.table.proofs.Tests.{comp-fine}
use Rattle.calls_act.proofs.Positions.{few-comps, comp-good, valid-parts, met-ledger, two-refused, two-full, two-left, two-out}
use Rattle.calls_act.proofs.act.act_pair.Goals as goal

pub returns-then-n-p : goal.returns-then-n-p
returns-then-n-p c =
    let a = c.args in
    rw (two-out a.w.now (record { c = a.c.now; n = a.n }) a.p a.q c.then-n-p.either) (refl, refl)

pub comp_at-x-requires : goal.comp_at-x-requires
comp_at-x-requires c = omega (arith, few-comps _ _ c.requires)

pub comp_at-requires : goal.comp_at-requires
comp_at-requires c = omega (arith, few-comps _ _ c.requires)

pub fire_pair-requires : goal.fire_pair-requires
fire_pair-requires c =
    let a = c.args in
    let st : State = record { c = a.c.now; n = a.n } in
    ((valid-parts a.w.now st c.requires).0, rw c.comp_at-x.ensures (comp-good a.w.now st c.requires a.p c.if-n-p.false), rw c.comp_at.ensures (comp-good a.w.now st c.requires a.q c.if-n-q.false))

pub returns-in_err-m : goal.returns-in_err-m
returns-in_err-m c =
    let a = c.args in
    let st : State = record { c = a.c.now; n = a.n } in
    let p = err_from_is_err_and c.from_residual.result c.from_residual.ensures.1 in
    rw (p.1, p.2, two-refused a.w.now st a.p a.q _ c.if-n-p.false c.if-n-q.false (c.in_err-m.ensures ∙ ap₂ (together_at a.w.now) c.comp_at-x.ensures c.comp_at.ensures)) (refl, refl)

pub returns-then-messages-ge-MOST : goal.returns-then-messages-ge-MOST
returns-then-messages-ge-MOST c =
    let a = c.args in
    let st : State = record { c = a.c.now; n = a.n } in
    rw (two-full a.w.now st a.p a.q _ c.if-n-p.false c.if-n-q.false (c.in_ok-m.ensures ∙ ap₂ (together_at a.w.now) c.comp_at-x.ensures c.comp_at.ensures) (omega (arith, c.if-messages-ge-MOST.true, c.messages.ensures))) (refl, refl)

pub put_comp-requires : goal.put_comp-requires
put_comp-requires c = omega (arith, few-comps _ _ c.requires)

pub put_comp-requires-2 : goal.put_comp-requires-2
put_comp-requires-2 c = omega (arith, few-comps _ _ c.requires)

pub count_messages-requires : goal.count_messages-requires
count_messages-requires c =
    let a = c.args in
    let st : State = record { c = a.c.now; n = a.n } in
    let h = few-comps a.w.now st c.requires in
    let e = met-ledger a.c.now a.p a.q c.in_ok-m.m.sender c.in_ok-m.m.receiver (omega arith) (omega arith) in
    let g = valid-ledger a.w.now st c.requires in
    let x = (comp-fine a.w.now _ (comp-good a.w.now st c.requires a.p (omega arith))).wait in
    rw (c.put_comp-2.ensures, c.put_comp.ensures, e.0, e.1, c.wide.ensures)
    (omega (arith, c.if-messages-ge-MOST.false, c.messages.ensures), omega (arith, g.few, g.within, x, ap (λ y. y.wait) c.comp_at-x.ensures))

pub returns : goal.returns
returns c =
    let a = c.args in
    let st : State = record { c = a.c.now; n = a.n } in
    rw (c.count_messages.ensures, c.wide.ensures, c.put_comp-2.ensures, c.put_comp.ensures, c.comp_at-x.ensures)
    (two-left a.w.now st a.p a.q c.in_ok-m.m c.requires c.sized.ensures c.if-n-p.false c.if-n-q.false (c.in_ok-m.ensures ∙ ap₂ (together_at a.w.now) c.comp_at-x.ensures c.comp_at.ensures) (omega (arith, c.if-messages-ge-MOST.false, c.messages.ensures)))
