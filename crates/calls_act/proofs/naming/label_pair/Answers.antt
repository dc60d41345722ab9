-- Question 8 of both positions, then what `fire` answers of the two components.
-- By the law of the label from its components alone.
use native.Mathlib.Omega.{arith}
use mathlib.Core.Path.{ap₂, ◌∙◌}
use Rattle.std.proofs.lemmas.Result.{err_from_is_err_and}
use Rattle.table.specs.Fire.{together_at}
use Rattle.table.specs.declared.State.{State}
use Rattle.calls_act.proofs.Positions.{few-comps, comp-good, valid-parts}
use Rattle.calls_act.proofs.Labelling.{two-past, two_at}
use Rattle.calls_act.proofs.naming.label_pair.Goals as goal

pub returns-then-net-p : goal.returns-then-net-p
returns-then-net-p c = let a = c.args in two-past a.net.script.now (record { c = a.net.words.now; n = a.net.n }) c.args.net.passes a.p a.q c.then-net-p.either

pub comp_at-requires : goal.comp_at-requires
comp_at-requires c = let a = c.args in omega (arith, few-comps a.net.script.now (record { c = a.net.words.now; n = a.net.n }) c.args.net.passes)

pub comp_at-requires-2 : goal.comp_at-requires-2
comp_at-requires-2 c = let a = c.args in omega (arith, few-comps a.net.script.now (record { c = a.net.words.now; n = a.net.n }) c.args.net.passes)

pub fire_pair-requires : goal.fire_pair-requires
fire_pair-requires c =
    let a = c.args in
    let st : State = record { c = a.net.words.now; n = a.net.n } in
    ((valid-parts a.net.script.now st c.args.net.passes).0, rw c.comp_at.ensures (comp-good a.net.script.now st c.args.net.passes a.p c.if-net-p.false), rw c.comp_at-2.ensures (comp-good a.net.script.now st c.args.net.passes a.q c.if-net-q.false))

pub returns-in_err-m : goal.returns-in_err-m
returns-in_err-m c =
    let a = c.args in
    let p = err_from_is_err_and c.from_residual.result c.from_residual.ensures.1 in
    rw (p.1, p.2) (two_at a.net.script.now (record { c = a.net.words.now; n = a.net.n }) c.args.net.passes a.p a.q _ c.if-net-p.false c.if-net-q.false (c.in_err-m.ensures ∙ ap₂ (together_at a.net.script.now) c.comp_at.ensures c.comp_at-2.ensures))

pub returns : goal.returns
returns c =
    let a = c.args in
    two_at a.net.script.now (record { c = a.net.words.now; n = a.net.n }) c.args.net.passes a.p a.q _ c.if-net-p.false c.if-net-q.false (c.in_ok-m.ensures ∙ ap₂ (together_at a.net.script.now) c.comp_at.ensures c.comp_at-2.ensures)
