-- `label_one` meets its contract: question 8, then what `fire` answers of the component (Labelling).
use native.Mathlib.Omega.{arith}
use mathlib.Core.Path.{ap, ◌∙◌}
use Rattle.std.proofs.lemmas.Result.{err_from_is_err_and}
use Rattle.table.specs.Fire.{alone_at}
use Rattle.table.specs.declared.State.{State}
use Rattle.calls_act.specs.Acted.{kind_is}
use Rattle.calls_act.proofs.Positions.{few-comps, comp-good, valid-parts}
use Rattle.calls_act.proofs.Labelling.{one-past, one_at}
use Rattle.calls_act.proofs.naming.label_one.Goals as goal

pub returns-then-net-p : goal.returns-then-net-p
returns-then-net-p c = let a = c.args in one-past a.net.script.now (record { c = a.net.words.now; n = a.net.n }) c.args.net.passes (kind_is a.kind) a.p c.if-net-p.true

pub comp_at-requires : goal.comp_at-requires
comp_at-requires c = omega (arith, few-comps c.args.net.script.now (record { c = c.args.net.words.now; n = c.args.net.n }) c.args.net.passes)

pub fire_one-requires : goal.fire_one-requires
fire_one-requires c =
    let a = c.args in
    let st : State = record { c = a.net.words.now; n = a.net.n } in
    ((valid-parts a.net.script.now st c.args.net.passes).0, rw c.comp_at.ensures (comp-good a.net.script.now st c.args.net.passes a.p c.if-net-p.false))

pub returns-in_err-f : goal.returns-in_err-f
returns-in_err-f c =
    let a = c.args in
    let p = err_from_is_err_and c.from_residual.result c.from_residual.ensures.1 in
    rw (p.1, p.2) (one_at a.net.script.now (record { c = a.net.words.now; n = a.net.n }) c.args.net.passes (kind_is a.kind) a.p _ c.if-net-p.false (c.in_err-f.ensures ∙ ap (alone_at a.net.script.now (kind_is a.kind)) c.comp_at.ensures))

pub returns : goal.returns
returns c =
    let a = c.args in
    one_at a.net.script.now (record { c = a.net.words.now; n = a.net.n }) c.args.net.passes (kind_is a.kind) a.p _ c.if-net-p.false (c.in_ok-f.ensures ∙ ap (alone_at a.net.script.now (kind_is a.kind)) c.comp_at.ensures)
