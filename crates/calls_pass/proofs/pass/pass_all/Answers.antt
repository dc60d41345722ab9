-- `pass_all` meets its contract: in place, or in place up to the first component that splits and then out of a copy (Passing).
use native.Mathlib.Omega.{arith}
use Rattle.calls_act.proofs.Positions.{few-comps}
use Rattle.calls_pass.proofs.Passing.{here-done, copy-good, all-passed}
use Rattle.calls_pass.proofs.pass.pass_all.Goals as goal

pub returns-in_default : goal.returns-in_default
returns-in_default c =
    let a = c.args in
    let d = here-done a.w.now a.l (record { c = a.c.now; n = a.n }) _ _ c.in_default.ensures (omega arith) in
    (d.0, d.1, few-comps a.w.now (record { c = a.c.now; n = a.n }) c.requires.0, d.2)

pub pass_rest-requires : goal.pass_rest-requires
pass_rest-requires c =
    let a = c.args in
    let e = c.in-Some.ensures in
    (copy-good a.w.now a.l (record { c = a.c.now; n = a.n }) _ _ e c.requires.0, e.size, e.few)

pub returns : goal.returns
returns c =
    let a = c.args in
    all-passed a.w.now a.l (record { c = a.c.now; n = a.n }) _ _ c.in-Some.ensures _ _ c.pass_rest.ensures
