-- `tick_free` meets its contract: as many components are left as there were (Staying).
use native.Mathlib.Omega.{arith}
use mathlib.Core.Path.{◌∙◌}
use Rattle.table.specs.declared.State.{State}
use Rattle.table.specs.Meaning.{comps_of}
use Rattle.table.proofs.InUse.{comps-length}
use Rattle.calls_act.proofs.Positions.{few-comps}
use Rattle.calls_tick.proofs.Ticking.{tick-done, tick-took}
use Rattle.calls_pass.proofs.Passing.{pass_fits}
use Rattle.calls_steady.proofs.Staying.{tick-steady}
use Rattle.calls_tick.proofs.tick.tick_free.Goals as goal

pub returns : goal.returns
returns c =
    let a = c.args in
    let v = c.requires in
    let st : State = record { c = a.c.now; n = a.n } in
    let s = tick-steady a.w.now a.l (comps_of st) v.3 ∙ comps-length st in
    let few = few-comps a.w.now st v.0 in
    let p = rw s at (pass_fits _ _ _ _ c.pass_all.ensures (omega arith)) in
    rw (tick-done a.w.now st a.l v.0 v.1 v.2 (omega arith)) (tick-took a.w.now st _ a.n a.l v.0 v.1 p.0 (omega arith) (omega arith) p.1)
