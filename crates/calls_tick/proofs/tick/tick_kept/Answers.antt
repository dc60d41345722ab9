-- `tick_kept` meets its contract: question 13, by the laws of the tick on a table (Ticking).
use native.Mathlib.Omega.{arith}
use mathlib.Core.Path.{refl}
use Rattle.calls_tick.proofs.Ticking.{tick-full, tick-done, tick-took}
use Rattle.calls_tick.proofs.tick.tick_kept.Goals as goal

pub returns-in_default : goal.returns-in_default
returns-in_default c =
    let a = c.args in
    let v = c.requires in
    rw (tick-full a.w.now (record { c = a.c.now; n = a.n }) a.l v.0 v.1 v.2 c.in_default.ensures) (refl, c.restore.ensures)

pub returns : goal.returns
returns c =
    let a = c.args in
    let v = c.requires in
    let p = c.in-Some.ensures in
    rw (tick-done a.w.now (record { c = a.c.now; n = a.n }) a.l v.0 v.1 v.2 (omega (arith, p.1, p.2)))
    (tick-took a.w.now (record { c = a.c.now; n = a.n }) _ _ a.l v.0 v.1 p.0 p.1 (omega (arith, p.1, p.2)) p.3)
