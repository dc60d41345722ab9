-- `tick_by` meets its contract: questions 8 and 12 in turn, by the laws of the tick on a table (Ticking).
use native.Mathlib.Omega.{arith}
use mathlib.Core.Path.{refl, sym, ◌∙◌}
use Prim.Native.Nat.{◌<◌}
use Rattle.table.specs.Words.{locs_in}
use Rattle.calls_tick.proofs.Ticking.{tick-out, tick-forced}
use Rattle.calls_tick.proofs.tick.tick_by.Goals as goal

pub returns-then-word-l : goal.returns-then-word-l
returns-then-word-l c =
    let a = c.args in
    rw (tick-out a.w.now (record { c = a.c.now; n = a.n }) a.l (omega (arith, c.word.ensures))) (refl, refl)

pub returns-then-forced_at : goal.returns-then-forced_at
returns-then-forced_at c =
    let a = c.args in
    let h : a.l < locs_in a.w.now = omega (arith, c.word.ensures) in
    rw (tick-forced a.w.now (record { c = a.c.now; n = a.n }) a.l c.requires h (sym c.forced_at.ensures ∙ c.if-forced_at.true)) (refl, refl)
