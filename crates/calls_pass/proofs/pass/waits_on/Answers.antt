-- `waits_on` meets its contract: marked or ready.
use mathlib.Core.Path.{ap, ◌∙◌}
use borrow.Author.Tests.{lt-ltb, le-ltb}
use Rattle.table.specs.Words.{head_at}
use Rattle.calls_pass.specs.Turn.{only_waits, waits_on}
use Rattle.calls_fire.proofs.Heads.{place-fits}
use Rattle.table.proofs.Tests.{script-fine}
use Rattle.calls_pass.proofs.pass.waits_on.Goals as goal

pub returns-then-c-lt64 : goal.returns-then-c-lt64
unfolding waits_on
returns-then-c-lt64 c = rw (lt-ltb _ _ c.if-c-lt64.true)

pub head_at-h-requires : goal.head_at-h-requires
head_at-h-requires c =
    let q = c.requires in
    rw c.wide.ensures (place-fits c.args.w.now c.args.c q.0 q.1)

pub only_waits-requires : goal.only_waits-requires
only_waits-requires c =
    let a = c.args in
    (script-fine a.w.now c.requires.0).edition

pub returns : goal.returns
unfolding waits_on
returns c =
    let a = c.args in
    rw (le-ltb _ _ c.if-c-lt64.false) (c.only_waits.ensures ∙ ap (only_waits a.w.now a.c) (c.head_at-h.ensures ∙ ap (head_at a.w.now) c.wide.ensures))
