-- `hears_at` meets its contract: who is not ready has no channel.
use mathlib.Core.Path.{ap, ◌∙◌}
use Rattle.table.specs.Words.{head_at}
use Rattle.table.proofs.ValidBool.{failed, passed}
use Rattle.calls_must.specs.Heard.{heard_on, hears_at}
use Rattle.calls_fire.proofs.Heads.{place-fits}
use Rattle.calls_must.proofs.forced.hears_at.Goals as goal

pub returns-then-not-ready_at : goal.returns-then-not-ready_at
unfolding hears_at
returns-then-not-ready_at c = rw (failed c.if-not-ready_at.true c.ready_at.ensures)

pub head_at-requires : goal.head_at-requires
head_at-requires c =
    let a = c.args in
    let q = c.requires in
    rw c.wide.ensures (place-fits a.w.now a.c q.0 q.1)

pub returns : goal.returns
unfolding hears_at
returns c =
    let a = c.args in
    rw (passed c.if-not-ready_at.false c.ready_at.ensures) (c.heard_on.ensures ∙ ap heard_on (c.head_at.ensures ∙ ap (head_at a.w.now) c.wide.ensures))
