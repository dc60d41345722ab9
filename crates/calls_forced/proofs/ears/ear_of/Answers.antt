-- `ear_of` meets its contract: a marked component hears nothing, another what its part hears.
use mathlib.Core.Path.{ap, ◌∙◌}
use borrow.Author.Tests.{lt-ltb, le-ltb}
use Rattle.table.specs.Words.{head_at}
use Rattle.calls_fire.proofs.Heads.{place-fits}
use Rattle.calls_forced.specs.Marked.{ear_in, ear_of}
use Rattle.calls_forced.proofs.ears.ear_of.Goals as goal

pub returns-then-c-lt64 : goal.returns-then-c-lt64
unfolding ear_of
returns-then-c-lt64 c = rw (lt-ltb _ _ c.if-c-lt64.true)

pub head_at-requires : goal.head_at-requires
head_at-requires c =
    let a = c.args in
    let q = c.requires in
    rw c.wide.ensures (place-fits a.w.now a.c q.0 q.1)

pub returns : goal.returns
unfolding ear_of
returns c =
    let a = c.args in
    rw (le-ltb _ _ c.if-c-lt64.false) (c.ear_in.ensures ∙ ap (ear_in a.c.loc) (c.head_at.ensures ∙ ap (head_at a.w.now) c.wide.ensures))
