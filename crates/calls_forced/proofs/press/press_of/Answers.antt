-- `press_of` meets its contract: a marked component presses nowhere, another at its location if its part presses.
use mathlib.Core.Path.{sym, ap, ◌∙◌}
use borrow.Author.Tests.{lt-ltb, le-ltb}
use Rattle.std.specs.Prelude.{Some}
use Rattle.table.specs.Words.{head_at}
use Rattle.calls_fire.proofs.Heads.{place-fits}
use Rattle.calls_forced.specs.Marked.{presses_in, press_of}
use Rattle.calls_forced.proofs.press.press_of.Goals as goal

pub returns-then-c-lt64 : goal.returns-then-c-lt64
unfolding press_of
returns-then-c-lt64 c = rw (lt-ltb _ _ c.if-c-lt64.true)

pub head_at-h-requires : goal.head_at-h-requires
head_at-h-requires c =
    let a = c.args in
    let q = c.requires in
    rw c.wide.ensures (place-fits a.w.now a.c q.0 q.1)

pub returns-then-presses : goal.returns-then-presses
unfolding press_of
returns-then-presses c =
    let a = c.args in
    rw (le-ltb _ _ c.if-c-lt64.false, sym (c.presses.ensures ∙ ap (presses_in a.w.now a.ears.now a.c) (c.head_at-h.ensures ∙ ap (head_at a.w.now) c.wide.ensures)) ∙ c.if-presses.true) (ap Some c.wide-then-presses.ensures)

pub returns-else-presses : goal.returns-else-presses
unfolding press_of
returns-else-presses c =
    let a = c.args in
    rw (le-ltb _ _ c.if-c-lt64.false, sym (c.presses.ensures ∙ ap (presses_in a.w.now a.ears.now a.c) (c.head_at-h.ensures ∙ ap (head_at a.w.now) c.wide.ensures)) ∙ c.if-presses.false)
