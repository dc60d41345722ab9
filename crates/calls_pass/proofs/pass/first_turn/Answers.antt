-- `first_turn` meets its contract: mark and location decide.
use mathlib.Core.Path.{ap, ◌∙◌}
use borrow.Author.Tests.{lt-ltb, le-ltb, eq-eqb, ne_eqb}
use Rattle.table.specs.Words.{head_at}
use Rattle.calls_pass.specs.Turn.{wait_turn, first_turn}
use Rattle.calls_fire.proofs.Heads.{place-fits}
use Rattle.table.proofs.Tests.{part-fine, comp-fine, script-fine}
use Rattle.calls_pass.proofs.pass.first_turn.Goals as goal

pub part_turn-requires : goal.part_turn-requires
part_turn-requires c =
    let q = c.requires in
    place-fits c.args.w.now c.args.c q.0 q.1

pub returns-then-c-l : goal.returns-then-c-l
unfolding first_turn
returns-then-c-l c = rw (lt-ltb _ _ c.if-c-lt64.true, eq-eqb _ _ c.if-c-l.true) c.part_turn.ensures

pub returns-then-c-lt64 : goal.returns-then-c-lt64
unfolding first_turn
returns-then-c-lt64 c = rw (lt-ltb _ _ c.if-c-lt64.true, ne_eqb _ _ c.if-c-l.false) c.whole_turn.ensures

pub head_at-h-requires : goal.head_at-h-requires
head_at-h-requires c =
    let q = c.requires in
    rw c.wide.ensures (place-fits c.args.w.now c.args.c q.0 q.1)

pub wait_turn-requires : goal.wait_turn-requires
wait_turn-requires c =
    let a = c.args in
    let q = c.requires in
    (rw (c.head_at-h.ensures, c.wide.ensures) (part-fine a.w.now q.0 a.c.place (comp-fine a.w.now a.c q.1).place).head, place-fits a.w.now a.c q.0 q.1, (script-fine a.w.now q.0).edition)

pub returns-then-c-l-2 : goal.returns-then-c-l-2
unfolding first_turn
returns-then-c-l-2 c =
    let a = c.args in
    rw (le-ltb _ _ c.if-c-lt64.false, eq-eqb _ _ c.if-c-l-2.true) (c.wait_turn.ensures ∙ ap (wait_turn a.w.now a.c) (c.head_at-h.ensures ∙ ap (head_at a.w.now) c.wide.ensures))

pub returns : goal.returns
unfolding first_turn
returns c = rw (le-ltb _ _ c.if-c-lt64.false, ne_eqb _ _ c.if-c-l-2.false) c.whole_turn-2.ensures
