-- `stays_one` meets its contract: mark and location decide.
use borrow.Author.Tests.{lt-ltb, le-ltb, eq-eqb, ne_eqb}
use Rattle.calls_fire.proofs.Heads.{place-fits}
use Rattle.calls_steady.specs.Steady.{stays_one}
use Rattle.calls_steady.proofs.stays_one.Goals as goal

pub one_part-requires : goal.one_part-requires
one_part-requires c =
    let q = c.requires in
    place-fits c.args.w.now c.args.c q.0 q.1

pub returns-then-c-l : goal.returns-then-c-l
unfolding stays_one
returns-then-c-l c = rw (lt-ltb _ _ c.if-c-lt64.true, ne_eqb _ _ c.if-c-l.true)

pub returns-else-c-l : goal.returns-else-c-l
unfolding stays_one
returns-else-c-l c = rw (lt-ltb _ _ c.if-c-lt64.true, eq-eqb _ _ c.if-c-l.false) c.one_part.ensures

pub returns-then-c-l-2 : goal.returns-then-c-l-2
unfolding stays_one
returns-then-c-l-2 c = rw (le-ltb _ _ c.if-c-lt64.false, ne_eqb _ _ c.if-c-l-2.true)

pub returns-else-c-l-2 : goal.returns-else-c-l-2
unfolding stays_one
returns-else-c-l-2 c = rw (le-ltb _ _ c.if-c-lt64.false, eq-eqb _ _ c.if-c-l-2.false) c.leaves_one.ensures
