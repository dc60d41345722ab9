-- `wait_turn` meets its contract: in each arm the head is known, and a Q comes from a lesser place.
use native.Mathlib.Omega.{arith}
use mathlib.Core.Path.{sym, ap, ◌∙◌}
use Rattle.calls_pass.specs.Turn.{wait_turn}
use Rattle.calls_pass.proofs.Turns.{waiting-turn, waiting-less}
use Rattle.calls_pass.proofs.pass.wait_turn.Goals as goal

pub else_turn-requires : goal.else_turn-requires
else_turn-requires c =
    let a = c.args in
    (omega (arith, waiting-less a.w.now a.c.place c.in-Out.q a.h c.requires.0 c.in-Out.is, c.requires.1), c.requires.2)

pub returns-in-Stop : goal.returns-in-Stop
unfolding wait_turn
returns-in-Stop c =
    let a = c.args in
    c.whole_turn.ensures ∙ sym (ap (wait_turn a.w.now a.c) c.in-Stop.is)

pub returns-in-Call : goal.returns-in-Call
unfolding wait_turn
returns-in-Call c =
    let a = c.args in
    c.whole_turn-in-Call.ensures ∙ sym (ap (wait_turn a.w.now a.c) c.in-Call.is)

pub returns-in-Go : goal.returns-in-Go
unfolding wait_turn
returns-in-Go c =
    let a = c.args in
    c.timed_turn.ensures ∙ sym (ap (wait_turn a.w.now a.c) c.in-Go.is)

pub returns-in-Out : goal.returns-in-Out
returns-in-Out c = let a = c.args in c.else_turn.ensures ∙ waiting-turn a.w.now a.c a.h c.in-Out.q c.in-Out.is
