-- `would_act` meets its contract: in each arm the head is known.
use mathlib.Core.Path.{sym, ap, ◌∙◌}
use Rattle.table.specs.Split.{due_at}
use Rattle.table.specs.Fire.{would_act}
use Rattle.calls_must.proofs.forced.would_act.Goals as goal

pub returns-in-Stop : goal.returns-in-Stop
unfolding would_act
returns-in-Stop c = let a = c.args in sym (ap (would_act a.heard a.c) c.in-Stop.is)

pub returns-in-Go : goal.returns-in-Go
unfolding would_act due_at
returns-in-Go c = let a = c.args in c.is_due.ensures ∙ sym (ap (would_act a.heard a.c) c.in-Go.is)

pub returns-in-Out : goal.returns-in-Out
unfolding would_act
returns-in-Out c = let a = c.args in sym (ap (would_act a.heard a.c) c.in-Out.is)

pub returns-in-In : goal.returns-in-In
unfolding would_act
returns-in-In c = let a = c.args in sym (ap (would_act a.heard a.c) c.in-In.is)

pub returns-in-Call : goal.returns-in-Call
unfolding would_act
returns-in-Call c = let a = c.args in sym (ap (would_act a.heard a.c) c.in-Call.is)
