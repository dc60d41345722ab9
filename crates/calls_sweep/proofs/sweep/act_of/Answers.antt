-- `act_of` meets its contract: in each arm the head is known.
use mathlib.Core.Path.{sym, ap}
use Rattle.calls_sweep.specs.Visit.{act_of}
use Rattle.calls_sweep.proofs.sweep.act_of.Goals as goal

pub returns-in-Stop : goal.returns-in-Stop
unfolding act_of
returns-in-Stop c = sym (ap act_of c.in-Stop.is)

pub returns-in-Go : goal.returns-in-Go
unfolding act_of
returns-in-Go c = sym (ap act_of c.in-Go.is)

pub returns-in-Out : goal.returns-in-Out
unfolding act_of
returns-in-Out c = sym (ap act_of c.in-Out.is)

pub returns-in-In : goal.returns-in-In
unfolding act_of
returns-in-In c = sym (ap act_of c.in-In.is)

pub returns-in-Call : goal.returns-in-Call
unfolding act_of
returns-in-Call c = sym (ap act_of c.in-Call.is)
