-- `timer_in` meets its contract: in each arm the head is known.
use Rattle.calls_pass.proofs.Turns.{silent-timer, timed-timer}
use Rattle.calls_pass.proofs.pass.timer_in.Goals as goal

pub returns-in-Stop : goal.returns-in-Stop
returns-in-Stop c = silent-timer c.args.h c.in-Stop.is

pub returns-in-Go : goal.returns-in-Go
returns-in-Go c = timed-timer c.args.h c.in-Go.t c.in-Go.is

pub returns-in-Go-2 : goal.returns-in-Go-2
returns-in-Go-2 c = timed-timer c.args.h c.in-Go.t c.in-Go.is

pub returns-in-Go-3 : goal.returns-in-Go-3
returns-in-Go-3 c = timed-timer c.args.h c.in-Go.t c.in-Go.is
