-- `right_in` meets its contract: in each arm the head is known.
use mathlib.Core.Path.{sym, ap}
use Rattle.table.specs.Fire.{right_in}
use Rattle.calls_fire.proofs.Heads.{needs-none}
use Rattle.calls_fire.proofs.rights.right_in.Goals as goal

pub returns-in-Go : goal.returns-in-Go
unfolding right_in
returns-in-Go c =
    let a = c.args in
    rw (c.may_leave.ensures, c.value_in-x.ensures) (sym (ap (right_in a.w.now a.c) c.in-Go.is))

pub returns-in-Out : goal.returns-in-Out
unfolding right_in
returns-in-Out c =
    let a = c.args in
    rw c.may_meet.ensures (sym (ap (right_in a.w.now a.c) c.in-Out.is))

pub returns-in-Stop : goal.returns-in-Stop
returns-in-Stop c = needs-none c.args.w.now c.args.c c.args.h c.in-Stop.is
