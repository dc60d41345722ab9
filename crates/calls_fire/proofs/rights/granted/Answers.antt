-- `granted` meets its contract: by the kind of the label.
use native.Mathlib.Omega.{arith}
use borrow.Author.Tests.{ne_eqb}
use Rattle.table.specs.Fire.{granted_at}
use Rattle.calls_fire.proofs.rights.granted.Goals as goal

pub returns-in-1 : goal.returns-in-1
unfolding granted_at
returns-in-1 c = rw c.in-1.is

pub returns-in-2 : goal.returns-in-2
unfolding granted_at
returns-in-2 c = rw (c.may_leave.ensures, c.in-2.is)

pub returns-in_default : goal.returns-in_default
unfolding granted_at
returns-in_default c =
    let k = c.args.x.kind in
    rw (c.may_meet.ensures, ne_eqb k 1 (λ e. omega arith), ne_eqb k 2 (λ e. omega arith))
