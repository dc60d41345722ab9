-- `numbered` meets its contract: the kind decides which action it is.
use native.Mathlib.Omega.{arith}
use borrow.Author.Tests.{ne_eqb}
use Rattle.calls_act.specs.Acted.{action_of}
use Rattle.calls_act.proofs.action.Action.numbered.Goals as goal

pub returns-in-1 : goal.returns-in-1
unfolding action_of
returns-in-1 c = rw c.in-1.is

pub returns-in-2 : goal.returns-in-2
unfolding action_of
returns-in-2 c = rw c.in-2.is

pub returns-in-3 : goal.returns-in-3
unfolding action_of
returns-in-3 c = rw c.in-3.is

pub returns-in_default : goal.returns-in_default
unfolding action_of
returns-in_default c =
    let k = c.args.kind in
    rw (ne_eqb k 1 (λ e. omega arith), ne_eqb k 2 (λ e. omega arith), ne_eqb k 3 (λ e. omega arith))
