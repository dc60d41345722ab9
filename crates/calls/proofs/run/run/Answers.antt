-- `run` meets its contract. The loop's invariant: the calls made so far are a run, and the codes past them are as they were.
use native.Mathlib.Omega.{arith}
use mathlib.Core.Path.{◌≡◌}
use Rattle.calls.proofs.Calls.{running-begin, running_more, running-end}
use Rattle.calls.proofs.run.run.Goals as goal

pub loop-j-init : goal.loop-j-init
loop-j-init c = record { many = c.min-done.ensures; running = running-begin _ _ _ _; good = c.is_valid-good.ensures }

pub loop-j-preserved : goal.loop-j-preserved
loop-j-preserved c =
    let i = c.loop-j.invariant in
    record { many = i.many; running = running_more _ _ _ _ _ _ _ _ _ (omega arith) (omega arith) i.running c.call-r.ensures; good = i.good }

pub returns : goal.returns
returns c =
    let i = c.loop-j.invariant in
    let e : c.loop-j.j ≡ c.min-done.result = omega arith in
    record { runs = rw (← e) (running-end i.running); done = i.many }
