-- `conforms` meets its contract: question 17, then the test on a valid table.
use Rattle.calls_profile.specs.Profiled.{test_answer}
use Rattle.calls.proofs.conforms.Goals as goal

pub returns-in-Some : goal.returns-in-Some
unfolding test_answer
returns-in-Some c =
    let e = rw c.in-Some.is at c.network.ensures in
    rw (← e.0, ← e.1, ← e.2, c.in-Some.net.passes) c.test_valid.ensures

pub returns-in-None : goal.returns-in-None
unfolding test_answer
returns-in-None c =
    let v = rw c.in-None.is at c.network.ensures in
    rw v (rw c.number.ensures at c.refuse.ensures)
