-- `forced_report` meets its contract: question 17, then the report of a valid table.
use Rattle.calls_forced.specs.Report.{forced_report}
use Rattle.calls.proofs.forced_report.Goals as goal

pub returns-in-Some : goal.returns-in-Some
unfolding forced_report
returns-in-Some c =
    let e = rw c.in-Some.is at c.network.ensures in
    rw (← e.0, ← e.1, ← e.2, c.in-Some.net.passes) c.forced_valid.ensures

pub returns-in-None : goal.returns-in-None
unfolding forced_report
returns-in-None c =
    let v = rw c.in-None.is at c.network.ensures in
    rw (v, c.number.ensures)
