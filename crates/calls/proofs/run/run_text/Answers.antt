-- `run_text` meets its contract: what reading refuses has no network, and from what it gives the list is run (Demand3).
use native.Mathlib.Omega.{arith}
use mathlib.Core.Path.{◌≡◌}
use Rattle.calls.proofs.Demand3.{text-refused, text-ran}
use Rattle.calls.proofs.run.run_text.Goals as goal

pub returns-then-r-ne0 : goal.returns-then-r-ne0
returns-then-r-ne0 c =
    let a = c.args in
    let r = c.read-r in
    text-refused a.text.now a.given a.w.now _ r.result r.ensures a.c.now a.calls.now a.codes.now c.if-r-ne0.true

pub returns : goal.returns
returns c =
    let a = c.args in
    let r = c.read-r in
    let x = c.run-x in
    let z : r.result.code ≡ 0 = omega arith in
    text-ran a.text.now a.given a.w.now _ r.result r.ensures a.c.now a.calls.now a.codes.now _ _ x.result.done x.result.n z x.ensures.runs x.ensures.done
