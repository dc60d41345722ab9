-- `Timer::less_one` meets its contract: the test decides the number after a tick, and a law says what timer that is.
use Prim.Native.Nat.{◌-◌}
use mathlib.Core.Path.{◌≡◌, ap, ◌∙◌}
use borrow.Author.Tests.{le-leb, lt-leb}
use Rattle.terms.specs.Clock.{ticks_of, less_raw}
use Rattle.terms.proofs.Clock.{less-raw}
use Rattle.terms.proofs.Timer.less_one.Goals as goal

pub returns-then-self-gt1000000 : goal.returns-then-self-gt1000000
unfolding less_raw
returns-then-self-gt1000000 c =
    let n = c.args.self.raw in
    let e : n ≡ less_raw n = simp (lt-leb n 1_000_000 c.if-self-gt1000000.true) in
    (ap ticks_of e ∙ less-raw n, e)

pub returns : goal.returns
unfolding less_raw
returns c =
    let n = c.args.self.raw in
    let e : n - 1 ≡ less_raw n = simp (le-leb n 1_000_000 c.if-self-gt1000000.false) in
    let f : c.saturating_sub.result ≡ less_raw n = c.saturating_sub.ensures ∙ e in
    (ap ticks_of f ∙ less-raw n, f)
