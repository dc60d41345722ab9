-- `conforms_valid` meets its contract: question 8, then the test by numbers.
use native.Mathlib.Omega.{arith}
use borrow.Author.Tests.{lt-ltb, le-ltb}
use Prim.Native.Nat.{◌<◌, ◌≤◌}
use Rattle.table.specs.Words.{locs_in}
use Rattle.calls_profile.specs.Profiled.{conforms_in, test_rule}
use Rattle.calls_profile.proofs.Conforming.{conforms-means}
use Rattle.calls_profile.proofs.outward.conforms_valid.Goals as goal

pub returns-then-word-l : goal.returns-then-word-l
unfolding test_rule
returns-then-word-l c =
    let a = c.args in
    let h : locs_in a.net.script.now ≤ a.l = omega (arith, c.word.ensures) in
    rw (le-ltb _ _ h)

pub returns : goal.returns
unfolding test_rule conforms_in
returns c =
    let a = c.args in
    let h : a.l < locs_in a.net.script.now = omega (arith, c.word.ensures) in
    rw (lt-ltb _ _ h, conforms-means a.net.script.now (record { c = a.net.words.now; n = a.net.n }) a.l c.args.net.passes h, ← c.conforms_at.ensures)
