-- A step is refused or its line is put, round by round, and then the network.
-- By the ways of the code to the printout (Playing).
use native.Mathlib.Omega.{arith}
use Prim.Native.Nat.{◌≤◌, ◌<◌}
use Rattle.table.specs.Words.{locs_in}
use Rattle.run_print.proofs.Playing.{locs-few, play-first, play-stopped, play-on, play-next, play-end}
use Rattle.run_turn.proofs.Fits.{turn-ends}
use Rattle.run_print.proofs.Fits.{ending-ends}
use Rattle.run_print.proofs.play.Goals as goal

pub loop-round-init : goal.loop-round-init
loop-round-init c = (c.requires, play-first _ _ _, omega arith)

pub turn-requires : goal.turn-requires
turn-requires c = (c.loop-l.invariant.0, omega (arith, c.word-n.ensures, c.loop-l-test.true))

pub returns-in_default : goal.returns-in_default
returns-in_default c =
    let v = c.loop-l.invariant in
    let i : c.loop-l.l < locs_in c.args.w.now = omega (arith, c.word-n.ensures, c.loop-l-test.true) in
    let f = turn-ends _ c.loop-l.now c.loop-l.l v.0 _ _ _ c.turn.ensures in
    let g = locs-few _ _ v.0 in
    let t = rw c.in_default.is at c.turn.ensures in
    (play-stopped _ c.loop-l.now c.loop-round.round c.loop-l.l c.loop-round-test.true i v.1 t, omega arith)

pub loop-l-preserved : goal.loop-l-preserved
loop-l-preserved c =
    let v = c.loop-l.invariant in
    let i : c.loop-l.l < locs_in c.args.w.now = omega (arith, c.word-n.ensures, c.loop-l-test.true) in
    let f = turn-ends _ c.loop-l.now c.loop-l.l v.0 _ _ _ c.turn.ensures in
    let t = rw c.in-Some.is at c.turn.ensures in
    let p = play-on _ c.loop-l.now c.loop-round.round c.loop-l.l c.loop-round-test.true i v.1 c.in-Some.next t in
    (p.0, p.1, omega arith)

pub loop-round-preserved : goal.loop-round-preserved
loop-round-preserved c =
    let v = c.loop-l.invariant in
    let i : locs_in c.args.w.now ≤ c.loop-l.l = omega (arith, c.word-n.ensures, c.loop-l-test.false) in
    let g = locs-few _ _ v.0 in
    (v.0, play-next _ c.loop-l.now c.loop-round.round c.loop-l.l c.loop-round-test.true i v.1, omega (arith, c.word-n.ensures))

pub put_network-requires : goal.put_network-requires
put_network-requires c = c.loop-round.invariant.0

pub returns : goal.returns
returns c =
    let v = c.loop-round.invariant in
    let f = ending-ends _ _ v.0 c.put_network.ensures in
    (play-end _ c.loop-round.now c.loop-round.round 0 c.loop-round-test.false v.1 c.put_network.ensures, omega arith)
