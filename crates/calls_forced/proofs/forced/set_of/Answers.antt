-- `set_of` meets its contract. The loop's invariant: x is the set of the l lowest bits.
use mathlib.Core.Path.{◌∙◌}
use Rattle.calls_forced.specs.Marked.{is_marked}
use Rattle.calls_forced.proofs.Bits.{mask-none, mask-with, mask-without}
use Rattle.calls_forced.proofs.forced.set_of.Goals as goal
use Rattle.calls_forced.proofs.forced.set_of.Goals.{then-marks-l, else-marks-l}

pub loop-l-init : goal.loop-l-init
loop-l-init c = mask-none (is_marked c.args.marks.now)

pub loop-l-preserved : goal.loop-l-preserved
loop-l-preserved c =
    let p = is_marked c.args.marks.now in
    let x = c.loop-l.x in
    let l = c.loop-l.l in
    let i = c.loop-l.invariant in
    elim c.if-marks-l.branch [ then-marks-l t ↦ t.x-is ∙ mask-with p x l i c.loop-l-test.true t.if-marks-l.true | else-marks-l t ↦ t.x-is ∙ mask-without p x l i t.if-marks-l.false ]
