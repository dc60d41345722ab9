-- Each definition in order.
-- Idea: what is left to put is the definitions from the number on.
use native.Mathlib.Omega.{arith}
use Rattle.table.specs.Words.{defs_in}
use Rattle.text_letters.proofs.Pages.{begun, step, done, left_as}
use Rattle.text_network.proofs.Networks.{defs-next, defs-end, defs-all}
use Rattle.text_network.proofs.write_defs.Goals as goal

pub loop-d-init : goal.loop-d-init
loop-d-init c = left_as (defs-all c.args.w.now) begun

pub write_def-requires : goal.write_def-requires
write_def-requires c = (c.requires, omega (arith, c.loop-d-test.true, c.wide-d-end.ensures, c.word.ensures))

pub loop-d-preserved : goal.loop-d-preserved
loop-d-preserved c =
    let w = c.args.w.now in
    let l = c.loop-d in
    step (left_as (defs-next w l.d (defs_in w) (omega (arith, c.wide-d-end.ensures, c.word.ensures, c.loop-d-test.true))) l.invariant) c.write_def.ensures

pub returns : goal.returns
returns c =
    let w = c.args.w.now in
    done (left_as (defs-end w c.loop-d.d (defs_in w) (omega (arith, c.wide-d-end.ensures, c.word.ensures, c.loop-d-test.false))) c.loop-d.invariant)
