-- The labels, one record after the other.
-- Idea: what is left to put is the labels of the records from the number on.
use mathlib.Core.List.{[]}
use lib.ListN.{get_or}
use Rattle.text_letters.proofs.Pages.{begun, step, done, left_as}
use Rattle.run_line.specs.Line.{spaced}
use Rattle.run_line.specs.Records.{label_in}
use Rattle.run_line.proofs.Lines.{rest-next, rest_end, fires-at}
use Rattle.run_line.proofs.put_actions.Goals as goal

pub loop-e-init : goal.loop-e-init
loop-e-init c = begun

pub put_action-requires : goal.put_action-requires
put_action-requires c =
    let k = c.args in
    fires-at k.net.script.now (record { c = k.net.words.now; n = k.net.n }) k.records.now c.loop-e.e-index c.loop-e-test.true c.requires

pub loop-e-preserved : goal.loop-e-preserved
loop-e-preserved c =
    let k = c.args in
    let l = c.loop-e in
    step {t = spaced (label_in k.net.script.now (record { c = k.net.words.now; n = k.net.n }) (get_or k.records.now l.e-index []))} (left_as (rest-next k.net.script.now (record { c = k.net.words.now; n = k.net.n }) k.records.now l.e-index c.loop-e-test.true) l.invariant) c.put_action.ensures

pub returns : goal.returns
returns c =
    let k = c.args in
    done (left_as (rest_end k.net.script.now (record { c = k.net.words.now; n = k.net.n }) k.records.now c.loop-e.e-index c.loop-e-test.false) c.loop-e.invariant)
