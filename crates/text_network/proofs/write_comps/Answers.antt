-- The first component, each other one after ` | `, and the line's end.
-- Idea: what is left to put is the components from the position on.
use native.Mathlib.Omega.{arith}
use mathlib.Core.Path.{sym}
use Rattle.text_letters.proofs.Pages.{begun, step, last, then, same, left_as}
use Rattle.table.specs.declared.State.{State}
use Rattle.table.proofs.InUse.{valid-script, valid-state}
use Rattle.text_network.proofs.Networks.{comps-first, comps-next, comps-end, comp-good}
use Rattle.text_network.proofs.write_comps.Goals as goal

pub write_comp-requires : goal.write_comp-requires
write_comp-requires c =
    let k = c.args in
    let v = k.net.passes in
    let st : State = record { c = k.net.words.now; n = k.net.n } in
    let g = comp-good k.net.script.now st 0 (valid-state k.net.script.now st v).some v c.requires in
    (valid-script k.net.script.now st v, rw c.comp_at.ensures g.0, rw c.comp_at.ensures g.1)

pub loop-k-init : goal.loop-k-init
loop-k-init c = begun

pub comp_at-requires-in-loop-k : goal.comp_at-requires-in-loop-k
comp_at-requires-in-loop-k c =
    let k = c.args in
    omega (arith, c.loop-k-test.true, (valid-state k.net.script.now (record { c = k.net.words.now; n = k.net.n }) k.net.passes).few)

pub write_comp-requires-in-loop-k : goal.write_comp-requires-in-loop-k
write_comp-requires-in-loop-k c =
    let k = c.args in
    let v = k.net.passes in
    let st : State = record { c = k.net.words.now; n = k.net.n } in
    let g = comp-good k.net.script.now st c.loop-k.k c.loop-k-test.true v c.requires in
    (valid-script k.net.script.now st v, rw c.comp_at-in-loop-k.ensures g.0, rw c.comp_at-in-loop-k.ensures g.1)

pub loop-k-preserved : goal.loop-k-preserved
loop-k-preserved c =
    let k = c.args in
    let l = c.loop-k in
    let st : State = record { c = k.net.words.now; n = k.net.n } in
    let e = rw c.comp_at-in-loop-k.ensures at c.write_comp-in-loop-k.ensures in
    step (step (left_as (comps-next k.net.script.now st l.k c.loop-k-test.true) l.invariant) c.put_bar.ensures) e

pub returns : goal.returns
returns c =
    let k = c.args in
    let l = c.loop-k in
    let st : State = record { c = k.net.words.now; n = k.net.n } in
    let f = valid-state k.net.script.now st k.net.passes in
    let e = rw c.comp_at.ensures at c.write_comp.ensures in
    same (sym (comps-first k.net.script.now st f.some)) (then e (last (left_as (comps-end k.net.script.now st l.k (omega arith)) l.invariant) c.put_end.ensures))
