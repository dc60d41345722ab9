-- `wait_all` meets its contract: what is gathered, sorted and dealt are the chains of who waits.
use Prim.Native.Nat.{◌≤◌}
use native.Mathlib.Omega.{arith}
use mathlib.Core.Path.{sym}
use lib.ListN.{length}
use lib.Seq.{length-take-le}
use Rattle.table.specs.declared.State.{State}
use Rattle.table.specs.Meaning.{comps_of}
use Rattle.table.proofs.InUse.{comps-length}
use Rattle.calls_act.proofs.Positions.{few-comps}
use Rattle.calls_wait.proofs.Dealing.{sorted_apart, sorted-queued}
use Rattle.calls_wait.proofs.wait_all.Goals as goal

pub sort-requires : goal.sort-requires
sort-requires c =
    let a = c.args in
    let st : State = record { c = a.net.words.now; n = a.net.n } in
    omega (arith, c.gather-m.ensures.few, comps-length st, few-comps a.net.script.now st a.net.passes)

pub slice_bounds-keys-end : goal.slice_bounds-keys-end
slice_bounds-keys-end c =
    let a = c.args in
    let st : State = record { c = a.net.words.now; n = a.net.n } in
    omega (arith, c.gather-m.ensures.few, comps-length st, few-comps a.net.script.now st a.net.passes)

pub slice_bounds-deal-end : goal.slice_bounds-deal-end
slice_bounds-deal-end c =
    let a = c.args in
    let st : State = record { c = a.net.words.now; n = a.net.n } in
    sym (length-take-le c.gather-m.result c.sort.new.a (omega (arith, c.gather-m.ensures.few, comps-length st, few-comps a.net.script.now st a.net.passes)))

pub deal-requires : goal.deal-requires
deal-requires c =
    let a = c.args in
    let p = c.requires in
    let st : State = record { c = a.net.words.now; n = a.net.n } in
    let g = c.gather-m.ensures in
    let n : length (comps_of st) ≤ 256 = omega (arith, comps-length st, few-comps a.net.script.now st a.net.passes) in
    let o = sorted_apart a.net.script.now a.l (comps_of st) _ _ _ _ n g c.sort.ensures in
    (p.0, p.1, o.2)

pub returns : goal.returns
returns c =
    let a = c.args in
    let p = c.requires in
    let st : State = record { c = a.net.words.now; n = a.net.n } in
    let g = c.gather-m.ensures in
    let n : length (comps_of st) ≤ 256 = omega (arith, comps-length st, few-comps a.net.script.now st a.net.passes) in
    sorted-queued a.net.script.now a.l (comps_of st) _ _ _ _ n g c.sort.ensures _ _ c.deal.ensures
