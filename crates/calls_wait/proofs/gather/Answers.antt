-- `gather` meets its contract. The loop's invariant: what is gathered so far is that of the components looked at.
use Prim.Native.Nat.{◌<◌}
use native.Mathlib.Omega.{arith}
use mathlib.Core.Path.{sym, ap, subst, ◌∙◌}
use lib.ListN.{get_or, take}
use lib.Seq.{take_all}
use Rattle.table.specs.declared.State.{State}
use Rattle.table.specs.Meaning.{comps_of, no_comp}
use Rattle.table.proofs.InUse.{comps-length, in_use, comp-held, valid-script}
use Rattle.calls_act.proofs.Positions.{few-comps}
use Rattle.calls_must.specs.Heard.{hears_at}
use Rattle.calls_must.proofs.Hearing.{own-fits}
use Rattle.calls_wait.specs.Waits.{Gathered}
use Rattle.calls_wait.proofs.Dealing.{gathered_none, gathered-more, gathered-past}
use Rattle.calls_wait.proofs.gather.Goals as goal
use Rattle.calls_wait.proofs.gather.Goals.{in-Some, in_default}

pub loop-i-init : goal.loop-i-init
loop-i-init c = (omega arith, gathered_none c.args.net.script.now c.args.l c.args.ears.now c.args.keys.now c.requires.0 c.requires.1)

pub comp_at-x-requires : goal.comp_at-x-requires
comp_at-x-requires c = omega (arith, few-comps _ _ c.args.net.passes)

pub hears_at-requires : goal.hears_at-requires
hears_at-requires c =
    let a = c.args in
    let v = a.net.passes in
    let st : State = record { c = a.net.words.now; n = a.net.n } in
    (valid-script a.net.script.now st v, rw c.comp_at-x.ensures (comp-held a.net.script.now st v c.loop-i.i c.loop-i-test.true))

pub offset_bounds-ears-i : goal.offset_bounds-ears-i
offset_bounds-ears-i c = omega (arith, few-comps _ _ c.args.net.passes)

pub bounds-ears-i : goal.bounds-ears-i
bounds-ears-i c = omega (arith, few-comps _ _ c.args.net.passes)

pub key_of-requires : goal.key_of-requires
key_of-requires c = omega (arith, few-comps _ _ c.args.net.passes)

pub offset_bounds-keys-m : goal.offset_bounds-keys-m
offset_bounds-keys-m c = omega (arith, few-comps _ _ c.args.net.passes)

pub bounds-keys-m : goal.bounds-keys-m
bounds-keys-m c = omega (arith, few-comps _ _ c.args.net.passes)

pub loop-i-preserved : goal.loop-i-preserved
loop-i-preserved c =
    let a = c.args in
    let st : State = record { c = a.net.words.now; n = a.net.n } in
    let v = a.net.passes in
    let i = c.loop-i.i in
    let h : i < a.net.n = c.loop-i-test.true in
    let n = few-comps a.net.script.now st v in
    let x = in_use st no_comp i h in
    let e = x ∙ sym c.comp_at-x.ensures in
    let k = ap (hears_at a.net.script.now a.l) e ∙ sym c.hears_at.ensures in
    let now : Gathered a.net.script.now a.l (take i (comps_of st)) c.loop-i.ears c.loop-i.keys c.loop-i.m = c.loop-i.invariant.1 in
    elim c.match-hears_at.branch [
      | in-Some t ↦
          let o = k ∙ t.in-Some.is in
          let f : t.in-Some.h < 64 = own-fits a.net.script.now a.l (get_or (comps_of st) i no_comp) t.in-Some.h (valid-script a.net.script.now st v) (rw x (comp-held a.net.script.now st v i h)) o in
          (omega (arith, c.loop-i.invariant.0, t.m-is), rw (t.ears-is, t.keys-is, t.m-is, t.key_of.ensures, ← e) (gathered-more a.net.script.now a.l (comps_of st) no_comp c.loop-i.ears c.loop-i.keys i c.loop-i.m (omega (arith, comps-length st)) (omega arith) now t.in-Some.h f o))
      | in_default t ↦ (omega (arith, c.loop-i.invariant.0, t.m-is), rw (t.ears-is, t.keys-is, t.m-is) (gathered-past a.net.script.now a.l (comps_of st) no_comp c.loop-i.ears c.loop-i.keys i c.loop-i.m (omega (arith, comps-length st)) (omega arith) now (k ∙ t.in_default.is)))
    ]

pub returns : goal.returns
returns c =
    let a = c.args in
    let st : State = record { c = a.net.words.now; n = a.net.n } in
    subst (λ cs. Gathered a.net.script.now a.l cs c.loop-i.ears c.loop-i.keys c.loop-i.m) (take_all c.loop-i.i (comps_of st) (omega (arith, comps-length st))) c.loop-i.invariant.1
