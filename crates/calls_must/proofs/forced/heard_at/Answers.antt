-- `heard_at` meets its contract. The loop's invariant: what is heard so far is what the components looked at hear.
use Prim.Native.Nat.{◌+◌, ◌<◌}
use native.Mathlib.Omega.{arith}
use mathlib.Core.Path.{◌≡◌, refl, sym, ap, subst, ◌∙◌}
use lib.ListN.{length, get_or, set, take, length-set}
use lib.Seq.{take_all}
use Rattle.std.specs.Prelude.{true}
use Rattle.table.specs.declared.State.{State}
use Rattle.table.specs.Meaning.{comps_of, no_comp}
use Rattle.table.proofs.InUse.{comps-length, in_use, comp-held, valid-script}
use Rattle.calls_act.proofs.Positions.{few-comps}
use Rattle.calls_must.specs.Heard.{hears_at, Heard}
use Rattle.calls_must.proofs.Hearing.{heard-none, heard-more, heard-past, own-fits}
use Rattle.calls_must.proofs.forced.heard_at.Goals as goal
use Rattle.calls_must.proofs.forced.heard_at.Goals.{in-Some, in_default}

pub loop-j-init : goal.loop-j-init
loop-j-init c = (refl, heard-none c.args.net.script.now c.args.l)

pub comp_at-x-requires : goal.comp_at-x-requires
comp_at-x-requires c = let a = c.args in omega (arith, few-comps a.net.script.now (record { c = a.net.words.now; n = a.net.n }) c.args.net.passes)

pub hears_at-requires : goal.hears_at-requires
hears_at-requires c =
    let a = c.args in
    let v = c.args.net.passes in
    let st : State = record { c = a.net.words.now; n = a.net.n } in
    (valid-script a.net.script.now st v, rw c.comp_at-x.ensures (comp-held a.net.script.now st v c.loop-j.j c.loop-j-test.true))

pub bounds-heard-wide : goal.bounds-heard-wide
bounds-heard-wide c =
    let a = c.args in
    let v = c.args.net.passes in
    let st : State = record { c = a.net.words.now; n = a.net.n } in
    omega (arith, own-fits a.net.script.now a.l c.comp_at-x.result c.in-Some.d (valid-script a.net.script.now st v) (rw c.comp_at-x.ensures (comp-held a.net.script.now st v c.loop-j.j c.loop-j-test.true)) (sym c.hears_at.ensures ∙ c.in-Some.is))

pub loop-j-preserved : goal.loop-j-preserved
loop-j-preserved c =
    let a = c.args in
    let v = c.args.net.passes in
    let i = c.loop-j.invariant in
    let j = c.loop-j.j in
    let ys = c.loop-j.heard in
    let st : State = record { c = a.net.words.now; n = a.net.n } in
    let h : j < a.net.n = c.loop-j-test.true in
    let b : j < length (comps_of st) = omega (arith, comps-length st) in
    let x = in_use st no_comp j h in
    let k = ap (hears_at a.net.script.now a.l) (x ∙ sym c.comp_at-x.ensures) ∙ sym c.hears_at.ensures in
    elim c.match-hears_at.branch [
      | in-Some t ↦
          let e = k ∙ t.in-Some.is in
          let f : t.in-Some.d < 64 = own-fits a.net.script.now a.l (get_or (comps_of st) j no_comp) t.in-Some.d (valid-script a.net.script.now st v) (rw x (comp-held a.net.script.now st v j h)) e in
          let z : set ys t.in-Some.d true ≡ c.match-hears_at.heard = sym (t.heard-is ∙ ap (λ z. set ys z true) t.wide.ensures) in
          (ap length (sym z) ∙ length-set ys t.in-Some.d true ∙ i.0, subst (Heard a.net.script.now a.l (take (j + 1) (comps_of st))) z (heard-more a.net.script.now a.l (comps_of st) j no_comp ys b i.0 i.1 t.in-Some.d f e))
      | in_default t ↦ (ap length t.heard-is ∙ i.0, subst (Heard a.net.script.now a.l (take (j + 1) (comps_of st))) (sym t.heard-is) (heard-past a.net.script.now a.l (comps_of st) j no_comp ys b i.0 i.1 (k ∙ t.in_default.is)))
    ]

pub returns : goal.returns
returns c =
    let a = c.args in
    let st : State = record { c = a.net.words.now; n = a.net.n } in
    let z : c.loop-j.j ≡ length (comps_of st) = omega (arith, comps-length st) in
    subst (λ cs. Heard a.net.script.now a.l cs c.loop-j.heard) (take_all c.loop-j.j (comps_of st) (omega (arith, z))) c.loop-j.invariant.1
