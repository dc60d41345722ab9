-- `known_steady` meets its contract. The loop's invariant: every component looked at stays one.
use Prim.Native.Nat.{◌<◌}
use native.Mathlib.Omega.{arith}
use mathlib.Core.Bool.{true}
use mathlib.Core.Path.{◌≡◌, refl, sym, ap, subst, ◌∙◌}
use lib.Seq.{take_all}
use Rattle.terms.specs.Same.{every}
use Rattle.table.specs.declared.State.{State}
use Rattle.table.specs.Meaning.{comps_of, no_comp}
use Rattle.table.proofs.InUse.{comps-length, in_use}
use Rattle.calls_act.proofs.Positions.{few-comps, valid-parts, comp-good}
use Rattle.calls_steady.specs.Steady.{touches, stays_one}
use Rattle.calls_steady.proofs.Staying.{every_more, untouched-one}
use Rattle.calls_steady.proofs.known_steady.Goals as goal

pub loop-j-init : goal.loop-j-init
unfolding every
loop-j-init c = refl

pub comp_at-x-requires : goal.comp_at-x-requires
comp_at-x-requires c = let a = c.args in omega (arith, few-comps a.net.script.now (record { c = a.net.words.now; n = a.net.n }) c.args.net.passes)

pub loop-j-preserved-then-not-touched : goal.loop-j-preserved-then-not-touched
loop-j-preserved-then-not-touched c =
    let a = c.args in
    let st : State = record { c = a.net.words.now; n = a.net.n } in
    let h : c.loop-j.j < a.net.n = c.loop-j-test.true in
    let e = c.comp_at-x.ensures ∙ sym (in_use st no_comp c.loop-j.j h) in
    let u = ap (touches a.l) (sym e) ∙ sym c.touched.ensures ∙ c.if-not-touched.true in
    every_more _ (comps_of st) c.loop-j.j no_comp (omega (arith, comps-length st)) c.loop-j.invariant (untouched-one a.net.script.now a.l _ u)

pub stays_one-requires : goal.stays_one-requires
stays_one-requires c =
    let a = c.args in
    let st : State = record { c = a.net.words.now; n = a.net.n } in
    let v = c.args.net.passes in
    ((valid-parts a.net.script.now st v).0, rw c.comp_at-x.ensures (comp-good a.net.script.now st v c.loop-j.j c.loop-j-test.true))

pub loop-j-preserved : goal.loop-j-preserved
loop-j-preserved c =
    let a = c.args in
    let st : State = record { c = a.net.words.now; n = a.net.n } in
    let h : c.loop-j.j < a.net.n = c.loop-j-test.true in
    let e = c.comp_at-x.ensures ∙ sym (in_use st no_comp c.loop-j.j h) in
    every_more _ (comps_of st) c.loop-j.j no_comp (omega (arith, comps-length st)) c.loop-j.invariant (ap (stays_one a.net.script.now a.l) (sym e) ∙ sym c.stays_one.ensures ∙ c.if-not-stays_one.false)

pub returns : goal.returns
returns c =
    let a = c.args in
    let st : State = record { c = a.net.words.now; n = a.net.n } in
    λ _. subst (λ cs. every (stays_one a.net.script.now a.l) cs ≡ true) (take_all c.loop-j.j (comps_of st) (omega (arith, comps-length st))) c.loop-j.invariant
