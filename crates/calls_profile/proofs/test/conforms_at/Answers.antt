-- `conforms_at` meets its contract. The loop's invariant: the roles of the components looked at are noted, and none was taken twice.
use Prim.Native.Nat.{◌+◌, ◌<◌}
use native.Mathlib.Omega.{arith}
use mathlib.Core.Bool.{true, not}
use mathlib.Core.Path.{◌≡◌, refl, sym, ap, subst, ◌∙◌}
use lib.ListN.{length, take, length-set}
use lib.Seq.{take_all}
use Rattle.std.specs.Prelude.{Some}
use Rattle.table.specs.declared.State.{State}
use Rattle.table.specs.Meaning.{comps_of, no_comp}
use Rattle.table.proofs.InUse.{comps-length, in_use, comp-held, valid-script}
use Rattle.calls_act.proofs.Positions.{few-comps}
use Rattle.calls_forced.specs.Marked.{Marked}
use Rattle.calls_forced.proofs.Marking.{marked-none, marked-one, marked-out}
use Rattle.calls_profile.specs.Roles.{no_role, role_of, apart, is_free}
use Rattle.calls_profile.proofs.Apart.{next-apart, apart-fails, free-place, free-nothing, late-is_free}
use Rattle.calls_profile.proofs.test.conforms_at.Goals as goal
use Rattle.calls_profile.proofs.test.conforms_at.Goals.{in-Place+else-taken-k, in-Nothing}

pub loop-j-init : goal.loop-j-init
unfolding apart
loop-j-init c = let a = c.args in (refl, marked-none no_role (λ c. Some (role_of a.net.script.now a.l c)), refl)

pub comp_at-x-requires : goal.comp_at-x-requires
comp_at-x-requires c = omega (arith, few-comps _ _ c.args.net.passes)

pub role_of-requires : goal.role_of-requires
role_of-requires c = (valid-script _ _ c.args.net.passes, rw c.comp_at-x.ensures (comp-held _ _ c.args.net.passes c.loop-j.j c.loop-j-test.true))

pub bounds-taken-k : goal.bounds-taken-k
bounds-taken-k c = let r = rw c.in-Place.is at c.role_of.ensures in omega (arith, r)

pub returns-then-taken-k : goal.returns-then-taken-k
returns-then-taken-k c =
    let a = c.args in
    let st : State = record { c = a.net.words.now; n = a.net.n } in
    let i = c.loop-j.invariant in
    let j = c.loop-j.j in
    let ys = c.loop-j.taken in
    let h : j < a.net.n = c.loop-j-test.true in
    let b : j < length (comps_of st) = omega (arith, comps-length st) in
    let f = role_of a.net.script.now a.l in
    let x = ap f (in_use st no_comp j h ∙ sym c.comp_at-x.ensures) in
    let e = next-apart f (comps_of st) ys j no_comp b i.1 i.2 in
    let r = rw c.in-Place.is at c.role_of.ensures in
    sym (apart-fails f (comps_of st) (j + 1) (e ∙ ap (is_free ys) (x ∙ sym r.0) ∙ free-place ys c.in-Place.k r.1 ∙ ap not c.if-taken-k.true))

pub returns-in-Late : goal.returns-in-Late
returns-in-Late c =
    let a = c.args in
    let st : State = record { c = a.net.words.now; n = a.net.n } in
    let i = c.loop-j.invariant in
    let j = c.loop-j.j in
    let ys = c.loop-j.taken in
    let h : j < a.net.n = c.loop-j-test.true in
    let b : j < length (comps_of st) = omega (arith, comps-length st) in
    let f = role_of a.net.script.now a.l in
    let x = ap f (in_use st no_comp j h ∙ sym c.comp_at-x.ensures) in
    let e = next-apart f (comps_of st) ys j no_comp b i.1 i.2 in
    let r = rw c.in-Late.is at c.role_of.ensures in
    sym (apart-fails f (comps_of st) (j + 1) (e ∙ late-is_free ys _ (x ∙ r)))

pub loop-j-preserved : goal.loop-j-preserved
loop-j-preserved c =
    let a = c.args in
    let st : State = record { c = a.net.words.now; n = a.net.n } in
    let i = c.loop-j.invariant in
    let j = c.loop-j.j in
    let ys = c.loop-j.taken in
    let h : j < a.net.n = c.loop-j-test.true in
    let b : j < length (comps_of st) = omega (arith, comps-length st) in
    let f = role_of a.net.script.now a.l in
    let x = ap f (in_use st no_comp j h ∙ sym c.comp_at-x.ensures) in
    let e = next-apart f (comps_of st) ys j no_comp b i.1 i.2 in
    elim c.match-role_of.branch [
      | in-Place+else-taken-k t ↦
          let r = rw t.in-Place.is at c.role_of.ensures in
          (ap length t.taken-is ∙ length-set ys t.in-Place.k true ∙ i.0, subst (Marked no_role (λ c. Some (f c)) (take (j + 1) (comps_of st))) (sym t.taken-is) (marked-one no_role (λ c. Some (f c)) (comps_of st) j no_comp ys b i.1 i.0 t.in-Place.k r.1 (ap Some (x ∙ sym r.0))), e ∙ ap (is_free ys) (x ∙ sym r.0) ∙ free-place ys t.in-Place.k r.1 ∙ ap not t.if-taken-k.false)
      | in-Nothing t ↦
          let r = rw t.in-Nothing.is at c.role_of.ensures in
          (ap length t.taken-is ∙ i.0, subst (Marked no_role (λ c. Some (f c)) (take (j + 1) (comps_of st))) (sym t.taken-is) (marked-out no_role (λ c. Some (f c)) (comps_of st) j no_comp ys b i.1 no_role (omega arith) (ap Some (x ∙ r))), e ∙ free-nothing ys _ (x ∙ r))
    ]

pub returns : goal.returns
returns c =
    let a = c.args in
    let st : State = record { c = a.net.words.now; n = a.net.n } in
    sym (subst (λ cs. apart (role_of a.net.script.now a.l) cs ≡ true) (take_all c.loop-j.j (comps_of st) (omega (arith, comps-length st))) c.loop-j.invariant.2)
