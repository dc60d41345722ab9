-- `marked` meets its contract. The loop's invariant: the marks are those of the components looked at.
use Prim.Native.Nat.{◌+◌, ◌<◌}
use native.Mathlib.Omega.{arith}
use mathlib.Core.Path.{sym, ap, subst, ◌∙◌}
use lib.ListN.{length, take, length-set, length-replicate}
use lib.Seq.{take_all}
use Rattle.std.specs.Prelude.{Some, None, true, false}
use Rattle.table.specs.declared.State.{State}
use Rattle.table.specs.Meaning.{comps_of, no_comp}
use Rattle.table.proofs.InUse.{comps-length, in_use}
use Rattle.calls_act.proofs.Positions.{few-comps}
use Rattle.calls_forced.specs.Marked.{Marked}
use Rattle.calls_forced.proofs.Marking.{marked-none, marked-one, marked-past}
use Rattle.calls_forced.proofs.marks.marked.Goals as goal
use Rattle.calls_forced.proofs.marks.marked.Goals.{in-Some, in_default}

pub loop-j-init : goal.loop-j-init
loop-j-init g c = (length-replicate g.row.N false, λ f p. marked-none g.row.N f)

pub comp_at-requires : goal.comp_at-requires
comp_at-requires g c = omega (arith, few-comps _ _ c.args.net.passes)

pub loop-j-preserved : goal.loop-j-preserved
loop-j-preserved g c =
    let a = c.args in
    let st : State = record { c = a.net.words.now; n = a.net.n } in
    let i = c.loop-j.invariant in
    let j = c.loop-j.j in
    let ys = c.loop-j.out in
    let h : j < a.net.n = c.loop-j-test.true in
    let b : j < length (comps_of st) = omega (arith, comps-length st) in
    elim c.match-place.branch [
      | in-Some t ↦
          let q = rw (c.comp_at.ensures, t.in-Some.is) at c.place.ensures in
          (ap length t.out-is ∙ length-set ys t.in-Some.k true ∙ i.0, λ f p. subst (Marked g.row.N f (take (j + 1) (comps_of st))) (sym t.out-is) (marked-one g.row.N f (comps_of st) j no_comp ys b (i.1 f p) i.0 t.in-Some.k (c.requires.within j t.in-Some.k h q) (ap f (in_use st no_comp j h) ∙ sym (p j (Some t.in-Some.k) h q))))
      | in_default t ↦
          let q = rw (c.comp_at.ensures, t.in_default.is) at c.place.ensures in
          (ap length t.out-is ∙ i.0, λ f p. subst (Marked g.row.N f (take (j + 1) (comps_of st))) (sym t.out-is) (marked-past g.row.N f (comps_of st) j no_comp ys b (i.1 f p) (ap f (in_use st no_comp j h) ∙ sym (p j None h q))))
    ]

pub returns : goal.returns
returns g c =
    let a = c.args in
    let st : State = record { c = a.net.words.now; n = a.net.n } in
    λ f p. subst (λ cs. Marked g.row.N f cs c.loop-j.out) (take_all c.loop-j.j (comps_of st) (omega (arith, comps-length st))) (c.loop-j.invariant.1 f p)
