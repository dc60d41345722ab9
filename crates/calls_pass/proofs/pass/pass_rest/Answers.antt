-- `pass_rest` meets its contract. The loop's invariant: what was written and what remains are what the tick leaves (Passing).
use native.Mathlib.Omega.{arith}
use mathlib.Core.Path.{◌≡◌, sym, ap, ◌∙◌}
use Rattle.table.specs.declared.State.{State}
use Prim.Native.Nat.{◌+◌}
use Rattle.table.specs.Meaning.{comp_in, comps_of}
use Rattle.table.proofs.Stores.{past-put, past-none, past-then}
use Rattle.calls_act.proofs.Positions.{few-comps, valid-parts, comp-good}
use Rattle.calls_pass.specs.Turn.{step_of, turn_of}
use Rattle.calls_pass.proofs.Turns.{some-next, step-more}
use Rattle.calls_pass.proofs.Passing.{passing-begin, passing-next, passing-full, passing-done, turn-less}
use Rattle.calls_pass.proofs.pass.pass_rest.Goals as goal

pub loop-i-init : goal.loop-i-init
loop-i-init c =
    let b = few-comps c.args.w.now (record { c = c.args.c.now; n = c.args.n }) c.requires.0 in
    (passing-begin c.args.w.now c.args.l (record { c = c.args.c.now; n = c.args.n }) c.args.out.now c.args.j c.requires.1 c.requires.2 (omega (arith, b, c.requires.2)), past-none c.args.j c.args.out.now)

pub returns-then-k-ge256 : goal.returns-then-k-ge256
returns-then-k-ge256 c =
    let a = c.args in
    passing-full a.w.now a.l (record { c = a.c.now; n = a.n }) _ _ _ _ _ c.loop-i.invariant.0 c.loop-i-test.true c.if-k-ge256.true

pub comp_at-requires : goal.comp_at-requires
comp_at-requires c = let a = c.args in omega (arith, few-comps a.w.now (record { c = a.c.now; n = a.n }) c.requires.0)

pub turn-t-requires : goal.turn-t-requires
turn-t-requires c =
    let a = c.args in
    let v = c.requires.0 in
    let st : State = record { c = a.c.now; n = a.n } in
    ((valid-parts a.w.now st v).0, rw c.comp_at.ensures (comp-good a.w.now st v c.loop-i.i c.loop-i-test.true), c.loop-i.invariant.0.part)

pub loop-i-smaller-then-is_none : goal.loop-i-smaller-then-is_none
loop-i-smaller-then-is_none c =
    let a = c.args in
    let l = c.loop-i in
    let st : State = record { c = a.c.now; n = a.n } in
    let q = c.turn-t.ensures ∙ ap (λ x. turn_of a.w.now a.l x l.next) c.comp_at.ensures in
    let z : step_of (turn_of a.w.now a.l (comp_in a.c.now l.i) l.next).next ≡ 1 = ap (λ t. step_of t.next) (sym q) ∙ ap step_of (some-next _ c.if-is_none.ensures) in
    rw q (turn-less a.w.now a.l st _ l.out l.k l.i l.next c.requires.0 l.invariant.0 c.loop-i-test.true _ (omega (arith, z)))

pub loop-i-preserved-then-is_none : goal.loop-i-preserved-then-is_none
loop-i-preserved-then-is_none c =
    let a = c.args in
    let l = c.loop-i in
    let st : State = record { c = a.c.now; n = a.n } in
    let q = c.turn-t.ensures ∙ ap (λ x. turn_of a.w.now a.l x l.next) c.comp_at.ensures in
    let z : step_of (turn_of a.w.now a.l (comp_in a.c.now l.i) l.next).next ≡ 1 = ap (λ t. step_of t.next) (sym q) ∙ ap step_of (some-next _ c.if-is_none.ensures) in
    rw (c.put_comp.ensures, q) (passing-next a.w.now a.l st _ l.out l.k l.i l.next c.requires.0 l.invariant.0 c.loop-i-test.true _ (omega (arith, z)) (omega arith), past-then (omega arith) l.invariant.1 (past-put l.out (l.k + 1) l.k (turn_of a.w.now a.l (comp_in a.c.now l.i) l.next).comp (omega arith)))

pub loop-i-smaller : goal.loop-i-smaller
loop-i-smaller c =
    let a = c.args in
    let l = c.loop-i in
    let st : State = record { c = a.c.now; n = a.n } in
    let q = c.turn-t.ensures ∙ ap (λ x. turn_of a.w.now a.l x l.next) c.comp_at.ensures in
    let z : step_of (turn_of a.w.now a.l (comp_in a.c.now l.i) l.next).next ≡ 0 = ap (λ t. step_of t.next) (sym q) ∙ step-more _ c.if-is_none.ensures in
    rw q (turn-less a.w.now a.l st _ l.out l.k l.i l.next c.requires.0 l.invariant.0 c.loop-i-test.true _ (omega (arith, z)))

pub loop-i-preserved : goal.loop-i-preserved
loop-i-preserved c =
    let a = c.args in
    let l = c.loop-i in
    let st : State = record { c = a.c.now; n = a.n } in
    let q = c.turn-t.ensures ∙ ap (λ x. turn_of a.w.now a.l x l.next) c.comp_at.ensures in
    let z : step_of (turn_of a.w.now a.l (comp_in a.c.now l.i) l.next).next ≡ 0 = ap (λ t. step_of t.next) (sym q) ∙ step-more _ c.if-is_none.ensures in
    rw (c.put_comp.ensures, q) (passing-next a.w.now a.l st _ l.out l.k l.i l.next c.requires.0 l.invariant.0 c.loop-i-test.true _ (omega (arith, z)) (omega arith), past-then (omega arith) l.invariant.1 (past-put l.out (l.k + 1) l.k (turn_of a.w.now a.l (comp_in a.c.now l.i) l.next).comp (omega arith)))

pub returns : goal.returns
unfolding comps_of
returns c =
    let a = c.args in
    let i = c.loop-i.invariant in
    let d = passing-done a.w.now a.l (record { c = a.c.now; n = a.n }) _ _ _ _ _ i.0 (omega arith) in
    (d.0, d.1, i.0.few-k, i.1)
