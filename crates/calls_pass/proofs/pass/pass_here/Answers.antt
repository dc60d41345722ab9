-- `pass_here` meets its contract. The loop's invariant: the components up to i have passed, each as one, and the others are as they were (Passing).
use native.Mathlib.Omega.{arith}
use mathlib.Core.Path.{◌≡◌, sym, ap, ◌∙◌}
use Rattle.std.specs.Prelude.{None}
use Rattle.table.specs.Meaning.{comp_in}
use Rattle.calls_act.proofs.Positions.{few-comps, valid-parts, comp-good}
use Rattle.calls_steady.specs.Steady.{touches}
use Rattle.table.specs.Split.{timed}
use Rattle.terms.specs.Clock.{less_raw}
use Rattle.calls_pass.specs.Turn.{whole, turn_of, first_turn}
use Rattle.calls_pass.proofs.Turns.{touched-first, waits-whole, some-next}
use Rattle.calls_pass.proofs.Passing.{here-begin, here-turn, here-left}
use Rattle.calls_pass.proofs.pass.pass_here.Goals as goal

pub loop-i-init : goal.loop-i-init
loop-i-init c = here-begin c.args.w.now c.args.l (record { c = c.args.c.now; n = c.args.n }) c.requires.1

pub comp_at-x-requires : goal.comp_at-x-requires
comp_at-x-requires c =
    let a = c.args in
    omega (arith, c.loop-i-test.true, few-comps a.w.now (record { c = a.c.now; n = a.n }) c.requires.0)

pub loop-i-preserved-then-not-touched : goal.loop-i-preserved-then-not-touched
loop-i-preserved-then-not-touched c =
    let a = c.args in
    let l = c.loop-i in
    let q : c.comp_at-x.result ≡ comp_in a.c.now l.i = c.comp_at-x.ensures ∙ l.invariant.rest l.i (omega arith) in
    here-left a.w.now a.l (record { c = a.c.now; n = a.n }) l.c l.i c.requires.0 l.invariant c.loop-i-test.true (ap (touches a.l) (sym q) ∙ sym c.touched.ensures ∙ c.if-not-touched.true)

pub waits_on-requires : goal.waits_on-requires
waits_on-requires c =
    let a = c.args in
    let v = c.requires.0 in
    let l = c.loop-i in
    let q = c.comp_at-x.ensures ∙ l.invariant.rest l.i (omega arith) in
    ((valid-parts a.w.now (record { c = a.c.now; n = a.n }) v).0, rw q (comp-good a.w.now (record { c = a.c.now; n = a.n }) v l.i c.loop-i-test.true))

pub put_comp-requires : goal.put_comp-requires
put_comp-requires c =
    let a = c.args in
    omega (arith, c.loop-i-test.true, few-comps a.w.now (record { c = a.c.now; n = a.n }) c.requires.0)

pub loop-i-preserved-then-waits_on : goal.loop-i-preserved-then-waits_on
unfolding turn_of
loop-i-preserved-then-waits_on c =
    let a = c.args in
    let l = c.loop-i in
    let x : c.comp_at-x.result ≡ comp_in a.c.now l.i = c.comp_at-x.ensures ∙ l.invariant.rest l.i (omega arith) in
    let u : first_turn a.w.now a.l (comp_in a.c.now l.i) ≡ whole (timed c.comp_at-x.result (less_raw c.comp_at-x.result.timer)) = ap (first_turn a.w.now a.l) (sym x) ∙ sym (touched-first a.w.now a.l _ (sym c.touched.ensures ∙ c.if-not-touched.false)) ∙ waits-whole a.w.now _ (sym c.waits_on.ensures ∙ c.if-waits_on.true) in
    rw (c.put_comp.ensures, c.waited.ensures, sym (ap (λ t. t.comp) u)) (here-turn a.w.now a.l (record { c = a.c.now; n = a.n }) l.c l.i c.requires.0 l.invariant c.loop-i-test.true (ap (λ t. t.next) u))

pub touched_turn-t-requires : goal.touched_turn-t-requires
touched_turn-t-requires c =
    let a = c.args in
    let v = c.requires.0 in
    let l = c.loop-i in
    let q = c.comp_at-x.ensures ∙ l.invariant.rest l.i (omega arith) in
    ((valid-parts a.w.now (record { c = a.c.now; n = a.n }) v).0, rw q (comp-good a.w.now (record { c = a.c.now; n = a.n }) v l.i c.loop-i-test.true))

pub put_comp-requires-in-loop-i : goal.put_comp-requires-in-loop-i
put_comp-requires-in-loop-i c =
    let a = c.args in
    omega (arith, c.loop-i-test.true, few-comps a.w.now (record { c = a.c.now; n = a.n }) c.requires.0)

pub loop-i-preserved : goal.loop-i-preserved
unfolding turn_of
loop-i-preserved c =
    let a = c.args in
    let l = c.loop-i in
    let t = c.touched_turn-t in
    let u = touched-first a.w.now a.l _ (sym c.touched.ensures ∙ c.if-not-touched.false) in
    let q = t.ensures ∙ u ∙ ap (first_turn a.w.now a.l) (c.comp_at-x.ensures ∙ l.invariant.rest l.i (omega arith)) in
    let z : t.result.next ≡ None = some-next t.result.next (sym c.is_some.ensures ∙ c.if-is_some.false) in
    rw (c.put_comp-in-loop-i.ensures, q) (here-turn a.w.now a.l (record { c = a.c.now; n = a.n }) l.c l.i c.requires.0 l.invariant c.loop-i-test.true (sym (ap (λ t. t.next) q) ∙ z))
