-- The loop's invariant: from here on stand the definitions whose bodies are left to put.
use native.Mathlib.Omega.{arith}
use mathlib.Core.Path.{sym, ◌∙◌}
use Rattle.text_fill.proofs.Defs.{turn, number_small, defs-fall, bodies-first, bodies-end, bodies-on}
use Rattle.text_fill.proofs.definitions.put_bodies.Goals as goal

pub loop-w-init : goal.loop-w-init
loop-w-init c = (c.requires.0, λ x. bodies-first _ _ x)

pub put_body-requires : goal.put_body-requires
put_body-requires c =
    let x = c.requires.1 in
    let g = c.loop-w.invariant.1 x in
    let t = turn g.defs (sym c.net_next.ensures ∙ c.loop-w-test.true) x.well.some-located in
    (number_small g.defs t, c.loop-w.invariant.0, t.def)

pub overflow_add-k : goal.overflow_add-k
overflow_add-k c =
    let x = c.requires.1 in
    let g = c.loop-w.invariant.1 x in
    let t = turn g.defs (sym c.net_next.ensures ∙ c.loop-w-test.true) x.well.some-located in
    let h = number_small g.defs t in
    omega arith

pub loop-w-smaller : goal.loop-w-smaller
loop-w-smaller c =
    let x = c.requires.1 in
    let g = c.loop-w.invariant.1 x in
    let t = turn g.defs (sym c.net_next.ensures ∙ c.loop-w-test.true) x.well.some-located in
    defs-fall g.defs t _ (c.in_ok-r.ensures t.def).left_is

pub loop-w-preserved : goal.loop-w-preserved
loop-w-preserved c =
    let x = c.requires.1 in
    let t = turn (c.loop-w.invariant.1 x).defs (sym c.net_next.ensures ∙ c.loop-w-test.true) x.well.some-located in
    let h = (c.in_ok-r.ensures t.def).place in
    let l = c.loop-w.invariant.0 in (
      omega arith,
      λ x.
          let g = c.loop-w.invariant.1 x in
          let t = turn g.defs (sym c.net_next.ensures ∙ c.loop-w-test.true) x.well.some-located in
          bodies-on g t _ (c.in_ok-r.ensures t.def),
    )

pub returns : goal.returns
returns c = λ x. bodies-end (c.loop-w.invariant.1 x) (sym c.net_next.ensures ∙ c.loop-w-test.false)

pub returns-in_err-r : goal.returns-in_err-r
returns-in_err-r c =
    λ x.
    let t = turn (c.loop-w.invariant.1 x).defs (sym c.net_next.ensures ∙ c.loop-w-test.true) x.well.some-located in
    absurd (c.in_err-r.ensures t.def)
