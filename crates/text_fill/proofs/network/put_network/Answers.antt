-- The loop's invariant: from here on stand the located processes that are left to put and to gather.
use native.Mathlib.Omega.{arith}
use mathlib.Core.Path.{refl, ◌∙◌}
use borrow.Author.Rules.{rules}
use Rattle.text_fill.proofs.Bracketed.{network-first, going-at, place-small, going_end, going_on, going-falls}
use Rattle.text_fill.proofs.Spreading.{spread-within}
use Rattle.text_fill.proofs.network.put_network.Goals as goal

pub loop-r-init : goal.loop-r-init
loop-r-init c = (c.requires.0, omega arith, refl, λ x. network-first _ _ _ _ _ x)

pub put_located-requires : goal.put_located-requires
put_located-requires c =
    let v = c.loop-r.invariant in
    (v.0, v.1, going-at (v.3 c.requires.1))

pub shape_of-out-in_default : goal.shape_of-out-in_default
shape_of-out-in_default c =
    let l = c.loop-r.invariant.2 in
    search rules

pub returns-in_default : goal.returns-in_default
returns-in_default c =
    let v = c.loop-r.invariant in
    λ x. going_end (v.3 x) v.1 _ c.in_ok-r.ensures c.in_default.ensures

pub loop-r-smaller : goal.loop-r-smaller
loop-r-smaller c =
    let v = c.loop-r.invariant in
    going-falls (v.3 c.requires.1) v.1 _ c.in_ok-r.ensures _ c.in-Some.ensures

pub loop-r-preserved : goal.loop-r-preserved
loop-r-preserved c =
    let v = c.loop-r.invariant in
    let y = going-at (v.3 c.requires.1) in
    (place-small (v.3 c.requires.1) v.1 _ c.in_ok-r.ensures v.0, spread-within (c.in_ok-r.ensures y).gathered, c.out-1.given ∙ v.2, λ x. going_on (v.3 x) v.1 _ c.in_ok-r.ensures _ c.in-Some.ensures)

pub returns-in_err-r : goal.returns-in_err-r
returns-in_err-r c = λ x. absurd (c.in_err-r.ensures (going-at (c.loop-r.invariant.3 x)))
