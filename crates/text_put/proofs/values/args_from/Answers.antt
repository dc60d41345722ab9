-- The loop's invariant: of the values some are read, and from here on stand the others. The bytes left fall with each value and its comma.
use Prim.Native.Nat.{◌+◌, min}
use native.Mathlib.Omega.{arith}
use mathlib.Core.Path.{◌≡◌}
use Rattle.text_put.proofs.Arguments.{going-first, going-word, going-closes, going_end, going_on, going-falls}
use Rattle.text_put.proofs.values.args_from.Goals as goal

pub loop-x-init : goal.loop-x-init
loop-x-init c = λ x. going-first _ _ _ _ x

pub returns-in_err-x : goal.returns-in_err-x
returns-in_err-x c = λ x. absurd (c.in_err-x.ensures _ _ (going-word (c.loop-x.invariant x)))

pub value_in-v-requires : goal.value_in-v-requires
value_in-v-requires c = c.requires.0

pub returns-in_err-e : goal.returns-in_err-e
returns-in_err-e c =
    λ x.
    let g = c.loop-x.invariant x in
    let n : c.min-n.result ≡ min (c.loop-x.n + 1) 5 = omega (arith, c.min-n.ensures, c.saturating_add.ensures) in
    absurd (going-closes g _ (c.in_ok-x.ensures _ _ (going-word g)) c.value_in-v.ensures _ c.with_word-k.ensures _ n c.in_default.ensures c.in_err-e.ensures)

pub returns-in_default : goal.returns-in_default
returns-in_default c =
    λ x.
    let g = c.loop-x.invariant x in
    let n : c.min-n.result ≡ min (c.loop-x.n + 1) 5 = omega (arith, c.min-n.ensures, c.saturating_add.ensures) in
    going_end g _ (c.in_ok-x.ensures _ _ (going-word g)) c.value_in-v.ensures _ c.with_word-k.ensures _ n c.in_default.ensures _ c.in_ok-e.ensures

pub loop-x-smaller : goal.loop-x-smaller
loop-x-smaller c =
    let g = c.loop-x.invariant c.requires.1 in
    let n : c.min-n.result ≡ min (c.loop-x.n + 1) 5 = omega (arith, c.min-n.ensures, c.saturating_add.ensures) in
    going-falls g _ (c.in_ok-x.ensures _ _ (going-word g)) c.value_in-v.ensures _ c.with_word-k.ensures _ n _ c.in-Some.ensures

pub loop-x-preserved : goal.loop-x-preserved
loop-x-preserved c =
    λ x.
    let g = c.loop-x.invariant x in
    let n : c.min-n.result ≡ min (c.loop-x.n + 1) 5 = omega (arith, c.min-n.ensures, c.saturating_add.ensures) in
    going_on g _ (c.in_ok-x.ensures _ _ (going-word g)) c.value_in-v.ensures _ c.with_word-k.ensures _ n _ c.in-Some.ensures
