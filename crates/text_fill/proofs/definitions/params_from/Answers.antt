-- The loop's invariant: from here on stand the parameters that are left to write. The bytes left fall with each name and its comma.
use native.Mathlib.Omega.{arith}
use Rattle.text_fill.proofs.Defs.{params-first, going-word, going-few, going_end, going_on, going-falls}
use Rattle.text_fill.proofs.definitions.params_from.Goals as goal

pub loop-x-init : goal.loop-x-init
loop-x-init c = λ x. params-first _ _ _ _ x

pub overflow_mul-k : goal.overflow_mul-k
overflow_mul-k c =
    let q = c.requires in
    let f = going-few (c.loop-x.invariant q.1) in
    omega arith

pub overflow_add-k : goal.overflow_add-k
overflow_add-k c =
    let q = c.requires in
    let f = going-few (c.loop-x.invariant q.1) in
    omega arith

pub overflow_mul-j : goal.overflow_mul-j
overflow_mul-j c =
    let q = c.requires in
    let f = going-few (c.loop-x.invariant q.1) in
    omega arith

pub overflow_add-k-in-loop-x : goal.overflow_add-k-in-loop-x
overflow_add-k-in-loop-x c =
    let q = c.requires in
    let f = going-few (c.loop-x.invariant q.1) in
    omega arith

pub put_key-requires : goal.put_key-requires
put_key-requires c =
    let q = c.requires in
    let f = going-few (c.loop-x.invariant q.1) in
    omega arith

pub returns-in_default : goal.returns-in_default
returns-in_default c =
    λ x.
    let g = c.loop-x.invariant x in
    going_end g _ (c.in_ok-x.ensures _ _ (going-word g)) c.put_key.ensures c.in_default.ensures

pub overflow_add-j : goal.overflow_add-j
overflow_add-j c =
    let q = c.requires in
    let f = going-few (c.loop-x.invariant q.1) in
    omega arith

pub loop-x-smaller : goal.loop-x-smaller
loop-x-smaller c =
    let g = c.loop-x.invariant c.requires.1 in
    going-falls g _ (c.in_ok-x.ensures _ _ (going-word g)) c.put_key.ensures _ c.in-Some.ensures

pub loop-x-preserved : goal.loop-x-preserved
loop-x-preserved c =
    λ x.
    let g = c.loop-x.invariant x in
    going_on g _ (c.in_ok-x.ensures _ _ (going-word g)) c.put_key.ensures _ c.in-Some.ensures

pub returns-in_err-x : goal.returns-in_err-x
returns-in_err-x c = λ x. absurd (c.in_err-x.ensures _ _ (going-word (c.loop-x.invariant x)))
