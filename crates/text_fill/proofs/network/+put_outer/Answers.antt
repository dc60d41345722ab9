-- A process whose outermost parts are gathered, part by part. The falling number is the bytes left.
use native.Mathlib.Omega.{arith}
use Rattle.text_put.proofs.Putting.{part_at, low-few, process-next, next-falls, next_low}
use Rattle.text_fill.proofs.Spreading.{spread-within}
use Rattle.text_fill.proofs.Bracketed.{outer-last, outer-more}
use Rattle.text_fill.proofs.network.+put_outer.Goals as goal

pub put_part-a-requires : goal.put_part-a-requires
put_part-a-requires t c =
    let q = c.requires in
    (q.0, omega arith, part_at q.2)

pub spot-m-requires : goal.spot-m-requires
spot-m-requires t c = c.requires.1

pub overflow_cast-a : goal.overflow_cast-a
overflow_cast-a t c =
    let q = c.requires in
    let m = low-few q.2 c.put_part-a.ensures in
    omega arith

pub link-requires : goal.link-requires
link-requires t c = c.requires.0

pub returns-in_default : goal.returns-in_default
returns-in_default t c =
    λ x. outer-last x c.put_part-a.ensures c.requires.1 c.spot-m.ensures c.in_default.ensures c.link.ensures

pub put_outer-requires : goal.put_outer-requires
put_outer-requires t c =
    let q = c.requires in
    let h = c.decreases in
    let m = low-few q.2 c.put_part-a.ensures in
    let l = next-falls q.2 c.put_part-a.ensures _ c.in-Some.ensures in
    let b = c.saturating_sub-j.ensures in
    (omega arith, (omega arith, spread-within c.spot-m.ensures, process-next q.2 c.put_part-a.ensures _ c.in-Some.ensures))

pub overflow_add-j : goal.overflow_add-j
overflow_add-j t c =
    let q = c.requires in
    let m = low-few q.2 c.put_part-a.ensures in
    let b = c.saturating_sub-j.ensures in
    omega arith

pub overflow_cast-j : goal.overflow_cast-j
overflow_cast-j t c =
    let q = c.requires in
    let m = low-few q.2 c.put_part-a.ensures in
    let b = c.saturating_sub-j.ensures in
    omega arith

pub overflow_cast-r : goal.overflow_cast-r
overflow_cast-r t c =
    let q = c.requires in
    let b = c.saturating_sub-j.ensures in
    let m = low-few q.2 c.put_part-a.ensures in
    let l = next_low q.2 c.put_part-a.ensures _ c.in-Some.ensures (λ y. (c.in_ok-r.ensures y).placed) in
    omega arith

pub link-requires-2 : goal.link-requires-2
link-requires-2 t c = c.requires.0

pub returns : goal.returns
returns t c =
    λ x. outer-more x c.put_part-a.ensures c.requires.1 c.spot-m.ensures _ c.in-Some.ensures _ c.saturating_sub-j.ensures c.in_ok-r.ensures c.link-2.ensures

pub returns-in_err-r : goal.returns-in_err-r
returns-in_err-r t c = λ x. absurd (c.in_err-r.ensures (process-next x c.put_part-a.ensures _ c.in-Some.ensures))
