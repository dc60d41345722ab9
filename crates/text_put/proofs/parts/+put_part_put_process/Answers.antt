-- Process reader and part reader, each the other's callee. The falling number is the bytes left, twice, and one more for the process reader.
use native.Mathlib.Omega.{arith}
use borrow.Author.Rules.{rules}
use denote.Enum.Bare.{same_true, same_false}
use mathlib.Core.Path.{sym, ap}
use Rattle.text_parts.specs.contracts.Form.{the_type}
use Rattle.text_parts.specs.declared.Form.TheVariants.{Leaf, One}
use Rattle.text_put.specs.Opened.{arms_of}
use Rattle.text_put.proofs.Putting.{some-arms, two-arms, inner-small, part-leaf, first-at, first-falls, one-closes, part-one, two-comma, second_at, two-closes, second-falls, part-two, part_at, low-few, process-last, process-next, next-falls, process-more, first-low, next_low}
use Rattle.text_put.proofs.parts.+put_part_put_process.Goals as goal

pub put_part-returns-in_default : goal.put_part-returns-in_default
put_part-returns-in_default t c = λ x. absurd (c.in_default.ensures x)

pub put_part-returns-then-eq : goal.put_part-returns-then-eq
put_part-returns-then-eq t c = λ x. part-leaf x (c.in-Some.ensures x) (ap arms_of {y = Leaf} (same_true the_type (search rules) _ _ (sym c.if-eq.ensures)))

pub put_part-put_process-p-requires : goal.put_part-put_process-p-requires
put_part-put_process-p-requires t c =
    let q = c.requires in
    let f = c.in-Some.ensures q.2 in
    let n = (some-arms _ (same_false the_type _ _ (sym c.if-eq.ensures))) in
    let l = first-falls q.2 f n in
    let h = c.decreases in
    let b = c.saturating_sub.ensures in
    (omega arith, (omega arith, inner-small q.2 f q.1, first-at q.2 f n))

pub put_part-returns-in_default-eat : goal.put_part-returns-in_default-eat
put_part-returns-in_default-eat t c =
    λ x. absurd (one-closes x (c.in-Some.ensures x) (rw c.saturating_sub.ensures at c.put_process-p.ensures) (ap arms_of {y = One} (same_true the_type (search rules) _ _ (sym c.if-eq-2.ensures))) c.in_default-eat.ensures)

pub put_part-returns-then-eq-2 : goal.put_part-returns-then-eq-2
put_part-returns-then-eq-2 t c =
    λ x. part-one x (c.in-Some.ensures x) (rw c.saturating_sub.ensures at c.put_process-p.ensures) (ap arms_of {y = One} (same_true the_type (search rules) _ _ (sym c.if-eq-2.ensures))) _ c.in-Some-eat.ensures

pub put_part-returns-in_default-eat-2 : goal.put_part-returns-in_default-eat-2
put_part-returns-in_default-eat-2 t c =
    λ x. absurd (two-comma x (c.in-Some.ensures x) (rw c.saturating_sub.ensures at c.put_process-p.ensures) (some-arms _ (same_false the_type _ _ (sym c.if-eq.ensures))) (two-arms _ (same_false the_type _ _ (sym c.if-eq-2.ensures))) c.in_default-eat-2.ensures)

pub put_part-put_process-r-requires : goal.put_part-put_process-r-requires
put_part-put_process-r-requires t c =
    let q = c.requires in
    let f = c.in-Some.ensures q.2 in
    let g = rw c.saturating_sub.ensures at c.put_process-p.ensures in
    let n = (some-arms _ (same_false the_type _ _ (sym c.if-eq.ensures))) in
    let m = (two-arms _ (same_false the_type _ _ (sym c.if-eq-2.ensures))) in
    let l = second-falls q.2 f g n m _ c.in-Some-eat-2.ensures in
    let o = first-low q.2 f g n in
    let h = c.decreases in
    let b = c.saturating_sub-k.ensures in
    (omega arith, (omega arith, q.1, second_at q.2 f g n m _ c.in-Some-eat-2.ensures))

pub put_part-overflow_cast-k : goal.put_part-overflow_cast-k
put_part-overflow_cast-k t c =
    let q = c.requires in
    let o = first-low q.2 (c.in-Some.ensures q.2) (rw c.saturating_sub.ensures at c.put_process-p.ensures) (some-arms _ (same_false the_type _ _ (sym c.if-eq.ensures))) in
    let b = c.saturating_sub-k.ensures in
    omega arith

pub put_part-returns-in_default-eat-3 : goal.put_part-returns-in_default-eat-3
put_part-returns-in_default-eat-3 t c =
    λ x. absurd (two-closes x (c.in-Some.ensures x) (rw c.saturating_sub.ensures at c.put_process-p.ensures) (some-arms _ (same_false the_type _ _ (sym c.if-eq.ensures))) (two-arms _ (same_false the_type _ _ (sym c.if-eq-2.ensures))) _ c.in-Some-eat-2.ensures c.put_process-r.ensures c.in_default-eat-3.ensures)

pub put_part-returns : goal.put_part-returns
put_part-returns t c =
    λ x.
    part-two x (c.in-Some.ensures x) (rw c.saturating_sub.ensures at c.put_process-p.ensures) (some-arms _ (same_false the_type _ _ (sym c.if-eq.ensures))) (two-arms _ (same_false the_type _ _ (sym c.if-eq-2.ensures))) _ c.in-Some-eat-2.ensures _ c.saturating_sub-k.ensures c.put_process-r.ensures c.set_second.ensures _ c.in-Some-eat-3.ensures

pub put_process-put_part-a-requires : goal.put_process-put_part-a-requires
put_process-put_part-a-requires t c =
    let q = c.requires in
    let h = c.decreases in
    (omega arith, (q.0, q.1, part_at q.2))

pub put_process-overflow_cast-a : goal.put_process-overflow_cast-a
put_process-overflow_cast-a t c =
    let q = c.requires in
    let m = low-few q.2 c.put_part-a.ensures in
    omega arith

pub put_process-returns-in_default : goal.put_process-returns-in_default
put_process-returns-in_default t c = λ x. process-last x c.put_part-a.ensures c.in_default.ensures c.link.ensures

pub put_process-put_process-r-requires : goal.put_process-put_process-r-requires
put_process-put_process-r-requires t c =
    let q = c.requires in
    let h = c.decreases in
    let m = low-few q.2 c.put_part-a.ensures in
    let l = next-falls q.2 c.put_part-a.ensures _ c.in-Some.ensures in
    let b = c.saturating_sub-j.ensures in
    (omega arith, (omega arith, q.1, process-next q.2 c.put_part-a.ensures _ c.in-Some.ensures))

pub put_process-overflow_cast-j : goal.put_process-overflow_cast-j
put_process-overflow_cast-j t c =
    let q = c.requires in
    let m = low-few q.2 c.put_part-a.ensures in
    let b = c.saturating_sub-j.ensures in
    omega arith

pub put_process-overflow_cast-r : goal.put_process-overflow_cast-r
put_process-overflow_cast-r t c =
    let q = c.requires in
    let b = c.saturating_sub-j.ensures in
    let m = low-few q.2 c.put_part-a.ensures in
    let l = next_low q.2 c.put_part-a.ensures _ c.in-Some.ensures c.put_process-r.ensures in
    omega arith

pub put_process-returns : goal.put_process-returns
put_process-returns t c = λ x. process-more x c.put_part-a.ensures _ c.in-Some.ensures _ c.saturating_sub-j.ensures c.put_process-r.ensures c.link-2.ensures
