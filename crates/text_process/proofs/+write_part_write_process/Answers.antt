-- A part is what stands before its first process, and then its processes; a process is its parts, joined by ` | `.
-- Both fall by the place: twice the place for a part, and one more for a process, since a process begins with the part at its own place.
-- the process at n, where n is the place m
use Prim.Native.Nat.{◌-◌, suc}
use native.Mathlib.Omega.{arith}
use mathlib.Core.List.{List}
use mathlib.Core.Path.{◌≡◌, ap, sym, ◌∙◌}
use Rattle.table.specs.Words.{next_at}
use Rattle.text_letters.specs.declared.Page.{Page}
use Rattle.text_letters.specs.Page.{Adds}
use Rattle.text_process.specs.Forms.{part_text, process_text}
use Rattle.text_process.specs.Values.{part_seen, process_seen}
use Rattle.text_letters.proofs.Pages.{begun, step, last, then, same, left_as}
use Rattle.text_process.proofs.Heads.{place-small, below-go, below_out, below_in, below_next, close-stop, close-call, close-go, close-out, close-in, process-last, process-more}
use Prim.Native.Nat.{ℕ}
use Rattle.text_process.proofs.+write_part_write_process.Goals as goal

moved : {p q : Page} {m n : ℕ} (w vs : List ℕ) → n ≡ m → Adds p (process_text (process_seen w n vs)) q → Adds p (process_text (process_seen w m vs)) q
moved w vs q x = same (ap (λ z. process_text (process_seen w z vs)) q) x

pub write_part-put_open-requires : goal.write_part-put_open-requires
write_part-put_open-requires t c = c.requires

pub write_part-head_at-requires : goal.write_part-head_at-requires
write_part-head_at-requires t c = place-small c.requires

pub write_part-write_process-requires : goal.write_part-write_process-requires
write_part-write_process-requires t c =
    let k = c.args in
    let b = below-go k.w.now k.i k.vals.now c.requires (sym c.head_at.ensures ∙ c.in-Go.is) in
    rw c.wide.ensures (omega (arith, b.lesser, c.decreases), b.place)

pub write_part-write_process-requires-in-Out : goal.write_part-write_process-requires-in-Out
write_part-write_process-requires-in-Out t c =
    let k = c.args in
    let b = (below_out k.w.now k.i k.vals.now c.requires (sym c.head_at.ensures ∙ c.in-Out.is)).0 in
    rw c.wide-in-Out.ensures (omega (arith, b.lesser, c.decreases), b.place)

pub write_part-write_process-requires-in-Out-2 : goal.write_part-write_process-requires-in-Out-2
write_part-write_process-requires-in-Out-2 t c =
    let k = c.args in
    let b = (below_out k.w.now k.i k.vals.now c.requires (sym c.head_at.ensures ∙ c.in-Out.is)).1 in
    rw c.wide-in-Out-2.ensures (omega (arith, b.lesser, c.decreases), b.place)

pub write_part-without-inner-requires : goal.write_part-without-inner-requires
write_part-without-inner-requires t c = c.requires.slots

pub write_part-write_process-requires-in-In : goal.write_part-write_process-requires-in-In
write_part-write_process-requires-in-In t c =
    let k = c.args in
    let b = (below_in k.w.now k.i k.vals.now c.requires (sym c.head_at.ensures ∙ c.in-In.is)).0 in
    rw (c.wide-in-In.ensures, c.without-inner.ensures) (omega (arith, b.lesser, c.decreases), b.place)

pub write_part-write_process-requires-in-In-2 : goal.write_part-write_process-requires-in-In-2
write_part-write_process-requires-in-In-2 t c =
    let k = c.args in
    let b = (below_in k.w.now k.i k.vals.now c.requires (sym c.head_at.ensures ∙ c.in-In.is)).1 in
    rw c.wide-in-In-2.ensures (omega (arith, b.lesser, c.decreases), b.place)

pub write_part-returns-in-Stop : goal.write_part-returns-in-Stop
write_part-returns-in-Stop t c =
    let k = c.args in
    same (close-stop k.w.now k.i k.vals.now c.requires k.t (sym c.head_at.ensures ∙ c.in-Stop.is)) c.put_open.ensures

pub write_part-returns-in-Go : goal.write_part-returns-in-Go
write_part-returns-in-Go t c =
    let k = c.args in
    same (close-go k.w.now k.i k.vals.now c.requires k.t (sym c.head_at.ensures ∙ c.in-Go.is))
    (then c.put_open.ensures (then (moved k.w.now k.vals.now c.wide.ensures c.write_process.ensures) c.put.ensures))

pub write_part-returns-in-Out : goal.write_part-returns-in-Out
write_part-returns-in-Out t c =
    let k = c.args in
    same (close-out k.w.now k.i k.vals.now c.requires k.t (sym c.head_at.ensures ∙ c.in-Out.is))
    (then c.put_open.ensures (then (moved k.w.now k.vals.now c.wide-in-Out.ensures c.write_process-in-Out.ensures)
    (then c.put-in-Out.ensures (then (moved k.w.now k.vals.now c.wide-in-Out-2.ensures c.write_process-in-Out-2.ensures) c.put-in-Out-2.ensures))))

pub write_part-returns-in-In : goal.write_part-returns-in-In
write_part-returns-in-In t c =
    let k = c.args in
    let first = same (ap (λ us. process_text (process_seen k.w.now c.wide-in-In.result us)) c.without-inner.ensures) c.write_process-in-In.ensures in
    same (close-in k.w.now k.i k.vals.now c.requires k.t (sym c.head_at.ensures ∙ c.in-In.is))
    (then c.put_open.ensures (then (moved k.w.now _ c.wide-in-In.ensures first)
    (then c.put-in-In.ensures (then (moved k.w.now k.vals.now c.wide-in-In-2.ensures c.write_process-in-In-2.ensures) c.put-in-In-2.ensures))))

pub write_part-returns-in-Call : goal.write_part-returns-in-Call
write_part-returns-in-Call t c =
    let k = c.args in
    same (close-call k.w.now k.i k.vals.now c.requires k.t (sym c.head_at.ensures ∙ c.in-Call.is)) c.put_open.ensures

pub write_process-loop-i-init : goal.write_process-loop-i-init
write_process-loop-i-init t c = (c.requires, omega arith, begun)

pub write_process-field-requires : goal.write_process-field-requires
write_process-field-requires t c = let h = place-small c.loop-i.invariant.0 in omega arith

pub write_process-write_part-requires : goal.write_process-write_part-requires
write_process-write_part-requires t c = (omega (arith, c.decreases, c.loop-i.invariant.1), c.loop-i.invariant.0)

pub write_process-next_at-requires : goal.write_process-next_at-requires
write_process-next_at-requires t c = place-small c.loop-i.invariant.0

pub write_process-returns-then-n-eq0 : goal.write_process-returns-then-n-eq0
write_process-returns-then-n-eq0 t c =
    let w = c.args.w.now in
    let vs = c.args.vals.now in
    let j = c.loop-i.j in
    last (left_as (process-last w j vs c.loop-i.invariant.0 (sym c.next_at.ensures ∙ sym c.wide-n.ensures ∙ c.if-n-eq0.true)) c.loop-i.invariant.2)
    (same (ap (λ t. part_text (part_seen w j t vs)) c.field.ensures) c.write_part.ensures)

pub write_process-loop-i-smaller : goal.write_process-loop-i-smaller
write_process-loop-i-smaller t c =
    let k = c.args in
    let next : next_at k.w.now c.loop-i.j ≡ suc (c.wide-n.result - 1) = sym c.next_at.ensures ∙ sym c.wide-n.ensures ∙ (let h = c.if-n-eq0.false in omega arith) in
    (below_next k.w.now c.loop-i.j k.vals.now c.loop-i.invariant.0 (c.wide-n.result - 1) next).lesser

pub write_process-loop-i-preserved : goal.write_process-loop-i-preserved
write_process-loop-i-preserved t c =
    let k = c.args in
    let j = c.loop-i.j in
    let next : next_at k.w.now j ≡ suc (c.wide-n.result - 1) = sym c.next_at.ensures ∙ sym c.wide-n.ensures ∙ (let h = c.if-n-eq0.false in omega arith) in
    let b = below_next k.w.now j k.vals.now c.loop-i.invariant.0 (c.wide-n.result - 1) next in
    let part = same (ap (λ t. part_text (part_seen k.w.now j t k.vals.now)) c.field.ensures) c.write_part.ensures in (
      b.place,
      omega (arith, b.lesser, c.loop-i.invariant.1),
      step (step (left_as (process-more k.w.now j k.vals.now c.loop-i.invariant.0 (c.wide-n.result - 1) next) c.loop-i.invariant.2) part) c.put_bar.ensures,
    )
