-- The reader of a process, by its span, and the reader of a part, each the other's callee: what they answer stands for what the grammar gives, stopped at the limits.
-- The falling number is the bytes left, twice, and one more for the process reader; the loop's invariant is `Gathered`.
use native.Mathlib.Omega.{arith}
use mathlib.Core.Path.{refl, sym, ap, subst, ◌∙◌}
use borrow.Author.Rules.{rules}
use denote.Enum.Bare.{same_true, same_false}
use lib.ListN.{drop}
use Rattle.std.specs.Prelude.{Some}
use Rattle.text.specs.Tokens.{lex, bar}
use Rattle.text.specs.Grammar.{the}
use Rattle.text_parts.specs.contracts.Form.{the_type}
use Rattle.text_parts.specs.Answers.{sized, closed_size}
use Rattle.text_parts.proofs.Cycle.{part-wrong, opening-falls, opening-two, part-leaf, part-one, part-no-first, part-no-comma, second-falls, part-two, Gathered, gathered-first, gathered-bad, gathered-end, turn-falls, gathered-on}
use Rattle.text_parts.proofs.+read_part_process_span.Goals as goal

pub read_part-returns-in_err-b : goal.read_part-returns-in_err-b
read_part-returns-in_err-b t c =
    let s = c.args.s.now in
    ap (sized s) c.from_residual.ensures ∙ part-wrong s c.args.at c.in_err-b.ensures

pub read_part-returns-then-eq : goal.read_part-returns-then-eq
read_part-returns-then-eq t c =
    part-leaf c.args.s.now c.args.at _ c.in_ok-b.ensures (same_true the_type (search rules) _ _ (sym c.if-eq.ensures))

pub read_part-process_span-requires : goal.read_part-process_span-requires
read_part-process_span-requires t c =
    let f = opening-falls c.args.s.now c.args.at _ c.in_ok-b.ensures in
    let h = c.decreases in
    (omega arith, tt)

pub read_part-returns-in_err-p : goal.read_part-returns-in_err-p
read_part-returns-in_err-p t c =
    let s = c.args.s.now in
    ap (sized s) c.from_residual-in_err-p.ensures
    ∙ part-no-first s c.args.at _ c.in_ok-b.ensures (same_false the_type _ _ (sym c.if-eq.ensures)) (ap (sized s) c.in_err-p.ensures ∙ c.process_span.ensures)

pub read_part-returns-then-eq-2 : goal.read_part-returns-then-eq-2
read_part-returns-then-eq-2 t c =
    let s = c.args.s.now in
    let p = ap (sized s) c.in_ok-p.ensures ∙ c.process_span.ensures in
    c.closed.ensures ∙ part-one s c.args.at _ c.in_ok-b.ensures (same_true the_type (search rules) _ _ (sym c.if-eq-2.ensures)) _ p

pub read_part-returns-in_err-q : goal.read_part-returns-in_err-q
read_part-returns-in_err-q t c =
    let s = c.args.s.now in
    let e = opening-two s c.args.at _ c.in_ok-b.ensures (same_false the_type _ _ (sym c.if-eq.ensures)) (same_false the_type _ _ (sym c.if-eq-2.ensures)) in
    let p = ap (sized s) c.in_ok-p.ensures ∙ c.process_span.ensures in
    ap (sized s) c.from_residual-in_err-q.ensures ∙ part-no-comma s c.args.at _ e _ p c.in_err-q.ensures

pub read_part-process_span-requires-2 : goal.read_part-process_span-requires-2
read_part-process_span-requires-2 t c =
    let s = c.args.s.now in
    let e = opening-two s c.args.at _ c.in_ok-b.ensures (same_false the_type _ _ (sym c.if-eq.ensures)) (same_false the_type _ _ (sym c.if-eq-2.ensures)) in
    let p = ap (sized s) c.in_ok-p.ensures ∙ c.process_span.ensures in
    let f = opening-falls s c.args.at _ c.in_ok-b.ensures in
    let g = second-falls s c.args.at _ e _ p _ c.in_ok-q.ensures in
    let h = c.decreases in
    (omega arith, tt)

pub read_part-returns-in_err-r : goal.read_part-returns-in_err-r
read_part-returns-in_err-r t c =
    let s = c.args.s.now in
    let e = opening-two s c.args.at _ c.in_ok-b.ensures (same_false the_type _ _ (sym c.if-eq.ensures)) (same_false the_type _ _ (sym c.if-eq-2.ensures)) in
    let p = ap (sized s) c.in_ok-p.ensures ∙ c.process_span.ensures in
    ap (sized s) c.from_residual-in_err-r.ensures ∙ part-two s c.args.at _ e _ p _ c.in_ok-q.ensures _ (ap (sized s) c.in_err-r.ensures ∙ c.process_span-2.ensures)

pub read_part-returns : goal.read_part-returns
read_part-returns t c =
    let s = c.args.s.now in
    let e = opening-two s c.args.at _ c.in_ok-b.ensures (same_false the_type _ _ (sym c.if-eq.ensures)) (same_false the_type _ _ (sym c.if-eq-2.ensures)) in
    let p = ap (sized s) c.in_ok-p.ensures ∙ c.process_span.ensures in
    let r = ap (sized s) c.in_ok-r.ensures ∙ c.process_span-2.ensures in
    c.closed-2.ensures ∙ ap (λ z. closed_size (sized s (Some z))) c.joined.ensures ∙ part-two s c.args.at _ e _ p _ c.in_ok-q.ensures _ r

pub process_span-loop-part-init : goal.process_span-loop-part-init
process_span-loop-part-init t c = (omega arith, gathered-first c.args.s.now c.args.at (record { end = c.args.at; nesting = 0; parts = 0; width = 0 }) refl)

pub process_span-returns-in_default : goal.process_span-returns-in_default
process_span-returns-in_default t c =
    let s = c.args.s.now in
    let l = c.loop-part in
    ap (sized s) c.new.ensures ∙ gathered-bad s c.args.at l.here l.size l.invariant.1 c.in_default.ensures

pub process_span-returns-in_default-eat : goal.process_span-returns-in_default-eat
process_span-returns-in_default-eat t c =
    let s = c.args.s.now in
    let l = c.loop-part in
    let e = ap (λ z. the bar (lex (drop z.end s))) c.joined-size.ensures in
    ap (sized s) c.new-in_default-eat.ensures ∙ ap (λ z. sized s (Some z)) c.joined-size.ensures ∙ gathered-end s c.args.at l.here l.size l.invariant.1 _ c.in-Some.ensures (c.in_default-eat.ensures ∙ e)

pub process_span-loop-part-smaller : goal.process_span-loop-part-smaller
process_span-loop-part-smaller t c =
    let s = c.args.s.now in
    let l = c.loop-part in
    let e = ap (λ z. the bar (lex (drop z.end s))) c.joined-size.ensures in
    turn-falls s c.args.at l.here l.size l.invariant.1 _ c.in-Some.ensures _ (c.in-Some-eat.ensures ∙ e)

pub process_span-loop-part-preserved : goal.process_span-loop-part-preserved
process_span-loop-part-preserved t c =
    let s = c.args.s.now in
    let l = c.loop-part in
    let e = ap (λ z. the bar (lex (drop z.end s))) c.joined-size.ensures in
    let i = l.invariant.0 in
    let f = turn-falls s c.args.at l.here l.size l.invariant.1 _ c.in-Some.ensures _ (c.in-Some-eat.ensures ∙ e) in
    (omega arith, subst (Gathered s c.args.at c.in-Some-eat.q) (sym c.joined-size.ensures) (gathered-on s c.args.at l.here l.size l.invariant.1 _ c.in-Some.ensures _ (c.in-Some-eat.ensures ∙ e)))
