-- `all_located` reads located processes joined by `|`, and adds their numbers up.
-- The loop's invariant is `Gathered`: what was gathered, joined with what is left, is the whole.
use mathlib.Core.Path.{sym, ap, subst, ◌∙◌}
use lib.ListN.{drop}
use Rattle.std.specs.Prelude.{Some}
use Rattle.text.specs.Tokens.{lex, bar}
use Rattle.text.specs.Grammar.{the}
use Rattle.text_scan.specs.Answers.{totals_of, totaled}
use Rattle.text_scan.proofs.Texts.{Gathered, gathered-first, gathered-bad, gathered-end, turn-falls, gathered-on}
use Rattle.text_scan.proofs.all_located.Goals as goal

pub loop-t-init : goal.loop-t-init
loop-t-init c = gathered-first c.args.s.now c.args.at c.nothing-t.result (ap totals_of c.nothing-t.ensures)

pub returns-in_err-located_at : goal.returns-in_err-located_at
returns-in_err-located_at c =
    let s = c.args.s.now in
    let l = c.loop-t in
    ap (totaled s) c.from_residual.ensures ∙ gathered-bad s c.args.at l.here l.t l.invariant c.in_err-located_at.ensures

pub returns-in_default : goal.returns-in_default
returns-in_default c =
    let s = c.args.s.now in
    let l = c.loop-t in
    let e = ap (λ z. the bar (lex (drop z.end s))) c.plus-t.ensures in
    ap (λ z. totaled s (Some z)) c.plus-t.ensures ∙ gathered-end s c.args.at l.here l.t l.invariant _ c.in_ok-located_at.ensures (c.in_default.ensures ∙ e)

pub loop-t-smaller : goal.loop-t-smaller
loop-t-smaller c =
    let s = c.args.s.now in
    let l = c.loop-t in
    let e = ap (λ z. the bar (lex (drop z.end s))) c.plus-t.ensures in
    turn-falls s c.args.at l.here l.t l.invariant _ c.in_ok-located_at.ensures _ (c.in-Some.ensures ∙ e)

pub loop-t-preserved : goal.loop-t-preserved
loop-t-preserved c =
    let s = c.args.s.now in
    let l = c.loop-t in
    let e = ap (λ z. the bar (lex (drop z.end s))) c.plus-t.ensures in
    subst (Gathered s c.args.at c.in-Some.q) (sym c.plus-t.ensures) (gathered-on s c.args.at l.here l.t l.invariant _ c.in_ok-located_at.ensures _ (c.in-Some.ensures ∙ e))
