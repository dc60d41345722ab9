-- `text_at` reads definitions and then a network, and adds their numbers up.
-- The loop's invariant is `Before`: what was gathered, joined with the text that is left, is the whole.
use Prim.Native.Nat.{◌-◌, ◌<◌}
use mathlib.Core.Path.{sym, ap, subst, ◌∙◌}
use lib.ListN.{length}
use Rattle.std.specs.Prelude.{Some}
use Rattle.text_scan.specs.Answers.{totals_of, totaled}
use Rattle.text_scan.proofs.Texts.{Before, before-first, before-network, before-none, def-falls, before_on}
use Rattle.text_scan.proofs.text_at.Goals as goal

pub loop-t-init : goal.loop-t-init
loop-t-init c =
    let s = c.args.s.now in
    let at = c.args.at in
    let e = ap (λ t. t.end) c.nothing-t.ensures in
    subst (λ here. Before s at here c.nothing-t.result) (sym e) (before-first s at c.nothing-t.result (ap totals_of c.nothing-t.ensures))

pub returns-in_err-def_at : goal.returns-in_err-def_at
returns-in_err-def_at c =
    let s = c.args.s.now in
    let l = c.loop-t in
    ap (totaled s) c.from_residual.ensures ∙ before-none s c.args.at l.t.end l.t l.invariant (sym c.loop-t-test.true ∙ c.net_next.ensures) c.in_err-def_at.ensures

pub loop-t-smaller : goal.loop-t-smaller
loop-t-smaller c =
    let s = c.args.s.now in
    let l = c.loop-t in
    subst (λ e. length s - e < length s - l.t.end) (sym (ap (λ t. t.end) c.plus-t.ensures)) (def-falls s c.args.at l.t.end l.t l.invariant (sym c.loop-t-test.true ∙ c.net_next.ensures) _ c.in_ok-def_at.ensures)

pub loop-t-preserved : goal.loop-t-preserved
loop-t-preserved c =
    let s = c.args.s.now in
    let l = c.loop-t in
    subst (λ t. Before s c.args.at t.end t) (sym c.plus-t.ensures) (before_on s c.args.at l.t.end l.t l.invariant (sym c.loop-t-test.true ∙ c.net_next.ensures) _ c.in_ok-def_at.ensures)

pub returns-in_err-network_at : goal.returns-in_err-network_at
returns-in_err-network_at c =
    let s = c.args.s.now in
    let l = c.loop-t in
    ap (totaled s) c.from_residual-in_err-network_at.ensures ∙ before-network s c.args.at l.t.end l.t l.invariant (sym c.loop-t-test.false ∙ c.net_next.ensures) _ c.in_err-network_at.ensures

pub returns : goal.returns
returns c =
    let s = c.args.s.now in
    let l = c.loop-t in
    ap (λ z. totaled s (Some z)) c.plus.ensures ∙ before-network s c.args.at l.t.end l.t l.invariant (sym c.loop-t-test.false ∙ c.net_next.ensures) _ c.in_ok-network_at.ensures
