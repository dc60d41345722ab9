-- `def_at` reads a definition, and its numbers.
-- Identifier, parameters, `=`, body: one reader after the other, each of which may fail.
use mathlib.Core.Path.{ap, ◌∙◌}
use lib.ListN.{drop}
use Rattle.text.specs.Tokens.{lex}
use Rattle.text_scan.specs.Answers.{totaled}
use Rattle.text_scan.proofs.Texts.{def-1, def-2, def-3, def-4}
use Rattle.text_scan.proofs.def_at.Goals as goal

pub returns-in_err-a : goal.returns-in_err-a
returns-in_err-a c =
    let s = c.args.s.now in
    let ts = lex (drop c.args.at s) in
    ap (totaled s) c.from_residual.ensures ∙ def-1 ts c.in_err-a.ensures

pub returns-in_err-us : goal.returns-in_err-us
returns-in_err-us c =
    let s = c.args.s.now in
    let ts = lex (drop c.args.at s) in
    ap (totaled s) c.from_residual-in_err-us.ensures ∙ def-2 ts _ c.in_ok-a.ensures c.in_err-us.ensures

pub returns-in_err-e : goal.returns-in_err-e
returns-in_err-e c =
    let s = c.args.s.now in
    let ts = lex (drop c.args.at s) in
    ap (totaled s) c.from_residual-in_err-e.ensures ∙ def-3 ts _ c.in_ok-a.ensures _ _ c.in_ok-us.ensures c.in_err-e.ensures

pub returns-in_err-r : goal.returns-in_err-r
returns-in_err-r c =
    let s = c.args.s.now in
    let ts = lex (drop c.args.at s) in
    ap (totaled s) c.from_residual-in_err-r.ensures ∙ def-4 ts _ c.in_ok-a.ensures _ _ c.in_ok-us.ensures _ c.in_ok-e.ensures _ c.in_err-r.ensures

pub returns : goal.returns
returns c =
    let s = c.args.s.now in
    let ts = lex (drop c.args.at s) in
    def-4 ts _ c.in_ok-a.ensures _ _ c.in_ok-us.ensures _ c.in_ok-e.ensures _ c.in_ok-r.ensures
