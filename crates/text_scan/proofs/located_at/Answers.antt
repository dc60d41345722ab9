-- `located_at` reads a located process, and its numbers.
-- Location, `[`, process, `]`: one reader after the other, each of which may fail.
use mathlib.Core.Path.{ap, ◌∙◌}
use lib.ListN.{drop}
use Rattle.text.specs.Tokens.{lex}
use Rattle.text_scan.specs.Answers.{totaled}
use Rattle.text_scan.proofs.Texts.{located-1, located-2, located-3}
use Rattle.text_scan.proofs.located_at.Goals as goal

pub returns-in_err-a : goal.returns-in_err-a
returns-in_err-a c =
    let s = c.args.s.now in
    let ts = lex (drop c.args.at s) in
    ap (totaled s) c.from_residual.ensures ∙ located-1 ts c.in_err-a.ensures

pub returns-in_err-b : goal.returns-in_err-b
returns-in_err-b c =
    let s = c.args.s.now in
    let ts = lex (drop c.args.at s) in
    ap (totaled s) c.from_residual-in_err-b.ensures ∙ located-2 ts _ c.in_ok-a.ensures c.in_err-b.ensures

pub returns-in_err-r : goal.returns-in_err-r
returns-in_err-r c =
    let s = c.args.s.now in
    let ts = lex (drop c.args.at s) in
    ap (totaled s) c.from_residual-in_err-r.ensures ∙ located-3 ts _ c.in_ok-a.ensures _ c.in_ok-b.ensures _ c.in_err-r.ensures

pub returns : goal.returns
returns c =
    let s = c.args.s.now in
    let ts = lex (drop c.args.at s) in
    located-3 ts _ c.in_ok-a.ensures _ c.in_ok-b.ensures _ c.in_ok-r.ensures
