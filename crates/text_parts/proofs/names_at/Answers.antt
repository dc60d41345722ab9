-- `names_at` reads names joined by commas and `)`, and counts them up to 5.
-- The loop's invariant: what is named from here on, with n added, is what is named from `at` on.
use Prim.Native.Nat.{◌+◌, min}
use native.Mathlib.Omega.{arith}
use mathlib.Core.Path.{◌≡◌, ap, ◌∙◌}
use lib.ListN.{drop}
use Rattle.text.specs.Tokens.{lex}
use Rattle.text.specs.Grammar.Rest.{bad}
use Rattle.text_words.specs.Sorts.{fits}
use Rattle.text_parts.specs.Answers.{listed}
use Rattle.text_parts.specs.Counting.{names_form}
use Rattle.text_words.proofs.Positions.{bytes-fall}
use Rattle.text_parts.proofs.Fields.{names-first, names-none, names-last, names_more, names-fall}
use Rattle.text_parts.proofs.names_at.Goals as goal

pub loop-a-init : goal.loop-a-init
loop-a-init c = let a = c.args in names-first (names_form (fits a.f) (lex (drop a.at a.s.now)))

pub returns-in_err-a : goal.returns-in_err-a
returns-in_err-a c =
    let a = c.args in
    let s = a.s.now in
    let l = c.loop-a in
    ap (listed s) c.from_residual.ensures ∙ names-none (fits a.f) (lex (drop l.here s)) l.n c.in_err-a.ensures ∙ l.invariant

pub returns-in_err-e : goal.returns-in_err-e
returns-in_err-e c =
    let a = c.args in
    let s = a.s.now in
    let l = c.loop-a in
    let n : c.min-n.result ≡ min (l.n + 1) 5 = omega (arith, c.min-n.ensures, c.saturating_add.ensures) in
    ap (listed s) c.from_residual-in_err-e.ensures ∙ names-last (fits a.f) (lex (drop l.here s)) l.n _ c.in_ok-a.ensures c.in_default.ensures _ n bad c.in_err-e.ensures ∙ l.invariant

pub returns-in_default : goal.returns-in_default
returns-in_default c =
    let a = c.args in
    let s = a.s.now in
    let l = c.loop-a in
    let n : c.min-n.result ≡ min (l.n + 1) 5 = omega (arith, c.min-n.ensures, c.saturating_add.ensures) in
    names-last (fits a.f) (lex (drop l.here s)) l.n _ c.in_ok-a.ensures c.in_default.ensures _ n _ c.in_ok-e.ensures ∙ l.invariant

pub loop-a-smaller : goal.loop-a-smaller
loop-a-smaller c =
    let a = c.args in
    let s = a.s.now in
    let l = c.loop-a in
    bytes-fall s l.here _ (names-fall (fits a.f) (lex (drop l.here s)) l.n _ c.in_ok-a.ensures _ c.in-Some.ensures)

pub loop-a-preserved : goal.loop-a-preserved
loop-a-preserved c =
    let a = c.args in
    let s = a.s.now in
    let l = c.loop-a in
    let n : c.min-n.result ≡ min (l.n + 1) 5 = omega (arith, c.min-n.ensures, c.saturating_add.ensures) in
    names_more (fits a.f) (lex (drop l.here s)) l.n _ c.in_ok-a.ensures _ c.in-Some.ensures _ n ∙ l.invariant
