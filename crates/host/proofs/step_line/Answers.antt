-- Question 17, the step on a copy, then its line.
-- By the law of a line made from the step, and the law that a line has at most 13,329 bytes.
use native.Mathlib.Omega.{arith}
use mathlib.Core.Path.{sym, ◌∙◌}
use Rattle.text_letters.proofs.Pages.{from_start}
use Rattle.run_line.proofs.Lines.{held-front, step-holds}
use Rattle.run_line.proofs.Fits.{line-short}
use Rattle.host.specs.Shown.{line_answer}
use Rattle.host.proofs.Given.{handed, refuses, answers-as}
use Rattle.host.proofs.Lined.{asked-first, line_refused, line_taken}
use Rattle.host.proofs.step_line.Goals as goal

pub returns-then-not-is_valid : goal.returns-then-not-is_valid
unfolding line_answer
returns-then-not-is_valid c = let v = sym c.is_valid.ensures ∙ c.if-not-is_valid.true in rw (v, c.from.ensures) (refuses 17 _)

pub step_valid-s-requires : goal.step_valid-s-requires
step_valid-s-requires c = sym c.is_valid.ensures ∙ c.if-not-is_valid.false

pub returns-then-s-ne0 : goal.returns-then-s-ne0
returns-then-s-ne0 c =
    let v = sym c.is_valid.ensures ∙ c.if-not-is_valid.false in
    answers-as (line_refused _ _ _ _ _ _ _ _ (asked-first _ _ _ 0 _ _ _ _ v c.step_valid-s.ensures) c.if-s-ne0.true) (refuses _ _)

pub put_line-requires : goal.put_line-requires
put_line-requires c =
    let v = sym c.is_valid.ensures ∙ c.if-not-is_valid.false in
    let z = c.if-s-ne0.false in
    held-front _ _ _ _ _ (step-holds _ _ _ _ _ _ _ _ (asked-first _ _ _ 0 _ _ _ _ v c.step_valid-s.ensures) (omega arith))

pub returns : goal.returns
returns c =
    let v = sym c.is_valid.ensures ∙ c.if-not-is_valid.false in
    let z = c.if-s-ne0.false in
    let told = rw c.text.ensures at c.give.ensures in
    answers-as (line_taken _ _ _ _ _ _ _ _ (asked-first _ _ _ 0 _ _ _ _ v c.step_valid-s.ensures) (omega arith)) (handed (from_start c.new-page.ensures.begins c.put_line.ensures) (line-short _ _ v _) (omega arith) (rw c.from-2.ensures told))
