-- Bytes that fit are put at the front; others are refused.
-- By the law of a text that is handed over.
use native.Mathlib.Omega.{arith}
use borrow.Author.Rules.{rules}
use mathlib.Core.Path.{◌∙◌}
use Rattle.text_letters.proofs.Pages.{from_start}
use Rattle.text_letters.proofs.Puts.{over-whole}
use Rattle.host.proofs.Given.{too_long, given}
use Rattle.host.proofs.give.Goals as goal

pub returns-then-buf-s : goal.returns-then-buf-s
returns-then-buf-s c = let a = c.args in too_long a.s.now a.buf.now c.if-buf-s.true

pub returns : goal.returns
returns c =
    let a = c.args in
    let x = from_start c.new-page.ensures.begins c.put_all.ensures in
    let k = given a.s.now a.buf.now (omega (arith, c.if-buf-s.false)) (x.bytes ∙ over-whole a.buf.now a.s.now (omega (arith, c.if-buf-s.false)) (omega arith)) in
    search rules
