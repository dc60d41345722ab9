-- Questions 17 and 8, then the name.
-- By the answers to these questions.
use Prim.Native.Nat.{◌≤◌, ◌<◌}
use native.Mathlib.Omega.{arith}
use mathlib.Core.Path.{sym, ◌∙◌}
use borrow.Author.Tests.{lt-ltb, le-ltb}
use Rattle.table.specs.Words.{word}
use Rattle.host.specs.Shown.{name_answer}
use Rattle.host.proofs.Given.{refuses}
use Rattle.host.proofs.name_at.Goals as goal

pub returns-then-not-is_valid : goal.returns-then-not-is_valid
unfolding name_answer
returns-then-not-is_valid c = let v = sym c.is_valid.ensures ∙ c.if-not-is_valid.true in rw v (refuses 17 _)

pub returns-then-word-k : goal.returns-then-word-k
unfolding name_answer
returns-then-word-k c =
    let a = c.args in
    let v = sym c.is_valid.ensures ∙ c.if-not-is_valid.false in
    let h : word a.w.now a.i ≤ a.k = omega (arith, c.word.ensures, c.if-word-k.true) in
    rw (v, le-ltb _ _ h) (refuses 8 _)

pub returns : goal.returns
unfolding name_answer
returns c =
    let a = c.args in
    let v = sym c.is_valid.ensures ∙ c.if-not-is_valid.false in
    let h : a.k < word a.w.now a.i = omega (arith, c.word.ensures, c.if-word-k.false) in
    rw (v, lt-ltb _ _ h) (rw c.wide.ensures at c.give_name.ensures)
