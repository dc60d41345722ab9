-- The head of a call names a held definition with as many parameters.
use native.Mathlib.Omega.{arith}
use mathlib.Core.Bool.{true, false}
use mathlib.Core.Path.{◌≡◌, sym, ◌∙◌}
use lib.Dec.{ltb}
use borrow.Author.Tests.{lt-ltb, le-ltb}
use Rattle.table.specs.Words.{defs_in, head_at}
use Rattle.text_tree.specs.Asked.{call_held}
use Rattle.text_asked.proofs.Rows.{held-other}
use Rattle.text_asked.proofs.call_held.Goals as goal

pub returns-then-d-word : goal.returns-then-d-word
unfolding call_held
returns-then-d-word c =
    let w = c.args.w.now in
    let h : ltb c.in-Call.d (defs_in w) ≡ true = lt-ltb _ _ (omega (arith, c.if-d-word.true, c.word.ensures)) in
    rw (sym c.head_at.ensures ∙ c.in-Call.is, h) cc

pub returns-else-d-word : goal.returns-else-d-word
unfolding call_held
returns-else-d-word c =
    let w = c.args.w.now in
    let h : ltb c.in-Call.d (defs_in w) ≡ false = le-ltb _ _ (omega (arith, c.if-d-word.false, c.word.ensures)) in
    rw (sym c.head_at.ensures ∙ c.in-Call.is, h) cc

pub returns-in_default : goal.returns-in_default
returns-in_default c =
    let a = c.args in
    sym (held-other a.w.now (head_at a.w.now a.i) (λ d n e. c.in_default.not-Call d n (c.head_at.ensures ∙ e)))
