-- `skip_blanks` stops where the definition's bytes past the blanks begin.
-- The loop's invariant: the bytes past the blanks are the same from i on as from `at` on.
use mathlib.Core.Path.{sym, ◌∙◌}
use Rattle.text_words.proofs.Positions.{blank-on, blank-stop, blank-end}
use Rattle.text_words.proofs.skip_blanks.Goals as goal

pub returns-then-not-is_blank : goal.returns-then-not-is_blank
returns-then-not-is_blank c =
    let l = c.loop-i in
    blank-stop _ l.i c.loop-i-test.true (sym c.is_blank.ensures ∙ c.if-not-is_blank.true) ∙ l.invariant

pub loop-i-preserved : goal.loop-i-preserved
loop-i-preserved c =
    let l = c.loop-i in
    blank-on _ l.i c.loop-i-test.true (sym c.is_blank.ensures ∙ c.if-not-is_blank.false) ∙ l.invariant

pub returns : goal.returns
returns c = blank-end _ c.loop-i.i c.loop-i-test.false ∙ c.loop-i.invariant
