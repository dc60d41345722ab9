-- `word_end` stops where the longest run of letters and digits ends.
-- The loop's invariant: from `at` to i stand letters and digits only, and the run goes on as it does from i.
use mathlib.Core.Path.{sym, ◌∙◌}
use Rattle.text_words.proofs.Positions.{running-first, running-on, running-stop, running-max}
use Rattle.text_words.proofs.word_end.Goals as goal

pub loop-i-init : goal.loop-i-init
loop-i-init c = running-first _ _

pub returns-then-not-is_alnum : goal.returns-then-not-is_alnum
returns-then-not-is_alnum c =
    let l = c.loop-i in
    running-stop _ _ l.i l.invariant c.loop-i-test.true (sym c.is_alnum.ensures ∙ c.if-not-is_alnum.true)

pub loop-i-preserved : goal.loop-i-preserved
loop-i-preserved c =
    let l = c.loop-i in
    running-on _ _ l.i l.invariant c.loop-i-test.true (sym c.is_alnum.ensures ∙ c.if-not-is_alnum.false)

pub returns : goal.returns
returns c =
    let l = c.loop-i in
    rw c.max.ensures (running-max _ _ l.i l.invariant c.loop-i-test.false l.auto.i-end)
