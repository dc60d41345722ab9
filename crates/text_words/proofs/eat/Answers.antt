-- `eat` finds the sign c past the blanks, or says that it is not there.
-- By the byte that stands past the blanks, if any.
use Rattle.text_words.proofs.Positions.{eat-done, eat-other, eat-over}
use Rattle.text_words.proofs.eat.Goals.{else-a-s-via-then-a-s+else-s-a, else-a-s-via-else-a-s}
use Rattle.text_words.proofs.eat.Goals as goal

pub returns-then-s-a : goal.returns-then-s-a
returns-then-s-a c =
    eat-done c.args.s.now c.args.at _ c.skip_blanks-a.ensures c.args.c c.requires c.if-a-s.true c.if-s-a.true

pub returns : goal.returns
returns c =
    let a = c.args in
    elim c.else-a-s.branch [
      | else-a-s-via-then-a-s+else-s-a w ↦ eat-other a.s.now a.at _ c.skip_blanks-a.ensures a.c w.if-a-s.true w.if-s-a.false
      | else-a-s-via-else-a-s w ↦ eat-over a.s.now a.at _ c.skip_blanks-a.ensures a.c w.if-a-s.false
    ]
