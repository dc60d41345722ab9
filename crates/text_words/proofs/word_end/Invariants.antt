-- `word_end` stops where the longest run of letters and digits ends.
-- The loop's invariant: from `at` to i stand letters and digits only, and the run goes on as it does from i.
use Rattle.text_words.proofs.Positions.{Running}
use Rattle.text_words.proofs.word_end.Given as goal

abbrev pub invariant-loop-i : goal.invariant-loop-i
invariant-loop-i l = Running l.s l.at l.i
