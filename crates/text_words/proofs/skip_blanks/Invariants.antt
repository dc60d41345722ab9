-- `skip_blanks` stops where the definition's bytes past the blanks begin.
-- The loop's invariant: the bytes past the blanks are the same from i on as from `at` on.
use mathlib.Core.Path.{◌≡◌}
use lib.ListN.{drop}
use Rattle.text_words.specs.Bytes.{after_blanks}
use Rattle.text_words.proofs.skip_blanks.Given as goal

abbrev pub invariant-loop-i : goal.invariant-loop-i
invariant-loop-i l = after_blanks (drop l.i l.s) ≡ after_blanks (drop l.at l.s)
