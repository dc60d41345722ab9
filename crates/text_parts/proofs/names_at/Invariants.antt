-- `names_at` reads names joined by commas and `)`, and counts them up to 5.
-- The loop's invariant: what is named from here on, with n added, is what is named from `at` on.
use Prim.Native.Nat.{◌-◌}
use mathlib.Core.Path.{◌≡◌}
use lib.ListN.{length, drop}
use Rattle.text.specs.Tokens.{lex}
use Rattle.text_words.specs.Bytes.{mapped}
use Rattle.text_words.specs.Sorts.{fits}
use Rattle.text_parts.specs.Counting.{names_form, names_count}
use Rattle.text_parts.proofs.Fields.{From}
use Rattle.text_parts.proofs.names_at.Given as goal

abbrev pub invariant-loop-a : goal.invariant-loop-a
invariant-loop-a l = mapped (From l.n) (names_form (fits l.f) (lex (drop l.here l.s))) ≡ mapped names_count (names_form (fits l.f) (lex (drop l.at l.s)))

abbrev pub decreases-loop-a : goal.decreases-loop-a
decreases-loop-a l = length l.s - l.here
