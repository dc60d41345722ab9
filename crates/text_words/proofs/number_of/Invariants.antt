-- `number_of` never wraps, and is above 1,000,000 exactly if the number is.
-- The loop's invariant: the number so far, followed by the bytes from the loop's place on, is the word's number.
use Prim.Native.Nat.{◌≤◌}
use mathlib.Core.Path.{◌≡◌}
use lib.ListN.{drop}
use Rattle.text.specs.Tokens.{number_from, number}
use Rattle.text_words.proofs.number_of.Given as goal

abbrev pub invariant-loop-b : goal.invariant-loop-b
invariant-loop-b l = (l.n ≤ 20_000_000) × (number_from l.n (drop l.b-index l.w) ≡ number l.w)
