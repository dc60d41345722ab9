-- All bytes of a slice, one after the other.
-- Idea: what is left to put is what is left of the slice.
use lib.ListN.{drop}
use Rattle.text_letters.proofs.Pages.{LeftOf}
use Rattle.text_letters.proofs.Page.put_all.Given as goal

abbrev pub invariant-loop-b : goal.invariant-loop-b
invariant-loop-b l = LeftOf l.initial.self l.s l.self (drop l.b-index l.s)
