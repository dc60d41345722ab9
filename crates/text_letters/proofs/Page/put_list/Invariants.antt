-- Names between brackets, each after its sign.
-- Idea: what is left to put is the chain of the names that are left, after the sign that comes next.
use mathlib.Core.List.{map}
use lib.ListN.{drop}
use Rattle.table.specs.Words.{name_at}
use Rattle.text_letters.specs.Forms.{chain, listed}
use Rattle.text_letters.proofs.Pages.{LeftOf}
use Rattle.text_letters.proofs.Page.put_list.Given as goal

abbrev pub invariant-loop-o : goal.invariant-loop-o
invariant-loop-o l = LeftOf l.initial.self (listed (map (name_at l.w) l.words)) l.self (chain l.sign (map (name_at l.w) (drop l.o-index l.words)))
