-- `put_rights` meets its contract: a row, one after the other. The loop's invariant: the first l are written (Under).
use mathlib.Core.List.{flat_map}
use mathlib.Core.Path.{◌≡◌}
use lib.ListN.{get_or}
use lib.Seq.{sets}
use Rattle.table.specs.Words.{rights_at}
use Rattle.table.specs.Meaning.{list_from}
use Rattle.text_answer.specs.Answer.{no_row, row_words}
use Rattle.text_answer.proofs.given.put_rights.Given as goal

abbrev pub invariant-loop-l : goal.invariant-loop-l
invariant-loop-l l = l.w ≡ sets l.initial.w rights_at (flat_map row_words (list_from 0 l.l (λ k. get_or l.rights k no_row)))
