-- `put_flags` meets its contract: a right, one after the other. The loop's invariant: the first c are written (Under).
use mathlib.Core.Bool.{false}
use mathlib.Core.Path.{◌≡◌}
use lib.ListN.{get_or}
use lib.Seq.{sets}
use Rattle.table.specs.Meaning.{list_from}
use Rattle.text_answer.specs.Answer.{flag}
use Rattle.text_answer.proofs.given.put_flags.Given as goal

abbrev pub invariant-loop-c : goal.invariant-loop-c
invariant-loop-c l = l.w ≡ sets l.initial.w l.o (list_from 0 l.c (λ k. flag (get_or l.row k false)))
