-- The labels, one record after the other.
-- Idea: what is left to put is the labels of the records from the number on.
use mathlib.Core.List.{flat_map}
use Rattle.text_letters.proofs.Pages.{LeftOf}
use Rattle.run_line.specs.Line.{spaced}
use Rattle.run_line.specs.Records.{label_in}
use Rattle.run_line.proofs.Lines.{rest}
use Rattle.run_line.proofs.put_actions.Given as goal

abbrev pub invariant-loop-e : goal.invariant-loop-e
invariant-loop-e l = LeftOf l.initial.page (spaced (flat_map (label_in l.net.script.now (record { c = l.net.words.now; n = l.net.n })) l.records)) l.page (rest l.net.script.now (record { c = l.net.words.now; n = l.net.n }) l.records l.e-index)
