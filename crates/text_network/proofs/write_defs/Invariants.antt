-- Each definition in order.
-- Idea: what is left to put is the definitions from the number on.
use Prim.Native.Nat.{◌-◌}
use Rattle.table.specs.Words.{defs_in}
use Rattle.table.specs.Meaning.{list_from, def_of, defs_of}
use Rattle.text_network.specs.Forms.{defs_text}
use Rattle.text_letters.proofs.Pages.{LeftOf}
use Rattle.text_network.proofs.write_defs.Given as goal

abbrev pub invariant-loop-d : goal.invariant-loop-d
invariant-loop-d l = LeftOf l.initial.page (defs_text (defs_of l.w)) l.page (defs_text (list_from l.d (defs_in l.w - l.d) (def_of l.w)))
