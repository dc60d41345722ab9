-- The word is shifted down a byte a turn until it is 0: its letters are those of what is left of it.
-- By the invariant that what is left decides, and the word as measure.
use Prim.Native.Nat.{◌<◌}
use mathlib.Core.Path.{◌≡◌}
use Rattle.table_names.proofs.NamesForm.{solid}
use Rattle.table_names.proofs.forms.solid_word.Given as goal

abbrev pub invariant-loop-y : goal.invariant-loop-y
invariant-loop-y l = (l.y < 4_294_967_296) × (solid l.x ≡ solid l.y)

abbrev pub decreases-loop-y : goal.decreases-loop-y
decreases-loop-y l = l.y
