-- By whether the name is in scope.
use Rattle.text_fill.proofs.Defs.{scope-there, scope-new}
use Rattle.text_fill.proofs.definitions.entered.Goals as goal

pub returns-then-slot-n : goal.returns-then-slot-n
returns-then-slot-n c = scope-there _ _ _ _ c.key_at-k.ensures _ c.slot.ensures c.if-slot-n.true

pub returns : goal.returns
returns c = scope-new _ _ _ _ c.key_at-k.ensures _ c.slot.ensures c.if-slot-n.false
