-- A value below 64 and the number of names in scope.
-- By its definition.
use Prim.Native.Nat.{◌+◌}
use mathlib.Core.Path.{ap₂}
use lib.Dec.{ltb}
use Rattle.text_tree.specs.Asked.{in_scope}
use Rattle.text_asked.proofs.in_scope.Goals as goal

pub returns : goal.returns
unfolding in_scope
returns c = ap₂ (λ v n. ltb v (64 + n)) c.wide.ensures c.wide-2.ensures
