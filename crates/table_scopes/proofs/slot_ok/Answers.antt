-- A slot is in scope, and the first of its name.
-- By what stands at the slot.
use Prim.Native.Nat.{◌+◌}
use native.Mathlib.Omega.{arith}
use mathlib.Core.Path.{◌≡◌, sym, ◌∙◌}
use borrow.Author.Tests.{le-ltb}
use Rattle.table.specs.Words.{field, slot_field}
use Rattle.table_scopes.proofs.ValidScopes.{slot-out, slot-in}
use Rattle.table_scopes.proofs.slot_ok.Goals as goal

pub returns-else-k-n : goal.returns-else-k-n
returns-else-k-n c = let a = c.args in le-ltb _ _ (omega arith) ∙ sym (slot-out a.w.now a.i a.n c.requires a.k (omega arith))

pub returns-then-k-n : goal.returns-then-k-n
returns-then-k-n c =
    let a = c.args in
    let o : c.wide.result ≡ field a.w.now a.i (slot_field + a.k) = c.wide.ensures ∙ c.field.ensures in
    sym (slot-in a.w.now a.i a.n c.requires a.k (omega arith) ∙ rw (c.find_slot.ensures, c.key_at.ensures, o))
