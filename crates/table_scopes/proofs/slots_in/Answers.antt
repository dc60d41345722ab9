-- Each word of the scope is tested.
-- By what the library says of `all` over a range.
use Prim.Native.Nat.{◌+◌}
use native.Mathlib.Omega.{arith}
use mathlib.Core.Path.{refl}
use Rattle.std.proofs.Common.{rules}
use Rattle.std.proofs.lemmas.Iterator.{YieldsList-from_range}
use Rattle.std.proofs.lemmas.Iterator.Search.{all_from_yields_List}
use borrow.Author.Tests.{tests}
use lib.Dec.{ltb}
use Rattle.table.specs.Words.{field, slot_field, last_name}
use Rattle.table_scopes.proofs.Searched.{all-decides}
use Rattle.table_scopes.proofs.ValidScopes.{scope-every, scope-miss}
use Rattle.table_scopes.proofs.slots_in.Goals as goal

pub returns : goal.returns
returns c =
    let a = c.args in
    let w = a.w.now in
    all-decides (λ k. ltb (field w a.i (slot_field + k)) last_name) a.n _ _
    (all_from_yields_List (λ k. ltb (field w a.i (slot_field + k)) last_name) _ _ _ c.all.ensures.ran (YieldsList-from_range 0 a.n a.n refl (omega arith)) (λ x b q k. search (rules, tests)))
    (λ h. scope-every w a.i a.n c.requires (λ o. ltb o last_name) h)
    (λ k b e. scope-miss w a.i a.n c.requires (λ o. ltb o last_name) k b e)
