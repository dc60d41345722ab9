-- The words of the two scopes are compared one by one.
-- By what the library says of `all` over a range.
use Prim.Native.Nat.{◌+◌}
use native.Mathlib.Omega.{arith}
use mathlib.Core.Path.{refl}
use Rattle.std.proofs.Common.{rules}
use Rattle.std.proofs.lemmas.Iterator.{YieldsList-from_range}
use Rattle.std.proofs.lemmas.Iterator.Search.{all_from_yields_List}
use borrow.Author.Tests.{tests}
use lib.Dec.{eqb}
use borrow.Author.Tests.{eqb-true, eqb-false}
use Rattle.table.specs.Words.{field, slot_field}
use Rattle.table_scopes.proofs.Searched.{all-decides}
use Rattle.table_scopes.proofs.ValidScopes.{slots-alike, slots-differ}
use Rattle.table_scopes.proofs.same_slots.Goals as goal

pub returns : goal.returns
returns c =
    let a = c.args in
    let w = a.w.now in
    all-decides (λ k. eqb (field w a.p (slot_field + k)) (field w a.i (slot_field + k))) a.n _ _
    (all_from_yields_List (λ k. eqb (field w a.p (slot_field + k)) (field w a.i (slot_field + k))) _ _ _ c.all.ensures.ran (YieldsList-from_range 0 a.n a.n refl (omega arith)) (λ x b q k. search (rules, tests)))
    (λ h. slots-alike w a.p a.i a.n (omega arith) (λ k b. eqb-true _ _ (h k b)))
    (λ k b e. slots-differ w a.p a.i a.n k (omega arith) b (eqb-false _ _ e))
