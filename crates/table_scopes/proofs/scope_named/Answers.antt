-- Each name of the scope is tested.
-- By what the library says of `all` over a range.
use native.Mathlib.Omega.{arith}
use mathlib.Core.Path.{refl}
use Rattle.std.proofs.Common.{rules}
use Rattle.std.proofs.lemmas.Iterator.{YieldsList-from_range}
use Rattle.std.proofs.lemmas.Iterator.Search.{all_from_yields_List}
use borrow.Author.Tests.{tests}
use Rattle.table_scopes.specs.Tests.{slot_named}
use Rattle.table_scopes.proofs.Searched.{all-decides}
use Rattle.table_scopes.proofs.ValidScopes.{slots-named, slots-unnamed}
use Rattle.table_scopes.proofs.scope_named.Goals as goal

pub returns : goal.returns
returns c =
    let a = c.args in
    let w = a.w.now in
    all-decides (slot_named w a.i) a.n _ _
    (all_from_yields_List (slot_named w a.i) _ _ _ c.all.ensures.ran (YieldsList-from_range 0 a.n a.n refl (omega arith)) (λ x b q k. search (rules, tests)))
    (slots-named w a.i a.n c.requires) (slots-unnamed w a.i a.n c.requires)
