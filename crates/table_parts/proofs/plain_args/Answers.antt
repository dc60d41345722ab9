-- The first m of the four arguments are compared with the number of locations.
-- By what the library says of `all` over a range.
use Prim.Native.Nat.{◌+◌, min}
use mathlib.Core.Bool.{true}
use native.Mathlib.Omega.{arith}
use mathlib.Core.Path.{◌≡◌, refl, ap, ◌∙◌}
use Rattle.std.proofs.Common.{rules}
use Rattle.std.proofs.lemmas.Iterator.{YieldsList-from_range}
use Rattle.std.proofs.lemmas.Iterator.Search.{all_from_yields_List}
use borrow.Author.Tests.{tests}
use lib.Dec.{ltb}
use borrow.Author.Tests.{ltb-true}
use Rattle.table.specs.Words.{field, arg_field}
use Rattle.table_scopes.proofs.Searched.{all-holds}
use Rattle.table_parts.proofs.plain_args.Goals as goal

pub returns : goal.returns
returns c =
    let a = c.args in
    let w = a.w.now in
    let e : c.min.result ≡ min a.m 4 = c.min.ensures ∙ ap (λ x. min x 4) c.wide.ensures in
    λ t k b d.
    let h : ltb (field w a.i (arg_field + k)) c.word-l.result ≡ true = all-holds (λ j. ltb (field w a.i (arg_field + j)) c.word-l.result) c.min.result c.all.result
    (all_from_yields_List (λ j. ltb (field w a.i (arg_field + j)) c.word-l.result) _ _ _ c.all.ensures.ran (YieldsList-from_range 0 c.min.result c.min.result refl (omega arith)) (λ x b q k. search (rules, tests))) t k (omega arith) in
    omega (arith, ltb-true _ _ h, c.word-l.ensures)
