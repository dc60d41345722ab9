-- The first m of the four arguments are tested.
-- By what the library says of `all` over a range.
use Prim.Native.Nat.{◌+◌, min}
use native.Mathlib.Omega.{arith}
use mathlib.Core.Path.{◌≡◌, refl, ap, ◌∙◌}
use Rattle.std.proofs.Common.{rules}
use Rattle.std.proofs.lemmas.Iterator.{YieldsList-from_range}
use Rattle.std.proofs.lemmas.Iterator.Search.{all_from_yields_List}
use borrow.Author.Tests.{tests}
use Rattle.table.specs.Words.{field, names_at, arg_field}
use Rattle.table.specs.Valid.{ref_ok}
use Rattle.table_scopes.proofs.Searched.{all-decides}
use Rattle.table_parts.proofs.ValidParts.{args-all, args-miss}
use Rattle.table_parts.proofs.args_ok.Goals as goal

pub returns : goal.returns
returns c =
    let a = c.args in
    let w = a.w.now in
    let e : c.min.result ≡ min a.m 4 = c.min.ensures ∙ ap (λ x. min x 4) c.wide.ensures in
    all-decides (λ k. ref_ok w (names_at w a.i) (field w a.i (arg_field + k))) c.min.result _ _
    (all_from_yields_List (λ k. ref_ok w (names_at w a.i) (field w a.i (arg_field + k))) _ _ _ c.all.ensures.ran (YieldsList-from_range 0 c.min.result c.min.result refl (omega arith)) (λ x b q k. search (rules, tests)))
    (λ h. args-all w a.i (ref_ok w (names_at w a.i)) a.m (λ k b d. h k (omega arith)))
    (λ k b f. args-miss w a.i (ref_ok w (names_at w a.i)) a.m k (omega arith) (omega arith) f)
