-- The scope of the body has as many names as there are parameters, at the parameters' places.
-- By what the library says of `all` over a range.
use Prim.Native.Nat.{◌+◌, ◌*◌}
use native.Mathlib.Omega.{arith}
use mathlib.Core.Path.{◌≡◌, refl, sym, ap, ◌∙◌}
use Rattle.std.proofs.Common.{rules}
use Rattle.std.proofs.lemmas.Iterator.{YieldsList-from_range}
use Rattle.std.proofs.lemmas.Iterator.Search.{all_from_yields_List}
use borrow.Author.Tests.{tests}
use lib.Dec.{eqb}
use borrow.Author.Tests.{eqb-true, eqb-false, ne_eqb}
use Rattle.table.specs.Words.{field, at_most8, count_field, slot_field, first_param, row_size, name_size}
use Rattle.table.proofs.ValidDefs.{params-uneven, params-differ, params-alike}
use Rattle.table_scopes.proofs.Searched.{all-decides}
use Rattle.table_valid.proofs.params_in.Goals as goal

pub returns-then-at_most_8-a : goal.returns-then-at_most_8-a
returns-then-at_most_8-a c =
    let a = c.args in
    let w = a.w.now in
    let h = c.requires in
    let e : at_most8 (field w a.b count_field) ≡ a.a = ap at_most8 (sym c.field.ensures) ∙ sym c.at_most_8.ensures ∙ c.if-at_most_8-a.true in
    all-decides (λ k. eqb (field w a.b (slot_field + k)) (first_param + a.d * row_size + k * name_size)) a.a _ _
    (all_from_yields_List (λ k. eqb (field w a.b (slot_field + k)) (first_param + a.d * row_size + k * name_size)) _ _ _ c.all.ensures.ran (YieldsList-from_range 0 a.a a.a refl (omega arith)) (λ x b q k. search (rules, tests)))
    (λ r. params-alike w a.d a.a h.3 h.2 a.b e (λ k b. eqb-true _ _ (r k b)))
    (λ k b r. params-differ w a.d a.a h.3 h.2 a.b e k b (eqb-false _ _ r))

pub returns-else-at_most_8-a : goal.returns-else-at_most_8-a
returns-else-at_most_8-a c =
    let a = c.args in
    let w = a.w.now in
    let h = c.requires in
    let e : c.at_most_8.result ≡ at_most8 (field w a.b count_field) = c.at_most_8.ensures ∙ ap at_most8 c.field.ensures in
    ne_eqb _ _ c.if-at_most_8-a.false
    ∙ sym (params-uneven w a.d a.a h.3 h.2 a.b (λ z. c.if-at_most_8-a.false (e ∙ z)))
