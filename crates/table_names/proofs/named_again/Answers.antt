-- The name is compared with each that comes after it.
-- By what the library says of `any` over a range.
use Prim.Native.Nat.{ℕ, ◌+◌, ◌-◌}
use mathlib.Core.Path.{◌≡◌, refl, ap, ◌∙◌}
use Rattle.std.proofs.Common.{rules}
use Rattle.std.specs.List.{list_any, range_with_len}
use Rattle.std.proofs.lemmas.Iterator.{YieldsList-from_range}
use Rattle.std.proofs.lemmas.Iterator.Search.{any_from_yields_List}
use Rattle.terms.specs.Names.{Name, same_name}
use Rattle.table.specs.Tests.{row_name, key_name}
use Rattle.table.proofs.Names.{name-sym}
use Rattle.table_names.proofs.NamesRows.{again-range}
use Rattle.table_names.proofs.named_again.Goals as goal

pub returns : goal.returns
unfolding row_name
returns c =
    let a = c.args in
    let f : ℕ → Name = row_name a.w.now a.o a.s in
    let p : (j : ℕ) → same_name (f j) (key_name c.key_at-x.result) ≡ same_name (f a.i) (f j) = λ j. name-sym _ _ ∙ ap (λ z. same_name z (f j)) c.key_at-x.ensures in
    any_from_yields_List (λ j. same_name (f j) (key_name c.key_at-x.result)) _ _ _ c.any.ensures.ran (YieldsList-from_range (a.i + 1) a.n (a.n - (a.i + 1)) refl refl) (λ x b q k. search rules)
    ∙ ap (λ g. list_any g (range_with_len (a.i + 1) (a.n - (a.i + 1)))) (λ t j. p j t)
    ∙ again-range f (f a.i) a.n a.i
