-- The form of each name is tested.
-- By what the library says of `all` over a range.
use native.Mathlib.Omega.{arith}
use mathlib.Core.Path.{refl, sym, ◌∙◌}
use Rattle.std.proofs.Common.{rules}
use Rattle.std.proofs.lemmas.Iterator.{YieldsList-from_range}
use Rattle.std.proofs.lemmas.Iterator.Search.{all_from_yields_List}
use Rattle.terms.specs.Letters.{is_name}
use Rattle.table.specs.Tests.{row_name}
use Rattle.table.proofs.Ranges.{every-range}
use Rattle.table_names.specs.Tests.{first_of}
use Rattle.table_names.proofs.names_ok.Goals as goal

pub returns : goal.returns
unfolding row_name
returns c =
    let a = c.args in
    all_from_yields_List (λ j. is_name (first_of a.f) (row_name a.w.now a.o a.s j)) _ _ _ c.all.ensures.ran (YieldsList-from_range 0 a.n a.n refl (omega arith)) (λ x b q k. search rules)
    ∙ sym (every-range (is_name (first_of a.f)) 0 a.n (row_name a.w.now a.o a.s))
