-- No name stands among those after it.
-- By what the library says of `all` over a range.
use Prim.Native.Nat.{◌+◌}
use native.Mathlib.Omega.{arith}
use mathlib.Core.Bool.{not}
use mathlib.Core.Path.{refl, ◌∙◌}
use lib.ListN.{drop}
use Rattle.std.proofs.Common.{rules}
use Rattle.std.proofs.lemmas.Iterator.{YieldsList-from_range}
use Rattle.std.proofs.lemmas.Iterator.Search.{all_from_yields_List}
use Rattle.terms.specs.Letters.{member}
use Rattle.table.specs.Meaning.{list_from}
use Rattle.table.specs.Tests.{row_name}
use Rattle.table_names.proofs.NamesRows.{apart-range}
use Rattle.table_names.proofs.few_apart.Goals as goal

pub returns : goal.returns
returns c =
    let a = c.args in
    let f = row_name a.w.now a.o a.s in
    all_from_yields_List (λ i. not (member (f i) (drop (i + 1) (list_from 0 a.n f)))) _ _ _ c.all.ensures.ran (YieldsList-from_range 0 a.n a.n refl (omega arith)) (λ x b q k. search rules)
    ∙ apart-range f a.n
