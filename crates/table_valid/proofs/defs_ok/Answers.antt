-- Each definition is tested.
-- By what the library says of `all` over a range.
use native.Mathlib.Omega.{arith}
use mathlib.Core.Path.{refl, sym, ◌∙◌}
use Rattle.std.proofs.Common.{rules}
use Rattle.std.proofs.lemmas.Iterator.{YieldsList-from_range}
use Rattle.std.proofs.lemmas.Iterator.Search.{all_from_yields_List}
use borrow.Author.Tests.{tests}
use Rattle.table.specs.Words.{defs_in}
use Rattle.table.specs.Valid.{def_ok}
use Rattle.table.proofs.Ranges.{below-range}
use Rattle.table_valid.proofs.defs_ok.Goals as goal

pub returns : goal.returns
returns c =
    let w = c.args.w.now in
    all_from_yields_List (def_ok w) _ _ _ c.all.ensures.ran (YieldsList-from_range 0 c.wide.result (defs_in w) refl (omega (arith, c.wide.ensures, c.word.ensures))) (λ x b q k. search (rules, tests))
    ∙ sym (below-range (defs_in w) (def_ok w))
