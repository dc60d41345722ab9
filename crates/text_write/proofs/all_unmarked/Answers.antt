-- No component in use is marked.
-- By what the library says of `all` over a range.
use native.Mathlib.Omega.{arith}
use mathlib.Core.Bool.{not}
use mathlib.Core.Path.{refl, sym, ◌∙◌}
use borrow.Author.Rules.{rules}
use borrow.Author.Tests.{tests}
use lib.Dec.{ltb}
use Rattle.std.proofs.lemmas.Iterator.{YieldsList-from_range}
use Rattle.std.proofs.lemmas.Iterator.Search.{all_from_yields_List}
use Rattle.table.specs.declared.Comp.{Comp}
use Rattle.table.specs.Meaning.{comp_in, comps_of}
use Rattle.table.proofs.Ranges.{every-range}
use Rattle.text_write.proofs.all_unmarked.Goals as goal

pub returns : goal.returns
unfolding comps_of
returns c =
    let k = c.args in
    let t = λ (x : Comp). not (ltb x.mark 64) in
    all_from_yields_List (λ j. t (comp_in k.c.now j)) _ _ _ c.all.ensures.ran (YieldsList-from_range 0 k.n k.n refl (omega arith)) (λ x b q h. search (rules, tests))
    ∙ sym (every-range t 0 k.n (comp_in k.c.now))
