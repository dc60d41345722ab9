-- Looking a name up among the numbers below n is looking it up among the names that stand at them.
use native.Mathlib.Omega.{arith}
use borrow.Author.Rules.{rules}
use borrow.Author.Tests.{tests}
use mathlib.Core.Path.{refl, ◌∙◌}
use Rattle.std.proofs.lemmas.Iterator.{YieldsList-from_range}
use Rattle.std.proofs.lemmas.Iterator.Search.{position_from_yields_List}
use Rattle.terms.specs.Names.{same_name}
use Rattle.table.specs.Tests.{key_name, row_name}
use Rattle.text_build.proofs.Finding.{position-from}
use Rattle.text_build.proofs.find.Goals as goal

pub returns : goal.returns
unfolding row_name
returns c =
    let a = c.args in
    position_from_yields_List (λ j. same_name (row_name a.w.now a.o a.d j) (key_name a.k)) _ _ _ c.position.ensures.ran (YieldsList-from_range 0 a.n a.n refl (omega arith)) (λ x b q k. search (rules, tests))
    ∙ position-from (λ x. same_name x (key_name a.k)) (row_name a.w.now a.o a.d) 0 a.n
