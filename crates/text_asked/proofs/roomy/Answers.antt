-- The word 4 says whether a table or a scope was too small.
-- By its definition.
use mathlib.Core.Path.{ap}
use lib.Dec.{eqb}
use Rattle.text_tree.specs.Asked.{roomy}
use Rattle.text_asked.proofs.roomy.Goals as goal

pub returns : goal.returns
unfolding roomy
returns c = ap (λ n. eqb n 0) c.word.ensures
