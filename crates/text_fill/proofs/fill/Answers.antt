-- The counts, then the passes.
use Rattle.text_fill.specs.Ready.{tree_in}
use Rattle.text_fill.proofs.Passes.{filled}
use Rattle.text_fill.proofs.fill.Goals as goal

pub returns : goal.returns
returns c = λ x. rw c.unwrap_or.ensures (filled _ _ _ (tree_in x) (rw c.saturating_sub.ensures at (c.put_all.ensures x)))
