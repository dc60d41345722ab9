-- A script has that many words.
use mathlib.Core.Path.{ap, ◌∙◌}
use lib.ListN.{replicate}
use Prim.Native.Nat.{ℕ}
use Rattle.text_answer.proofs.front.wipe.Goals as goal

pub returns : goal.returns
returns c = c.fill.ensures.after (λ y h. h) ∙ ap (λ n. replicate {A = ℕ} n 0) c.told-w
