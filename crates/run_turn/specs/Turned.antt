-- What the code's answer to a step stands for: the state after it, or none with a refusal, and what was put on the page.
-- Serves inner contracts only.
use Rattle.std.specs.Prelude.{ℕ, List, Option, Some, None, true, ◌≡◌}
use Rattle.terms.specs.Rules.{Answer}
use Rattle.terms.specs.Rules.Answer.{refused, accepted}
use Rattle.table.specs.declared.State.{State}
use Rattle.table.specs.Meaning.{counted_of}
use Rattle.table.specs.Valid.{valid}
use Rattle.text_letters.specs.declared.Page.{Page}
use Rattle.text_letters.specs.Page.{Adds}
use Rattle.run_turn.specs.Turn.{Turn, refused_text}

-- the line was put, and the state stands for the components after the step, with what is kept beside them
pub record Went (w : List ℕ) (t : Turn) (p q : Page) (st : State) : Type 0 where
  pub net : counted_of w st ≡ t.net
  pub good : valid w st ≡ true
  pub wrote : Adds p t.line q

abbrev pub TurnIs : List ℕ → Answer Turn → Page → Page → Option State → Type 0
TurnIs w (refused n) p q None = Adds p (refused_text n) q
TurnIs w (refused n) p q (Some st) = ⊥
TurnIs w (accepted t) p q None = ⊥
TurnIs w (accepted t) p q (Some st) = Went w t p q st
