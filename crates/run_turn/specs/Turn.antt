-- What `timorun` prints for a step: document 01, the paragraph on the program. A line, or a refusal by its number.
use Rattle.std.specs.Prelude.{ℕ, List, ◌++◌}
use Rattle.terms.specs.Names.{Name, bytes}
use Rattle.terms.specs.Terms.{Context}
use Rattle.terms.specs.Rules.{Answer, ◌>>=◌}
use Rattle.terms.specs.Rules.Answer.{accepted}
use Rattle.terms.specs.Step.{fires}
use Rattle.waits.specs.Counted.{Counted}
use Rattle.text.specs.Tokens.{digits}
use Rattle.calls_step.specs.Stepped.{step_counted}
use Rattle.run_line.specs.Line.{line_text}

-- `refused N`
unfoldable pub refused_text : ℕ → List ℕ
refused_text n = bytes "refused " ++ (digits n ++ bytes "\n")

-- a step at l: its line, and the components after it with what is kept beside them
pub record Turn : Type 0 where
  pub line : List ℕ
  pub net : Counted

unfoldable pub turn_of : Context → Name → Counted → Answer Turn
turn_of d l k = step_counted d l k >>= λ s. accepted (record { line = line_text l (fires d l k.comps).labels; net = record { comps = s.comps; tally = s.tally } })
