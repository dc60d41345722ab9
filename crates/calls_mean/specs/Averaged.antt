-- What the call `mean` answers: document 02, R-1. Question 17, then the mean wait of the senders of all messages.
use Rattle.std.specs.Prelude.{ℕ, List, Option, Some, None}
use Rattle.terms.specs.Rules.{Answer}
use Rattle.terms.specs.Rules.Answer.{refused, accepted}
use Rattle.waits.specs.Waits.{Tally}
use Rattle.waits.specs.Mean.{Mean, mean_of}
use Rattle.waits.specs.Mean.Mean.{none, over}
use Rattle.table.specs.declared.State.{State}
use Rattle.table.specs.Meaning.{tally_of}
use Rattle.table.specs.Valid.{valid}
use Rattle.calls_act.specs.Acted.{asked}
use Rattle.calls_mean.specs.declared.Averaged.{Averaged}
use Rattle.calls_mean.specs.declared.MeanWait.{MeanWait}

-- the mean of what is kept beside components
abbrev pub mean_in : Tally → Mean
mean_in t = mean_of t.total t.count

unfoldable pub mean_answer : List ℕ → State → Answer Mean
mean_answer w st = asked 17 (valid w st) (accepted (mean_in (tally_of st)))

-- an answer in the call's form: a refusal has zeros, and so has no messages, which its count tells
abbrev pub averaged : Answer Mean → Averaged
averaged (refused n) = record { code = n; count = 0; quotient = 0; remainder = 0 }
averaged (accepted none) = record { code = 0; count = 0; quotient = 0; remainder = 0 }
averaged (accepted (over q r n)) = record { code = 0; count = n; quotient = q; remainder = r }

-- what the code's mean stands for
abbrev pub mean_by : Option MeanWait → Mean
mean_by None = none
mean_by (Some m) = over m.quotient m.remainder m.count
