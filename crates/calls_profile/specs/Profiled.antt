-- What the test of a location and the step at one that conforms answer: document 02, R-13. A no of the test is no refusal.
use Rattle.std.specs.Prelude.{ℕ, List, Bool, false, ltb}
use Rattle.terms.specs.Rules.{Answer}
use Rattle.terms.specs.Rules.Answer.{refused, accepted}
use Rattle.profile.specs.Profile.{conforms}
use Rattle.table.specs.declared.State.{State}
use Rattle.table.specs.Words.{locs_in, loc_name}
use Rattle.table.specs.Meaning.{net_of}
use Rattle.table.specs.Valid.{valid}
use Rattle.calls_act.specs.Acted.{asked}
use Rattle.calls_step.specs.Stepped.{Step, step_rule}
use Rattle.calls_profile.specs.declared.Tested.{Tested}

-- the location numbered l conforms
unfoldable pub conforms_in : List ℕ → State → ℕ → Bool
conforms_in w st l = conforms (loc_name w l) (net_of w st)

-- the test: question 8, then yes or no
unfoldable pub test_rule : List ℕ → State → ℕ → Answer Bool
test_rule w st l = asked 8 (ltb l (locs_in w)) (accepted (conforms_in w st l))

-- the conforming step: questions 8 and 26, then what the step asks and does
unfoldable pub conforming_rule : List ℕ → State → ℕ → ℕ → Answer Step
conforming_rule w st l size = asked 8 (ltb l (locs_in w)) (asked 26 (conforms_in w st l) (step_rule w st l size))

-- question 17 first
unfoldable pub test_answer : List ℕ → State → ℕ → Answer Bool
test_answer w st l = asked 17 (valid w st) (test_rule w st l)

unfoldable pub conforming_answer : List ℕ → State → ℕ → ℕ → Answer Step
conforming_answer w st l size = asked 17 (valid w st) (conforming_rule w st l size)

-- the answer of the test in the call's form: the question's number and no, or 0 and the answer
abbrev pub tested : Answer Bool → Tested
tested (refused n) = record { code = n; yes = false }
tested (accepted y) = record { code = 0; yes = y }
