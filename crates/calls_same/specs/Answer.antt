-- What the call `same` answers: document 01, *Same* of *The other calls*, and question 17 of *Questions, asked downward*, which is asked of
-- both networks first. Networks of different editions are not the same: document 02, R-8.
use Rattle.std.specs.Prelude.{ℕ, List, Bool, false, cond, ◌&&◌, eqb}
use Rattle.terms.specs.Rules.{Answer}
use Rattle.terms.specs.Rules.Answer.{refused, accepted}
use Rattle.terms.specs.Same.{same}
use Rattle.table.specs.declared.State.{State}
use Rattle.table.specs.Words.{edition_in}
use Rattle.table.specs.Meaning.{network_of}
use Rattle.table.specs.Valid.{valid}
use Rattle.calls_same.specs.declared.Compared.{Compared}

-- are the networks of two tables the same, and of one edition?
unfoldable pub same_answer : List ℕ → State → List ℕ → State → Answer Bool
same_answer w a v b = cond (valid w a && valid v b) (accepted (eqb (edition_in w) (edition_in v) && same (network_of w a) (network_of v b))) (refused 17)

-- the answer in the call's form: the question's number and no, or 0 and the answer
abbrev pub compared : Answer Bool → Compared
compared (refused n) = record { code = n; yes = false }
compared (accepted y) = record { code = 0; yes = y }
