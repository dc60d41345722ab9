-- What a host is told of a network in letters: how many locations it has, the name of one, the label of an action, the line of a step.
-- Question 17 is asked first, then what the call itself asks, then 15: do the lent bytes hold the text? No call here changes the network.
use Rattle.std.specs.Prelude.{ℕ, List, ◌++◌, ◌≡◌, leb, ltb, length, take, drop}
use Rattle.terms.specs.Names.{Name}
use Rattle.terms.specs.Rules.{Answer, ◌>>=◌}
use Rattle.terms.specs.Rules.Answer.{refused, accepted}
use Rattle.table.specs.declared.State.{State}
use Rattle.table.specs.Words.{locs_in, loc_name}
use Rattle.table.specs.Meaning.{context_of, counted_of}
use Rattle.table.specs.Valid.{valid}
use Rattle.calls_act.specs.Acted.{asked, action_allowed}
use Rattle.calls_step.specs.Stepped.{step_counted}
use Rattle.run_line.specs.Line.{label_text, line_text, step_labels}
use Rattle.host.specs.declared.Counted.{Counted}

-- 15: a text, if n bytes hold it
unfoldable pub holding : List ℕ → ℕ → Answer (List ℕ)
holding s n = asked 15 (leb (length s) n) (accepted s)

-- ── how many locations, or channels, k there are: 17 ──
unfoldable pub count_answer : List ℕ → State → ℕ → Answer ℕ
count_answer w st k = asked 17 (valid w st) (accepted k)

-- an answer in the call's form: a refusal has the number 0
abbrev pub counted : Answer ℕ → Counted
counted (refused n) = record { code = n; count = 0 }
counted (accepted k) = record { code = 0; count = k }

-- ── the name numbered k of m locations, or channels, whose names f gives: 17, 8, 15 ──
unfoldable pub name_answer : List ℕ → State → ℕ → (ℕ → Name) → ℕ → ℕ → Answer (List ℕ)
name_answer w st m f k n = asked 17 (valid w st) (asked 8 (ltb k m) (holding (f k) n))

-- ── the label of an action of kind k at p, and q for kind 3: 17, 8 to 11 and 20 as for the action, 15. Nothing is counted, so 18 is not asked. ──
unfoldable pub label_answer : List ℕ → State → ℕ → ℕ → ℕ → ℕ → Answer (List ℕ)
label_answer w st k p q n = asked 17 (valid w st) (action_allowed w st k p q >>= λ a. holding (label_text a.label) n)

-- ── the line of the step at the location numbered l: 17, 8, 18 and 13 as for the step, 15 ──
unfoldable pub line_answer : List ℕ → State → ℕ → ℕ → Answer (List ℕ)
line_answer w st l n =
    asked 17 (valid w st)
    (asked 8 (ltb l (locs_in w))
    (step_counted (context_of w) (loc_name w l) (counted_of w st) >>= λ s. holding (line_text (loc_name w l) (step_labels w st l)) n))

-- ── a text s that is never refused, in lent bytes that held d: the length r of all of it, and as much of it as they hold ──
pub record Shows (s d : List ℕ) (r : ℕ) (e : List ℕ) : Type 0 where
  pub len : r ≡ length s
  pub bytes : e ≡ take (length d) (s ++ drop (length s) d)
