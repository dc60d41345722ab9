-- What turns down what the rules allow: a full table (question 13) and a full message count (question 18). Document 01, *Mixed runs*, and document 02, R-1.
use Rattle.std.specs.Prelude.{List, [], ◌∷◌, Bool, false, cond, not, ltb, length}
use Rattle.terms.specs.Terms.{Component, Context}
use Rattle.terms.specs.Rules.{Answer}
use Rattle.terms.specs.Rules.Answer.{refused, accepted}
use Rattle.terms.specs.Runs.{Call, Fed, answer, judged, last_of}
use Rattle.terms.specs.Runs.Call.{acting, ticking}
use Rattle.waits.specs.Waits.{Tally, countable}
use Rattle.waits.specs.Counted.{call_tally}

-- no table has room for so many
abbrev pub crowded : Answer (List Component) → Bool
crowded (refused n) = false
crowded (accepted s) = ltb 256 (length s)

-- there is no space for this call on the components s with t beside them
unfoldable pub full : Context → Call → List Component → Tally → Bool
full d (acting a) s t = not (countable (a ∷ []) t.count)
full d (ticking l) s t = crowded (answer d (ticking l) s)

-- the calls of a list, each with whether it was accepted, and the components at its end, where these two are the reasons to turn down what the rules allow
abbrev pub judged_in_space : Context → List Call → List Component → Tally → List Fed
judged_in_space d = judged d (call_tally d) (full d)

abbrev pub last_in_space : Context → List Call → List Component → Tally → List Component
last_in_space d = last_of d (call_tally d) (full d)

-- and what is kept beside them
unfoldable pub tallied_in_space : Context → List Call → List Component → Tally → Tally
tallied_in_space d [] s t = t
tallied_in_space d (c ∷ cs) s t =
    elim (answer d c s) [
      | refused n ↦ tallied_in_space d cs s t
      | accepted s' ↦ cond (full d c s t) (tallied_in_space d cs s t) (tallied_in_space d cs s' (call_tally d c s t))
    ]
