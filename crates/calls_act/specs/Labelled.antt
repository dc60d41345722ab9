-- The label of an action as the code gives it back.
-- Serves inner contracts only.
use Rattle.std.specs.Prelude.{ℕ, List, cond, eqb}
use Rattle.terms.specs.Terms.{Label}
use Rattle.terms.specs.Rules.{Answer, Acted, ◌>>=◌}
use Rattle.terms.specs.Rules.Answer.{refused, accepted}
use Rattle.table.specs.Fire.{label_of}
use Rattle.calls_act.specs.declared.Acted.{Acted as Answered}
use Rattle.calls_fire.specs.declared.Label.{Label as Numbers}
use Rattle.calls_fire.specs.Fired.{tag_of}

-- what the numbers of a label stand for
abbrev pub name_of : List ℕ → Numbers → Label
name_of w l = label_of w (tag_of l)

-- a refusal's number, or the label that the numbers stand for
unfoldable pub named : List ℕ → Answered → Answer Label
named w r = cond (eqb r.code 0) (accepted (name_of w r.label)) (refused r.code)

-- of what the rules answer to an action, the label
abbrev pub labelled : Answer Acted → Answer Label
labelled x = x >>= λ a. accepted a.label
