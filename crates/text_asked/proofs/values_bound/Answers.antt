-- The head of a part says which of its words are values.
use mathlib.Core.Path.{sym, ◌∙◌}
use Rattle.table.specs.Words.{head_at}
use Rattle.text_tree.specs.Asked.{values_bound}
use Rattle.text_asked.proofs.Rows.{bound-value, bound-other}
use Rattle.text_asked.proofs.values_bound.Goals as goal

pub returns-in-Call : goal.returns-in-Call
unfolding values_bound
returns-in-Call c = rw (sym c.head_at.ensures ∙ c.in-Call.is, ← c.field-n.ensures) c.args_bound.ensures

pub returns-in-Go : goal.returns-in-Go
returns-in-Go c =
    let a = c.args in
    rw (← c.field-n.ensures, ← c.head_at.ensures) (c.in_scope.ensures ∙ bound-value a.w.now a.i _ _ c.head_at.result c.in-Go.is)

pub returns-in_default : goal.returns-in_default
returns-in_default c =
    let a = c.args in
    let e = c.head_at.ensures in
    sym (bound-other a.w.now a.i _ (head_at a.w.now a.i) (λ t v p h. c.in_default.not-Go t v p (e ∙ h)) (λ d t v p q h. c.in_default.not-Out d t v p q (e ∙ h)) (λ d m h. c.in_default.not-Call d m (e ∙ h)))
