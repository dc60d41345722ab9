-- `inf` is the only timer of letters; the constructor takes the number of any other.
use mathlib.Core.Path.{sym, ◌∙◌}
use Rattle.text_put.proofs.Peeling.{timer-inf, timer-made, timer-large}
use Rattle.text_put.proofs.words.timer_of.Goals as goal

pub returns-then-is_same : goal.returns-then-is_same
returns-then-is_same c = λ t us f g. timer-inf t us _ f g (sym c.is_same.ensures ∙ c.if-is_same.true)

pub returns-in_err-t : goal.returns-in_err-t
returns-in_err-t c = λ t us f g. absurd (timer-large t us _ f g (sym c.is_same.ensures ∙ c.if-is_same.false) _ c.number_of.ensures.exact (sym c.new.ensures ∙ c.in_err-t.was))

pub returns : goal.returns
returns c = λ t us f g. timer-made t us _ f g (sym c.is_same.ensures ∙ c.if-is_same.false) _ c.number_of.ensures.exact _ (sym c.new.ensures ∙ c.in_ok-t.was)
