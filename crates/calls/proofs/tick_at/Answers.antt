-- `tick_at` meets its contract: question 17, then the tick on a valid table.
use mathlib.Core.Path.{refl, sym, ◌∙◌}
use Rattle.calls_tick.specs.Ticked.{tick_answer}
use Rattle.calls.proofs.tick_at.Goals as goal

pub tick_valid-requires : goal.tick_valid-requires
tick_valid-requires c = sym c.is_valid.ensures ∙ c.if-is_valid.true

pub returns-then-is_valid : goal.returns-then-is_valid
unfolding tick_answer
returns-then-is_valid c =
    let v = sym c.is_valid.ensures ∙ c.if-is_valid.true in
    rw v c.tick_valid.ensures

pub returns : goal.returns
unfolding tick_answer
returns c =
    let v = sym c.is_valid.ensures ∙ c.if-is_valid.false in
    rw v (rw c.number.ensures at c.refuse.ensures, refl)
