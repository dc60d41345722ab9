-- `else_turn` meets its contract.
use mathlib.Core.Path.{sym, ◌∙◌}
use Rattle.calls_pass.specs.Turn.{else_turn}
use Rattle.calls_pass.proofs.pass.else_turn.Goals as goal

pub is_expired-requires : goal.is_expired-requires
is_expired-requires c = c.requires.1

pub part_turn-requires : goal.part_turn-requires
part_turn-requires c = c.requires.0

pub returns-then-is_expired : goal.returns-then-is_expired
unfolding else_turn
returns-then-is_expired c = rw (sym c.is_expired.ensures ∙ c.if-is_expired.true) c.part_turn.ensures

pub returns : goal.returns
unfolding else_turn
returns c = rw (sym c.is_expired.ensures ∙ c.if-is_expired.false) c.timed_turn.ensures
