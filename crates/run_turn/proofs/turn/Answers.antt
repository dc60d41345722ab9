-- The step is refused, or its line is written.
use native.Mathlib.Omega.{arith}
use Rattle.run_line.proofs.Lines.{held-front, step-holds}
use Rattle.run_line.proofs.Fits.{few}
use Rattle.run_turn.proofs.Turning.{as-answer, turn_stopped, turn-went}
use Rattle.run_turn.proofs.turn.Goals as goal

pub returns-then-s-ne0 : goal.returns-then-s-ne0
returns-then-s-ne0 c =
    turn_stopped _ _ _ c.requires.0 c.requires.1 (few _ _ c.requires.0) _ _ _ _ (as-answer _ _ _ _ _ _ _ _ c.requires.0 c.step_valid-s.ensures) c.if-s-ne0.true c.put_refused.ensures

pub put_line-requires : goal.put_line-requires
put_line-requires c = held-front _ _ _ _ _ (step-holds _ _ _ _ _ _ _ _ (as-answer _ _ _ _ _ _ _ _ c.requires.0 c.step_valid-s.ensures) (omega (arith, c.if-s-ne0.false)))

pub returns : goal.returns
returns c =
    turn-went _ _ _ c.requires.0 c.requires.1 (few _ _ c.requires.0) _ _ _ _ (as-answer _ _ _ _ _ _ _ _ c.requires.0 c.step_valid-s.ensures) (omega (arith, c.if-s-ne0.false)) c.put_line.ensures
