-- The step is refused, or done.
use Rattle.std.proofs.Common.{rules}
use Rattle.run_pieces.proofs.Pieces.{piece-stopped, piece-on, stepped-good}
use Rattle.run_pieces.proofs.put_step.Goals as goal

pub returns-in_default : goal.returns-in_default
returns-in_default c =
    let p = c.requires in
    let k = piece-stopped _ _ p.0.0 _ _ p.0.1 p.0.2 _ _ c.new-page.ensures.begins p.1 (rw c.in_default.is at c.turn.ensures) in
    search rules

pub returns : goal.returns
returns c =
    let p = c.requires in
    let good = stepped-good _ _ p.0.0 _ _ p.0.1 p.0.2 _ _ c.new-page.ensures.begins p.1 _ (rw c.in-Some.is at c.turn.ensures) in
    let n = c.after_step-now.ensures _ good in
    let k = piece-on _ _ p.0.0 _ _ p.0.1 p.0.2 _ _ c.new-page.ensures.begins p.1 _ (rw c.in-Some.is at c.turn.ensures) (record { stage = c.after_step-now.result; state = c.in-Some.stepped }) n.0 n.1 in
    search rules
