-- `turn` meets its contract: where no place is given it is the first turn.
use native.Mathlib.Omega.{arith}
use Rattle.table.specs.Words.{parts_in}
use mathlib.Core.Path.{subst}
use Rattle.table.proofs.Tests.{script-fine}
use Rattle.calls_pass.specs.Turn.{Within, turn_of}
use Rattle.calls_pass.proofs.pass.turn.Goals as goal

pub returns-in-None : goal.returns-in-None
unfolding turn_of
returns-in-None c = rw c.in-None.is c.first_turn.ensures

pub part_turn-requires : goal.part_turn-requires
part_turn-requires c =
    let w = c.args.w.now in
    omega (arith, subst (Within (parts_in w)) c.in-Some.is c.requires.2, (script-fine w c.requires.0).parts)

pub returns-in-Some : goal.returns-in-Some
unfolding turn_of
returns-in-Some c = rw c.in-Some.is c.part_turn.ensures
