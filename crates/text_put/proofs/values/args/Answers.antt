-- By the bracket.
use Rattle.text_put.proofs.Arguments.{list-empty, list-some, list-is}
use Rattle.text_put.proofs.values.args.Goals as goal

pub returns-in-None : goal.returns-in-None
returns-in-None c = λ x. list-empty c.args.s.now c.args.at x c.in-None.ensures _ _

pub args_from-requires : goal.args_from-requires
args_from-requires c = (c.requires.0, list-some c.args.s.now c.args.at c.requires.1 _ c.in-Some.ensures)

pub returns-in-Some : goal.returns-in-Some
returns-in-Some c = λ x. list-is c.args.s.now c.args.at x _ c.in-Some.ensures _ _ _ _ c.args_from.ensures
