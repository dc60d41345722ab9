-- By the bracket.
use Rattle.text_fill.proofs.Defs.{params_none, params-some, params_are}
use Rattle.text_fill.proofs.definitions.params_at.Goals as goal

pub returns-in-None : goal.returns-in-None
returns-in-None c = λ x. params_none _ _ x c.in-None.ensures _ _

pub params_from-requires : goal.params_from-requires
params_from-requires c = (c.requires.0, params-some _ _ c.requires.1 _ c.in-Some.ensures)

pub returns-in-Some : goal.returns-in-Some
returns-in-Some c = λ x. params_are _ _ x _ c.in-Some.ensures _ _ _ _ c.params_from.ensures
