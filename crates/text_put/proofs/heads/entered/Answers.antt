-- By the two tests.
use Rattle.text_put.proofs.Fronts.{entered-there, entered-new, entered-full}
use Rattle.text_put.proofs.heads.entered.Goals as goal

pub returns-then-j-n : goal.returns-then-j-n
returns-then-j-n c = entered-there _ _ _ c.if-j-n.true

pub returns-then-n-lt8 : goal.returns-then-n-lt8
returns-then-n-lt8 c = entered-new _ _ _ c.if-j-n.false c.if-n-lt8.true

pub returns : goal.returns
returns c = entered-full _ _ _ c.if-j-n.false c.if-n-lt8.false
