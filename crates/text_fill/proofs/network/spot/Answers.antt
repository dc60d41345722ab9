-- By whether there is space.
use Rattle.text_fill.proofs.Spreading.{spread-here, spread-full}
use Rattle.text_fill.proofs.network.spot.Goals as goal

pub returns-then-n-out : goal.returns-then-n-out
returns-then-n-out c = spread-here _ _ _ c.if-n-out.true

pub returns : goal.returns
returns c = spread-full _ _ _ c.requires c.if-n-out.false
