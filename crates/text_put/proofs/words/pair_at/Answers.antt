-- A timer, a comma, a word, a comma, one after the other.
use Rattle.text.specs.Tokens.{comma}
use Rattle.text_put.proofs.Peeling.{peel-sign}
use Rattle.text_put.proofs.words.pair_at.Goals as goal

pub returns : goal.returns
returns c =
    λ t x us f g.
    let s = c.args.s.now in
    let a = c.in_ok-t.ensures t _ f g in
    let b = peel-sign s _ comma a.left c.in_ok-a.ensures in
    let n = c.in_ok-x.ensures x _ b in
    record { left = peel-sign s _ comma n.left c.in_ok-e.ensures; timer = a.timer; key = n.key; capital = n.capital }
