-- A bracket, a word, a comma, then a timer and a name.
use Rattle.text.specs.Tokens.{opens, comma}
use Rattle.text_put.proofs.Peeling.{peel-sign}
use Rattle.text_put.proofs.heads.front_at.Goals as goal

pub returns : goal.returns
returns c =
    λ h t x us f g.
    let s = c.args.s.now in
    let n = c.in_ok-c.ensures h _ (peel-sign s _ opens g c.in_ok-a.ensures) in
    let a = c.in_ok-f.ensures t x us f (peel-sign s _ comma n.left c.in_ok-b.ensures) in
    record { left = a.left; chan = n.key; timer = a.timer; key = a.key; capital = a.capital }
