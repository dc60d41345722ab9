-- The heads, the bodies, the network behind them.
use Rattle.text_fill.proofs.Passes.{network-at, behind-small, all-by}
use Rattle.text_fill.proofs.put_all.Goals as goal

pub put_network-requires : goal.put_network-requires
put_network-requires c =
    let x = c.requires.1 in
    let b = c.in_ok-b.ensures x in
    (behind-small x _ b c.requires.0, network-at x _ b)

pub returns : goal.returns
returns c = λ x. all-by _ _ _ x (c.in_ok-put_heads.ensures x) _ (c.in_ok-b.ensures x) _ _ _ c.put_network.ensures

pub returns-in_err-put_heads : goal.returns-in_err-put_heads
returns-in_err-put_heads c = λ x. absurd (c.in_err-put_heads.ensures x)

pub returns-in_err-b : goal.returns-in_err-b
returns-in_err-b c = λ x. absurd (c.in_err-b.ensures x)
