-- By the two tests.
use mathlib.Core.Path.{◌≡◌}
use borrow.Author.Rules.{rules}
use lib.ListN.{length}
use Rattle.text_put.proofs.Fronts.{marked-there, marked-new, marked-full}
use Rattle.text_put.proofs.heads.noted.Goals as goal

pub returns-then-j-n : goal.returns-then-j-n
returns-then-j-n c =
    let q : length c.args.sc.at ≡ 8 = search rules in
    marked-there _ _ _ _ c.requires.1 c.requires.0 q c.if-j-n.true

pub returns-then-n-lt8 : goal.returns-then-n-lt8
returns-then-n-lt8 c =
    let q : length c.args.sc.at ≡ 8 = search rules in
    marked-new _ _ _ _ c.requires.1 c.requires.0 q c.if-j-n.false c.if-n-lt8.true

pub returns : goal.returns
returns c =
    let q : length c.args.sc.at ≡ 8 = search rules in
    marked-full _ _ _ _ c.requires.1 c.requires.0 q c.if-j-n.false c.if-n-lt8.false _ c.slot.ensures
