-- Two names are the same where their four words are, since the letters determine the words.
use native.Mathlib.Omega.{arith}
use mathlib.Core.Path.{◌∙◌}
use Rattle.table.proofs.Names.{keys-same}
use Rattle.table.proofs.words.same_key.Goals as goal

pub returns : goal.returns
returns c =
    c.eq.ensures
    ∙ keys-same c.args.x c.args.y
    (record { wa = omega arith; wb = omega arith; wc = omega arith; wd = omega arith })
    (record { wa = omega arith; wb = omega arith; wc = omega arith; wd = omega arith })
