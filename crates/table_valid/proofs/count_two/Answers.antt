-- The sum stays 0 exactly if it was 0 and both values are up to m.
-- By the law of a sum that is 0.
use native.Mathlib.Omega.{arith}
use mathlib.Core.Path.{◌∙◌}
use Rattle.table_valid.proofs.ValidWhole.{sum-none}
use Rattle.table_valid.proofs.count_two.Goals as goal

pub returns : goal.returns
returns c =
    let s = c.args.s in
    let p = c.above in
    let q = c.above-2 in
    (omega (arith, p.ensures.0, q.ensures.0), sum-none s p.result q.result ∙ rw (p.ensures.1, q.ensures.1))
