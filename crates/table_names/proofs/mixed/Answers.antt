-- The words of the name, as one, and what is left of that by 1,013.
-- By the contract of `key_at`.
use native.Mathlib.Omega.{arith}
use borrow.Author.Rules.{rules}
use Rattle.table_names.proofs.mixed.Goals as goal

pub returns : goal.returns
returns c = record {
  key = c.key_at-x.result;
  small = (search rules, search rules, search rules, search rules);
  name = c.key_at-x.ensures;
  mix = c.wide.ensures;
  below = omega (arith, c.wide.ensures);
}
