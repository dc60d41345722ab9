-- `is_edition` meets its contract: the match decides both tests.
use native.Mathlib.Omega.{arith}
use Rattle.std.proofs.lemmas.Bool.Decides.{nat_tests}
use Rattle.terms.specs.Clock.{is_edition}
use Rattle.terms.proofs.is_edition.Goals as goal

pub returns-in-1 : goal.returns-in-1
unfolding is_edition
returns-in-1 c = grind (arith, nat_tests)

pub returns-in_default : goal.returns-in_default
unfolding is_edition
returns-in_default c = grind (arith, nat_tests)

pub returns-in_default-2 : goal.returns-in_default-2
unfolding is_edition
returns-in_default-2 c = grind (arith, nat_tests)
