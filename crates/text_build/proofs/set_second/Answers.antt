-- One word of a row.
use mathlib.Core.Path.{refl}
use Rattle.text_build.specs.Put.{set_second}
use Rattle.text_build.proofs.set_second.Goals as goal

pub returns : goal.returns
unfolding set_second
returns c = refl
