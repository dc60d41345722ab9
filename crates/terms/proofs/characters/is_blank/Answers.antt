-- `is_blank` knows the two blanks.
-- By whether the byte is one of them.
use mathlib.Core.Logic.{⊎_elim, inl, inr}
use mathlib.Core.Path.{sym, ap}
use Rattle.terms.specs.Characters.{class_of, is_blank}
use Rattle.terms.proofs.Classes.{not-blank}
use Rattle.terms.proofs.characters.is_blank.Goals as goal

pub returns-in-32 : goal.returns-in-32
unfolding class_of
returns-in-32 c = ⊎_elim (λ e. sym (ap (λ b. is_blank (class_of b)) e)) (λ e. sym (ap (λ b. is_blank (class_of b)) e)) c.in-32.is

pub returns-in_default : goal.returns-in_default
returns-in_default c = sym (not-blank _ (λ e. c.in_default.in_default-own.rest.1 (inr e)) (λ e. c.in_default.in_default-own.rest.1 (inl e)))
