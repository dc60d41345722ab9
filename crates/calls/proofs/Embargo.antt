-- The publisher's example: no leave right leads out of the vault and the desk, which is computed, and so what was read there stays there (Leaving).
use mathlib.Core.Bool.{true, false, false≢true}
use mathlib.Core.Path.{◌≡◌, refl, sym, ap, ◌∙◌}
use Rattle.terms.specs.Names.{bytes, same_name}
use Rattle.terms.specs.Same.{every}
use Rattle.terms.specs.Descent.{Closed, closed_in}
use Rattle.terms.proofs.Rights.{closed-by}
use Rattle.text.specs.Questions.{form}
use Rattle.text_answer.specs.Answer.{given, locations_in, channels_in}
use Rattle.calls.specs.Demand3.{read_rights}
use Rattle.calls.specs.Embargo.{pages, embargo, embargoing, inside, Embargoed}
use Rattle.calls.proofs.Leaving.{kept-inside}

no-way-out : Closed (read_rights pages embargo) inside
unfolding embargoing closed_in every
no-way-out = closed-by (locations_in (form pages)) (channels_in (form pages)) (given embargo) inside refl refl

not-inside : inside (bytes "Public") ≡ false
unfolding same_name
not-inside = refl

vault-inside : inside (bytes "Vault") ≡ true
unfolding same_name
vault-inside = refl

pub embargoed : Embargoed
embargoed v m fs last x i o c e h p q =
    absurd (false≢true (sym not-inside ∙ ap inside (sym q) ∙ kept-inside pages embargo v m fs last x inside no-way-out i o c e h (ap inside p ∙ vault-inside)))
