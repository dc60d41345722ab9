-- A channel, a timer, a value; then the row.
use native.Mathlib.Omega.{arith}
use mathlib.Core.List.{◌∷◌}
use mathlib.Core.Path.{refl, ap, ◌∙◌}
use Rattle.text.specs.Tokens.{opens, comma}
use Rattle.text.specs.Tokens.Token.{word, sign}
use Rattle.text.specs.Write.{timer_t}
use Rattle.text_put.specs.Found.{name_of}
use Rattle.text_put.proofs.Arguments.{value-word}
use Rattle.text_put.proofs.Fronts.{chan-few, out-open}
use Rattle.text_put.proofs.heads.open_out.Goals as goal

pub overflow_cast-c : goal.overflow_cast-c
overflow_cast-c c = omega (arith, chan-few c.number-c.ensures)

pub returns : goal.returns
returns c =
    λ h t v p q us f g.
    let a = c.in_ok-f.ensures h t (name_of v) _ f.1 (g ∙ ap (λ z. sign opens ∷ word h ∷ sign comma ∷ timer_t t (sign comma ∷ z)) (value-word v _)) in
    out-open _ _ _ _ _ us _ c.saturating_sub-p.ensures h t v p q f _ a c.number-c.ensures c.value_in-v.ensures _ refl c.put_row.ensures

pub returns-in_err-f : goal.returns-in_err-f
returns-in_err-f c = λ h t v p q us f g. absurd (c.in_err-f.ensures h t (name_of v) _ f.1 (g ∙ ap (λ z. sign opens ∷ word h ∷ sign comma ∷ timer_t t (sign comma ∷ z)) (value-word v _)))
