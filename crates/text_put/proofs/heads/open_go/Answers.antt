-- A bracket, a timer, a value; then the row.
use mathlib.Core.List.{◌∷◌}
use mathlib.Core.Path.{refl, ap, ◌∙◌}
use Rattle.text.specs.Tokens.{opens, comma}
use Rattle.text.specs.Tokens.Token.{sign}
use Rattle.text.specs.Write.{timer_t}
use Rattle.text_put.specs.Found.{name_of}
use Rattle.text_put.proofs.Peeling.{peel-sign}
use Rattle.text_put.proofs.Arguments.{value-word}
use Rattle.text_put.proofs.Fronts.{go-open}
use Rattle.text_put.proofs.heads.open_go.Goals as goal

pub returns : goal.returns
returns c =
    λ t v p us f g.
    let s = c.args.s.now in
    let a = c.in_ok-f.ensures t (name_of v) _ f.0 (peel-sign s _ opens g c.in_ok-a.ensures ∙ ap (λ z. timer_t t (sign comma ∷ z)) (value-word v _)) in
    go-open s _ _ _ _ us _ c.saturating_sub-p.ensures t v p f _ a c.value_in-v.ensures _ refl c.put_row.ensures
