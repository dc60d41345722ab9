-- The parameters of a definition stand four words apart, at most four of them.
use Prim.Native.Nat.{min}
use mathlib.Core.Path.{◌≡◌, ap, sym, ◌∙◌}
use Rattle.terms.specs.Letters.{distinct}
use Rattle.table.specs.Words.{arity_of}
use Rattle.text_asked.proofs.Rows.{params-min}
use Rattle.text_asked.proofs.params_apart.Goals as goal

pub returns : goal.returns
returns c =
    let w = c.args.w.now in
    let n : c.min.result ≡ min (arity_of w c.args.d) 4 = c.min.ensures ∙ ap (λ m. min m 4) (c.wide.ensures ∙ c.arity_of.ensures) in
    c.all_apart.ensures ∙ ap distinct (sym (params-min w c.args.d c.min.result n))
