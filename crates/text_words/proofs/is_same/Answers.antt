-- The library's `==` compares letter by letter, as the definition does.
use mathlib.Core.Path.{sym, ◌∙◌}
use Rattle.terms.proofs.Library.{same-pointwise}
use Rattle.text_words.proofs.is_same.Goals as goal

pub returns : goal.returns
returns c = c.eq.ensures ∙ sym (same-pointwise _ _)
