-- Each call names a held definition.
use mathlib.Core.Path.{◌∙◌}
use borrow.Author.Rules.{rules}
use borrow.Author.Tests.{tests}
use Rattle.table.specs.Words.{head_at}
use Rattle.text_tree.specs.Asked.{call_held, calls_held}
use Rattle.text_asked.proofs.Each.{each-below}
use Rattle.text_asked.proofs.calls_held.Goals as goal

pub returns : goal.returns
unfolding calls_held
returns c =
    let w = c.args.w.now in
    each-below (λ i. call_held w (head_at w i)) _ _ (c.wide.ensures ∙ c.word.ensures) _ _ _ c.all.ensures.ran (λ x b q k. search (rules, tests))
