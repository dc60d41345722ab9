-- Each value is a location or a slot in scope.
use mathlib.Core.Path.{◌∙◌}
use borrow.Author.Rules.{rules}
use borrow.Author.Tests.{tests}
use Rattle.table.specs.Words.{field, head_at, count_field}
use Rattle.text_tree.specs.Asked.{values_bound, all_bound}
use Rattle.text_asked.proofs.Each.{each-below}
use Rattle.text_asked.proofs.all_bound.Goals as goal

pub returns : goal.returns
unfolding all_bound
returns c =
    let w = c.args.w.now in
    each-below (λ i. values_bound w i (field w i count_field) (head_at w i)) _ _ (c.wide.ensures ∙ c.word.ensures) _ _ _ c.all.ensures.ran (λ x b q k. search (rules, tests))
