-- The library's `all` tests every byte, as the definition does.
use borrow.Author.Rules.{rules}
use mathlib.Core.Path.{sym, ◌∙◌}
use Rattle.std.proofs.lemmas.Iterator.{YieldsList-from_slice}
use Rattle.std.proofs.lemmas.Iterator.Search.{all_from_yields_List}
use Rattle.std.proofs.Common.{tests}
use Rattle.terms.proofs.Library.{every-list}
use Rattle.text_words.specs.Bytes.{digit_at}
use Rattle.text_words.proofs.all_digits.Goals as goal

pub returns : goal.returns
returns c = all_from_yields_List digit_at _ _ _ c.all.ensures.ran (YieldsList-from_slice c.args.w.now cc) (λ x b q k. search (rules, tests)) ∙ sym (every-list _ _)
