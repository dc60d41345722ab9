-- `digit_sort` gives the sort of a word that begins with a digit.
-- It is a number of ticks exactly if the definition's three tests say so.
use mathlib.Core.Path.{sym, ◌∙◌}
use borrow.Author.Tests.{le-leb, lt-leb}
use Rattle.text_words.proofs.WordSorts.{digit-not-plain, digit-not-digits, digit-ticks, digit-above}
use Rattle.text_words.proofs.digit_sort.Goals.{else-is_plain-via-then-is_plain+then-all_digits+else-number_of-le1000000, else-is_plain-via-then-is_plain+else-all_digits, else-is_plain-via-else-is_plain}
use Rattle.text_words.proofs.digit_sort.Goals as goal

pub returns-then-number_of-le1000000 : goal.returns-then-number_of-le1000000
returns-then-number_of-le1000000 c =
    digit-ticks _ c.requires (sym c.is_plain.ensures ∙ c.if-is_plain.true) (sym c.all_digits.ensures ∙ c.if-all_digits.true) (sym c.number_of.ensures.small ∙ le-leb _ _ c.if-number_of-le1000000.true)

pub returns : goal.returns
returns c =
    elim c.else-is_plain.branch [
      | else-is_plain-via-then-is_plain+then-all_digits+else-number_of-le1000000 w ↦ digit-above _ c.requires (sym c.is_plain.ensures ∙ w.if-is_plain.true) (sym w.all_digits.ensures ∙ w.if-all_digits.true) (sym w.number_of.ensures.small ∙ lt-leb _ _ w.if-number_of-le1000000.false)
      | else-is_plain-via-then-is_plain+else-all_digits w ↦ digit-not-digits _ c.requires (sym w.all_digits.ensures ∙ w.if-all_digits.false)
      | else-is_plain-via-else-is_plain w ↦ digit-not-plain _ c.requires (sym c.is_plain.ensures ∙ w.if-is_plain.false)
    ]
