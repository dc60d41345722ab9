-- `field_at` reads a word of the sort that the field wants.
-- The word past the blanks is the next token, and its sort suits the field exactly if the field takes the word.
use mathlib.Core.Path.{sym, ap, ◌∙◌}
use lib.ListN.{drop}
use Rattle.text.specs.Tokens.{lex}
use Rattle.text_words.specs.Sorts.{suits_of, fits}
use Rattle.text_words.proofs.Positions.{word-alnum, word-is, word_none, field-yes, field-no, field-none}
use Rattle.text_words.proofs.WordSorts.{suits-is}
use Rattle.text_words.proofs.field_at.Goals.{else-a-e-via-then-a-e+else-suits, else-a-e-via-else-a-e}
use Rattle.text_words.proofs.field_at.Goals as goal

pub sort_of-requires : goal.sort_of-requires
sort_of-requires c = word-alnum c.args.s.now c.args.at _ _ c.skip_blanks-a.ensures c.word_end-e.ensures

pub returns-then-suits : goal.returns-then-suits
returns-then-suits c =
    let a = c.args in
    field-yes (fits a.f) (lex (drop a.at a.s.now)) _ _ (word-is a.s.now a.at _ _ c.skip_blanks-a.ensures c.word_end-e.ensures c.if-a-e.true) (sym (ap (λ x. suits_of x a.f) c.sort_of.ensures ∙ suits-is _ a.f) ∙ sym c.suits.ensures ∙ c.if-suits.true)

pub returns : goal.returns
returns c =
    let a = c.args in
    let k = c.skip_blanks-a.ensures in
    let r = c.word_end-e.ensures in
    elim c.else-a-e.branch [
      | else-a-e-via-then-a-e+else-suits w ↦ field-no (fits a.f) (lex (drop a.at a.s.now)) _ _ (word-is a.s.now a.at _ _ k r w.if-a-e.true) (sym (ap (λ x. suits_of x a.f) w.sort_of.ensures ∙ suits-is _ a.f) ∙ sym w.suits.ensures ∙ w.if-suits.false)
      | else-a-e-via-else-a-e w ↦ field-none (fits a.f) (lex (drop a.at a.s.now)) (word_none a.s.now a.at _ _ k r w.if-a-e.false)
    ]
