-- `begin` reads a part up to its first process.
-- The word past the blanks is the next token, and its sort says what the part is.
use mathlib.Core.Path.{ap, ◌∙◌}
use lib.ListN.{drop}
use Rattle.text.specs.Tokens.{lex}
use Rattle.text_words.specs.Sorts.{head_is}
use Rattle.text_words.proofs.Positions.{word-alnum, word-is, word_none}
use Rattle.text_words.proofs.WordSorts.{head-is}
use Rattle.text_parts.proofs.Fields.{opening-by, opening-none}
use Rattle.text_parts.proofs.begin.Goals as goal

pub sort_of-requires : goal.sort_of-requires
sort_of-requires c = let a = c.args in word-alnum a.s.now a.at _ _ c.skip_blanks-a.ensures c.word_end-e.ensures

pub returns-then-a-e : goal.returns-then-a-e
returns-then-a-e c =
    let a = c.args in
    c.begin_by.ensures ∙ opening-by (lex (drop a.at a.s.now)) _ _ _ (word-is a.s.now a.at _ _ c.skip_blanks-a.ensures c.word_end-e.ensures c.if-a-e.true) (ap head_is c.sort_of.ensures ∙ head-is _)

pub returns : goal.returns
returns c = let a = c.args in opening-none (lex (drop a.at a.s.now)) (word_none a.s.now a.at _ _ c.skip_blanks-a.ensures c.word_end-e.ensures c.if-a-e.false)
