-- `net_next` says whether a word and `[` come next.
-- The word past the blanks is the next token; then by whether the sign follows.
use mathlib.Core.Path.{◌∙◌}
use borrow.Author.Tests.{le-ltb}
use lib.ListN.{drop}
use Rattle.text.specs.Tokens.{lex}
use Rattle.text_words.proofs.Positions.{word-is, word_none}
use Rattle.text_scan.proofs.Texts.{net-by, net-none}
use Rattle.text_scan.proofs.net_next.Goals as goal

pub returns-then-a-e : goal.returns-then-a-e
returns-then-a-e c =
    let s = c.args.s.now in
    let at = c.args.at in
    c.is_some.ensures ∙ net-by (lex (drop at s)) _ _ (word-is s at _ _ c.skip_blanks-a.ensures c.word_end-e.ensures c.if-a-e.true) s _ c.eat.ensures

pub returns-else-a-e : goal.returns-else-a-e
returns-else-a-e c =
    let s = c.args.s.now in
    let at = c.args.at in
    le-ltb _ _ c.if-a-e.false ∙ net-none (lex (drop at s)) (word_none s at _ _ c.skip_blanks-a.ensures c.word_end-e.ensures c.if-a-e.false)
