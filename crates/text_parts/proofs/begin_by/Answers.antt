-- `begin_by` reads what follows the first word of a part.
-- By the word's sort: the openings of `go`, `out` and `in` are read field by field.
use mathlib.Core.Path.{sym, ap, ◌∙◌}
use lib.ListN.{drop}
use Rattle.text.specs.Tokens.{lex}
use Rattle.text_words.specs.Sorts.{head_is}
use Rattle.text_parts.specs.Openings.{open_form}
use Rattle.text_parts.proofs.Fields.{open-go, open-out, open_in}
use Rattle.text_parts.proofs.begin_by.Goals as goal

pub returns-in-Go : goal.returns-in-Go
returns-in-Go c =
    let a = c.args in
    c.go_begin.ensures ∙ sym (open-go (lex (drop a.at a.s.now))) ∙ sym (ap (λ k. open_form (head_is k) (lex (drop a.at a.s.now))) c.in-Go.is)

pub returns-in-Out : goal.returns-in-Out
returns-in-Out c =
    let a = c.args in
    c.comm_begin.ensures ∙ sym (open-out (lex (drop a.at a.s.now))) ∙ sym (ap (λ k. open_form (head_is k) (lex (drop a.at a.s.now))) c.in-Out.is)

pub returns-in-In : goal.returns-in-In
returns-in-In c =
    let a = c.args in
    c.comm_begin-in-In.ensures ∙ sym (open_in (lex (drop a.at a.s.now))) ∙ sym (ap (λ k. open_form (head_is k) (lex (drop a.at a.s.now))) c.in-In.is)
