-- The head's constructor is that of the kind that the match found.
-- By the law of that kind, with each field read.
use mathlib.Core.Path.{sym, ◌∙◌}
use Rattle.table.proofs.WordsHead.{head-go, head-out, head_in, head-call, head-stop}
use Rattle.table.proofs.words.head_at.Goals as goal

pub returns-in-1 : goal.returns-in-1
returns-in-1 c =
    let k = c.args in
    rw (c.field-in-1.ensures, c.field-in-1-2.ensures, c.field-in-1-3.ensures)
    (sym (head-go k.w.now k.i (sym c.field.ensures ∙ c.in-1.is)))

pub returns-in-2 : goal.returns-in-2
returns-in-2 c =
    let k = c.args in
    rw (c.field-in-2.ensures, c.field-in-2-2.ensures, c.field-in-2-3.ensures, c.field-in-2-4.ensures, c.field-in-2-5.ensures)
    (sym (head-out k.w.now k.i (sym c.field.ensures ∙ c.in-2.is)))

pub returns-in-3 : goal.returns-in-3
returns-in-3 c =
    let k = c.args in
    rw (c.field-in-3.ensures, c.field-in-3-2.ensures, c.field-in-3-3.ensures, c.field-in-3-4.ensures, c.field-in-3-5.ensures)
    (sym (head_in k.w.now k.i (sym c.field.ensures ∙ c.in-3.is)))

pub returns-in-4 : goal.returns-in-4
returns-in-4 c =
    let k = c.args in
    rw (c.field-in-4.ensures, c.field-in-4-2.ensures)
    (sym (head-call k.w.now k.i (sym c.field.ensures ∙ c.in-4.is)))

pub returns-in_default : goal.returns-in_default
returns-in_default c =
    let k = c.args in
    let e = c.field.ensures in
    let n = c.in_default.in_default-own.rest in
    sym (head-stop k.w.now k.i (λ z. n.0.0.0.1 (e ∙ z)) (λ z. n.0.0.1 (e ∙ z)) (λ z. n.0.1 (e ∙ z)) (λ z. n.1 (e ∙ z)))
