-- `small_sort` gives the sort of a word that begins small.
-- By its keywords in the definition's order; what is left is a name if it is short enough.
use mathlib.Core.Path.{sym, ◌∙◌}
use Rattle.text_words.specs.Sorts.{sort_of}
use Rattle.text_words.proofs.WordSorts.{small-name, small-long}
use Rattle.text_words.proofs.small_sort.Goals as goal

pub returns-then-is_same : goal.returns-then-is_same
unfolding sort_of
returns-then-is_same c =
    let e1 = sym c.is_same.ensures ∙ c.if-is_same.true in
    rw (e1)

pub returns-then-is_same-2 : goal.returns-then-is_same-2
unfolding sort_of
returns-then-is_same-2 c =
    let e1 = sym c.is_same.ensures ∙ c.if-is_same.false in
    let e2 = sym c.is_same-2.ensures ∙ c.if-is_same-2.true in
    rw (e1, e2)

pub returns-then-is_same-3 : goal.returns-then-is_same-3
unfolding sort_of
returns-then-is_same-3 c =
    let e1 = sym c.is_same.ensures ∙ c.if-is_same.false in
    let e2 = sym c.is_same-2.ensures ∙ c.if-is_same-2.false in
    let e3 = sym c.is_same-3.ensures ∙ c.if-is_same-3.true in
    rw (e1, e2, e3)

pub returns-then-is_same-4 : goal.returns-then-is_same-4
unfolding sort_of
returns-then-is_same-4 c =
    let e1 = sym c.is_same.ensures ∙ c.if-is_same.false in
    let e2 = sym c.is_same-2.ensures ∙ c.if-is_same-2.false in
    let e3 = sym c.is_same-3.ensures ∙ c.if-is_same-3.false in
    let e4 = sym c.is_same-4.ensures ∙ c.if-is_same-4.true in
    rw (e1, e2, e3, e4)

pub returns-then-is_same-5 : goal.returns-then-is_same-5
unfolding sort_of
returns-then-is_same-5 c =
    let e1 = sym c.is_same.ensures ∙ c.if-is_same.false in
    let e2 = sym c.is_same-2.ensures ∙ c.if-is_same-2.false in
    let e3 = sym c.is_same-3.ensures ∙ c.if-is_same-3.false in
    let e4 = sym c.is_same-4.ensures ∙ c.if-is_same-4.false in
    let e5 = sym c.is_same-5.ensures ∙ c.if-is_same-5.true in
    rw (e1, e2, e3, e4, e5)

pub returns-then-w-le-LONGEST : goal.returns-then-w-le-LONGEST
returns-then-w-le-LONGEST c =
    let e1 = sym c.is_same.ensures ∙ c.if-is_same.false in
    let e2 = sym c.is_same-2.ensures ∙ c.if-is_same-2.false in
    let e3 = sym c.is_same-3.ensures ∙ c.if-is_same-3.false in
    let e4 = sym c.is_same-4.ensures ∙ c.if-is_same-4.false in
    let e5 = sym c.is_same-5.ensures ∙ c.if-is_same-5.false in
    let p = c.requires in
    small-name _ p.0 e1 e2 e3 e4 e5 p.1 c.if-w-le-LONGEST.true

pub returns : goal.returns
returns c =
    let e1 = sym c.is_same.ensures ∙ c.if-is_same.false in
    let e2 = sym c.is_same-2.ensures ∙ c.if-is_same-2.false in
    let e3 = sym c.is_same-3.ensures ∙ c.if-is_same-3.false in
    let e4 = sym c.is_same-4.ensures ∙ c.if-is_same-4.false in
    let e5 = sym c.is_same-5.ensures ∙ c.if-is_same-5.false in
    small-long _ c.requires.0 e1 e2 e3 e4 e5 c.if-w-le-LONGEST.false
