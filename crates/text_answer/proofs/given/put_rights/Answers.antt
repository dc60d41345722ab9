-- `put_rights` meets its contract: a row, one after the other. The loop's invariant: the first l are written (Under).
use native.Mathlib.Omega.{arith}
use Prim.Native.Nat.{◌+◌, ◌*◌}
use mathlib.Core.List.{flat_map}
use mathlib.Core.Path.{◌≡◌, refl, ap, ◌∙◌}
use lib.ListN.{get_or}
use lib.Seq.{sets}
use Rattle.table.specs.Words.{rights_at, rights_size}
use Rattle.table.specs.Meaning.{list_from}
use Rattle.text_answer.specs.Answer.{no_row, row_words, rights_words}
use Rattle.text_answer.proofs.Under.{rows_more}
use Rattle.text_answer.proofs.given.put_rights.Goals as goal

pub loop-l-init : goal.loop-l-init
unfolding list_from flat_map
loop-l-init c = refl

pub loop-l-preserved : goal.loop-l-preserved
loop-l-preserved c =
    let a = c.args in
    let l = c.loop-l in
    c.put_row.ensures ∙ ap (λ x. sets x (rights_at + l.l * rights_size) (row_words (get_or a.rights.now l.l no_row))) l.invariant ∙ rows_more (λ k. get_or a.rights.now k no_row) a.w.now rights_at l.l

pub returns : goal.returns
unfolding rights_words
returns c =
    let a = c.args in
    let l = c.loop-l in
    let e : l.l ≡ 64 = omega (arith, l.auto.l-end, c.loop-l-test.false) in
    l.invariant ∙ ap (λ n. sets a.w.now rights_at (flat_map row_words (list_from 0 n (λ k. get_or a.rights.now k no_row)))) e
