-- The first word, then what is behind it.
use native.Mathlib.Omega.{arith}
use mathlib.Core.Path.{◌∙◌}
use Rattle.text_words.proofs.Positions.{word-alnum}
use Rattle.text_put.specs.Opened.{head_name}
use Rattle.text_put.proofs.Peeling.{peel-name, peel-word, peel-none}
use Rattle.text_put.proofs.Fronts.{head-word, tail_at}
use Rattle.text_put.proofs.heads.open_part.Goals as goal

pub slice_bounds-sort_of-end : goal.slice_bounds-sort_of-end
slice_bounds-sort_of-end c =
    let h = c.word_end-e.ensures.high c.if-a-e.true in
    omega arith

pub sort_of-k-requires : goal.sort_of-k-requires
sort_of-k-requires c = word-alnum c.args.s.now c.args.at _ _ c.skip_blanks-a.ensures c.word_end-e.ensures

pub slice_bounds-key_of-end : goal.slice_bounds-key_of-end
slice_bounds-key_of-end c =
    let h = c.word_end-e.ensures.high c.if-a-e.true in
    omega arith

pub open_by-requires : goal.open_by-requires
open_by-requires c =
    let y = c.requires.2 in
    let s = c.args.s.now in
    let g = y.is ∙ head-word y.what y.left in
    let k = c.skip_blanks-a.ensures in
    let r = c.word_end-e.ensures in
    (c.requires.0, c.requires.1, tail_at s c.args.at _ y _ (peel-name s c.args.at _ _ k r (head_name y.what) _ g c.if-a-e.true) (peel-word s c.args.at _ _ k r (head_name y.what) _ g c.if-a-e.true) _ c.sort_of-k.ensures _ c.key_of-x.ensures)

pub returns-then-a-e : goal.returns-then-a-e
returns-then-a-e c =
    λ y.
    let s = c.args.s.now in
    let g = y.is ∙ head-word y.what y.left in
    let k = c.skip_blanks-a.ensures in
    let r = c.word_end-e.ensures in
    c.open_by.ensures (tail_at s c.args.at _ y _ (peel-name s c.args.at _ _ k r (head_name y.what) _ g c.if-a-e.true) (peel-word s c.args.at _ _ k r (head_name y.what) _ g c.if-a-e.true) _ c.sort_of-k.ensures _ c.key_of-x.ensures)

pub returns : goal.returns
returns c = λ y. peel-none c.args.s.now c.args.at _ _ c.skip_blanks-a.ensures c.word_end-e.ensures (head_name y.what) _ (y.is ∙ head-word y.what y.left) c.if-a-e.false
