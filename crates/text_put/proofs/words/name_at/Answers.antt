-- The word past the blanks is the next token.
use native.Mathlib.Omega.{arith}
use mathlib.Core.Path.{ap, ◌∙◌}
use Rattle.text_build.specs.Keys.{key_of}
use Rattle.text_put.proofs.Peeling.{peel-name, peel-word, peel-none}
use Rattle.terms.specs.Characters.{is_capital}
use Rattle.terms.specs.Letters.{first_is}
use Rattle.text_put.proofs.words.name_at.Goals as goal

pub slice_bounds-key_of-end : goal.slice_bounds-key_of-end
slice_bounds-key_of-end c =
    let h = c.word_end-e.ensures.high c.if-a-e.true in
    omega arith

pub slice_bounds-begins_capital-end : goal.slice_bounds-begins_capital-end
slice_bounds-begins_capital-end c =
    let h = c.word_end-e.ensures.high c.if-a-e.true in
    omega arith

pub returns-then-a-e : goal.returns-then-a-e
returns-then-a-e c =
    λ x us g.
    let k = c.skip_blanks-a.ensures in
    let r = c.word_end-e.ensures in
    let n = peel-name c.args.s.now c.args.at _ _ k r x us g c.if-a-e.true in
    record {
      left = peel-word c.args.s.now c.args.at _ _ k r x us g c.if-a-e.true;
      key = c.key_of-k.ensures ∙ ap key_of n;
      capital = c.begins_capital-b.ensures ∙ ap (first_is is_capital) n;
    }

pub returns : goal.returns
returns c = λ x us g. peel-none c.args.s.now c.args.at _ _ c.skip_blanks-a.ensures c.word_end-e.ensures x us g c.if-a-e.false
