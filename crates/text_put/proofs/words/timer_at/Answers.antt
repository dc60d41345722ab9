-- The word past the blanks is the timer's.
use native.Mathlib.Omega.{arith}
use mathlib.Core.List.{◌∷◌}
use mathlib.Core.Path.{sym, ap, ◌∙◌}
use Rattle.text.specs.Tokens.Token.{word}
use Rattle.text_put.proofs.Peeling.{peel-name, peel-word, peel-none, timer_name, timer-word}
use Rattle.text_put.proofs.words.timer_at.Goals as goal

pub slice_bounds-timer_of-end : goal.slice_bounds-timer_of-end
slice_bounds-timer_of-end c =
    let h = c.word_end-e.ensures.high c.if-a-e.true in
    omega arith

pub returns-then-a-e : goal.returns-then-a-e
returns-then-a-e c =
    λ t us f g.
    let k = c.skip_blanks-a.ensures in
    let r = c.word_end-e.ensures in
    let i = g ∙ timer-word t us in
    let n = peel-name c.args.s.now c.args.at _ _ k r (timer_name t) us i c.if-a-e.true in
    record {
      left = peel-word c.args.s.now c.args.at _ _ k r (timer_name t) us i c.if-a-e.true;
      timer = c.in_ok-t.ensures t us f (ap (λ x. word x ∷ us) n ∙ sym (timer-word t us));
    }

pub returns : goal.returns
returns c = λ t us f g. peel-none c.args.s.now c.args.at _ _ c.skip_blanks-a.ensures c.word_end-e.ensures (timer_name t) us (g ∙ timer-word t us) c.if-a-e.false

pub returns-in_err-t : goal.returns-in_err-t
returns-in_err-t c =
    λ t us f g.
    let n = peel-name c.args.s.now c.args.at _ _ c.skip_blanks-a.ensures c.word_end-e.ensures (timer_name t) us (g ∙ timer-word t us) c.if-a-e.true in
    absurd (c.in_err-t.ensures t us f (ap (λ x. word x ∷ us) n ∙ sym (timer-word t us)))
