-- The next part, the channel, the timer, Q and the least place, at a part with no variable in scope.
-- By the law of such a part.
use Prim.Native.Nat.{suc, ◌<◌}
use native.Mathlib.Omega.{arith}
use mathlib.Core.Path.{◌≡◌, sym, ap, ◌∙◌}
use mathlib.Core.Bool.{true, false≢true}
use borrow.Author.Tests.{eqb-true}
use Rattle.table.specs.Words.{chans_in, field, low_at, count_field, first_field, name_field, second_field, timer_field}
use Rattle.table.specs.Valid.{timer_ok}
use Rattle.table.proofs.ValidBool.{passed}
use Rattle.table_parts.proofs.ValidPlain.{send-plain}
use Rattle.table_parts.proofs.plain_send.Goals as goal

pub returns-then-next_at-ne0 : goal.returns-then-next_at-ne0
returns-then-next_at-ne0 c = λ e. absurd (false≢true e)

pub returns-then-word-field : goal.returns-then-word-field
returns-then-word-field c = λ e. absurd (false≢true e)

pub returns-then-not-timer_ok : goal.returns-then-not-timer_ok
returns-then-not-timer_ok c = λ e. absurd (false≢true e)

pub returns-then-i-q : goal.returns-then-i-q
returns-then-i-q c = λ e. absurd (false≢true e)

pub returns-then-q-wide : goal.returns-then-q-wide
returns-then-q-wide c = λ e. absurd (false≢true e)

pub returns-then-field-ne0 : goal.returns-then-field-ne0
returns-then-field-ne0 c = λ e. absurd (false≢true e)

pub returns : goal.returns
returns c =
    let w = c.args.w.now in
    let i = c.args.i in
    let p = c.requires.1 in
    let q : c.wide-q.result ≡ field w i second_field = c.wide-q.ensures ∙ c.field-3.ensures in
    let n : field w i name_field < chans_in w = omega (arith, c.if-word-field.false, c.field.ensures, c.word.ensures) in
    let t : timer_ok (field w i timer_field) ≡ true = passed c.if-not-timer_ok.false (c.timer_ok.ensures ∙ ap timer_ok c.field-2.ensures) in
    let z : field w (field w i second_field) count_field ≡ 0 = ap (λ x. field w x count_field) (sym q) ∙ sym c.field-4.ensures ∙ c.if-field-ne0.false in
    let b : c.wide.result ≡ low_at w (field w i first_field) = c.wide.ensures ∙ c.low_at.ensures ∙ ap (low_at w) p in
    let g : suc (field w i second_field) ≡ low_at w (field w i first_field) = omega (arith, q, b, c.if-q-wide.false) in
    λ e.
    send-plain w i c.requires.0 (sym c.next_at.ensures ∙ c.if-next_at-ne0.false) n t (omega (arith, q, c.if-i-q.false)) z (omega (arith, p, c.requires.2)) g
    (sym c.low_at-2.ensures ∙ eqb-true c.low_at-2.result c.low_at-3.result e ∙ c.low_at-3.ensures ∙ ap (low_at w) q)
