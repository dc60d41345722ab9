-- The location, its number, the process in brackets.
use native.Mathlib.Omega.{arith}
use Rattle.text_fill.proofs.Bracketed.{located-word, loc-few, no-left, body_at, no-right, located-put}
use Rattle.text_fill.proofs.network.put_located.Goals as goal

pub returns-in_err-x : goal.returns-in_err-x
returns-in_err-x c = λ x. absurd (c.in_err-x.ensures _ _ (located-word x))

pub returns-in_err-b : goal.returns-in_err-b
returns-in_err-b c = λ x. absurd (no-left x _ (c.in_ok-x.ensures _ _ (located-word x)) c.in_err-b.ensures)

pub overflow_cast-l : goal.overflow_cast-l
overflow_cast-l c = omega (arith, loc-few c.number-l.ensures)

pub put_outer-requires : goal.put_outer-requires
put_outer-requires c =
    let x = c.requires.2 in
    (c.requires.0, c.requires.1, body_at x _ (c.in_ok-x.ensures _ _ (located-word x)) _ c.in_ok-b.ensures)

pub returns-in_err-p : goal.returns-in_err-p
returns-in_err-p c = λ x. absurd (c.in_err-p.ensures (body_at x _ (c.in_ok-x.ensures _ _ (located-word x)) _ c.in_ok-b.ensures))

pub returns-in_err-e : goal.returns-in_err-e
returns-in_err-e c = λ x. absurd (no-right x _ (c.in_ok-x.ensures _ _ (located-word x)) _ c.in_ok-b.ensures c.number-l.ensures _ c.in_ok-p.ensures c.in_err-e.ensures)

pub returns : goal.returns
returns c = λ x. located-put x _ (c.in_ok-x.ensures _ _ (located-word x)) _ c.in_ok-b.ensures c.number-l.ensures _ c.in_ok-p.ensures _ c.in_ok-e.ensures _ c.saturating_sub.ensures
