-- A channel, a timer, a name; its slot and the scope of P; then the row.
use native.Mathlib.Omega.{arith}
use Rattle.text_put.proofs.Fronts.{chan-few, in-open}
use Rattle.text_put.proofs.heads.open_in.Goals as goal

pub overflow_cast-c : goal.overflow_cast-c
overflow_cast-c c = omega (arith, chan-few c.number-c.ensures)

pub overflow_cast-m : goal.overflow_cast-m
overflow_cast-m c =
    let h = c.noted-m.ensures.few in
    omega arith

pub returns : goal.returns
returns c =
    λ h t y p q us f g.
    let a = c.in_ok-f.ensures h t y _ f.1 g in
    in-open _ _ _ _ _ us _ c.saturating_sub-p.ensures h t y p q _ a c.slot-j.ensures _ c.entered-inner.ensures c.noted-m.ensures c.number-c.ensures c.put_row.ensures

pub returns-in_err-f : goal.returns-in_err-f
returns-in_err-f c = λ h t y p q us f g. absurd (c.in_err-f.ensures h t y _ f.1 g)
