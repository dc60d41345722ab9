-- The text is refused, or its network plays.
use native.Mathlib.Omega.{arith}
use Rattle.text_letters.proofs.Pages.{same}
use Rattle.run_print.proofs.Playing.{as-given, whole-refused, whole-number, whole-good, whole-printed}
use Rattle.run_turn.proofs.Fits.{refused-ends}
use Rattle.run_print.proofs.put_printout.Goals as goal

pub returns-then-r-ne0 : goal.returns-then-r-ne0
returns-then-r-ne0 c =
    let x = as-given _ _ _ _ _ c.all_rights.ensures c.read-r.ensures in
    let h = whole-number _ _ _ _ _ x c.if-r-ne0.true in
    let e = refused-ends _ (omega arith) c.put_refused.ensures.wrote in
    (same (whole-refused _ _ _ _ _ x c.if-r-ne0.true) c.put_refused.ensures, omega arith)

pub play-requires : goal.play-requires
play-requires c =
    whole-good _ _ _ _ _ (as-given _ _ _ _ _ c.all_rights.ensures c.read-r.ensures) (omega (arith, c.if-r-ne0.false))

pub returns-else-r-ne0 : goal.returns-else-r-ne0
returns-else-r-ne0 c =
    (same (whole-printed _ _ _ _ _ (as-given _ _ _ _ _ c.all_rights.ensures c.read-r.ensures) (omega (arith, c.if-r-ne0.false))) c.play.ensures.0, c.play.ensures.1)
