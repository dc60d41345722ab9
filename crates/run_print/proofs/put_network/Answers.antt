-- The text is refused, or written, and then the mean.
use native.Mathlib.Omega.{arith}
use mathlib.Core.Path.{refl, sym}
use lib.Seq.{length-take-le}
use borrow.Author.Rules.{rules}
use Rattle.table.specs.Meaning.{tally_of}
use Rattle.table.proofs.InUse.{valid-ledger}
use Rattle.text_letters.proofs.Pages.{same, then}
use Rattle.run_print.proofs.Playing.{ending-refused, ending-short, ending-text}
use Rattle.run_print.proofs.put_network.Goals as goal

pub returns-then-r-ne0 : goal.returns-then-r-ne0
returns-then-r-ne0 c = same (ending-refused _ _ c.requires refl _ c.write-r.ensures c.if-r-ne0.true) c.put_refused.ensures

pub slice_bounds-text-end : goal.slice_bounds-text-end
slice_bounds-text-end c =
    let h = ending-short _ _ c.requires refl _ c.write-r.ensures (omega (arith, c.if-r-ne0.false)) in
    search rules

pub slice_bounds-put_all-end : goal.slice_bounds-put_all-end
slice_bounds-put_all-end c =
    let h = ending-short _ _ c.requires refl _ c.write-r.ensures (omega (arith, c.if-r-ne0.false)) in
    sym (length-take-le _ _ (search rules))

pub put_mean-requires : goal.put_mean-requires
put_mean-requires c = let g = valid-ledger _ _ c.requires in (g.few, g.within)

pub returns-else-r-ne0 : goal.returns-else-r-ne0
unfolding tally_of
returns-else-r-ne0 c =
    same (ending-text _ _ c.requires refl _ c.write-r.ensures (omega (arith, c.if-r-ne0.false)))
    (then c.put_all.ensures c.put_mean.ensures)
