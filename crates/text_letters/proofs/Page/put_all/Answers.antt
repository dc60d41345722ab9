-- All bytes of a slice, one after the other.
-- Idea: what is left to put is what is left of the slice.
use native.Mathlib.Numerals.{add-one}
use mathlib.Core.Path.{ap, sym}
use lib.ListN.{drop, drop_of_length-le}
use lib.Seq.{drop-cons}
use Rattle.text_letters.proofs.Pages.{step, done, left_as}
use Rattle.text_letters.proofs.Page.put_all.Goals as goal

pub loop-b-preserved : goal.loop-b-preserved
loop-b-preserved c =
    let s = c.args.s.now in
    let i = c.loop-b.b-index in
    left_as (ap (λ n. drop n s) (sym (add-one i))) (step (left_as (drop-cons s i 0 c.loop-b-test.true) c.loop-b.invariant) c.put.ensures)

pub returns : goal.returns
returns c =
    let s = c.args.s.now in
    done (left_as (drop_of_length-le s c.loop-b-test.false) c.loop-b.invariant)
