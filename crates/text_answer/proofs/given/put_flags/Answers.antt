-- `put_flags` meets its contract: a right, one after the other. The loop's invariant: the first c are written (Under).
use native.Mathlib.Omega.{arith}
use Prim.Native.Nat.{◌+◌}
use mathlib.Core.Bool.{false}
use mathlib.Core.Path.{◌≡◌, refl, ap, ◌∙◌}
use lib.ListN.{get_or, set}
use lib.Seq.{sets}
use Rattle.table.specs.Meaning.{list_from}
use Rattle.text_answer.specs.Answer.{flag, flags}
use Rattle.text_answer.proofs.Under.{right_word, stores-more}
use Rattle.text_answer.proofs.given.put_flags.Goals as goal

pub loop-c-init : goal.loop-c-init
unfolding list_from
loop-c-init c = refl

pub loop-c-preserved : goal.loop-c-preserved
loop-c-preserved c =
    let a = c.args in
    let l = c.loop-c in
    rw (c.from.ensures, right_word (get_or a.row.now l.c false)) (ap (λ x. set x (a.o + l.c) (flag (get_or a.row.now l.c false))) l.invariant ∙ stores-more (λ k. flag (get_or a.row.now k false)) a.w.now a.o l.c)

pub returns : goal.returns
unfolding flags
returns c =
    let a = c.args in
    let l = c.loop-c in
    let e : l.c ≡ 64 = omega (arith, l.auto.c-end, c.loop-c-test.false) in
    l.invariant ∙ ap (λ n. sets a.w.now a.o (list_from 0 n (λ k. flag (get_or a.row.now k false)))) e
