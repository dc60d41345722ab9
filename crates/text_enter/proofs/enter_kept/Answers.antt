-- After a refusal the words in front are put back, and those behind were never written.
use native.Mathlib.Omega.{arith}
use mathlib.Core.Path.{refl, sym}
use Prim.Native.Nat.{ℕ}
use lib.ListN.{length-replicate}
use Rattle.text_answer.proofs.Kept.{front_copy, back-again}
use Rattle.text_enter.proofs.Answering.{answer_back, may-fill}
use Rattle.text_enter.proofs.enter_kept.Goals as goal

pub returns-then-is_err : goal.returns-then-is_err
returns-then-is_err g c =
    let e = c.enter-entered.ensures in
    let f = may-fill _ _ c.requires.0 _ refl c.requires.1 in
    let kept = front_copy _ c.args.w.now _ _ c.copy_from_slice.ensures.after (omega arith) (omega (arith, length-replicate {A = ℕ})) in
    let back = front_copy _ _ c.enter-entered.new.w _ c.copy_from_slice-then-is_err.ensures.after (omega (arith, kept.size, length-replicate {A = ℕ})) (omega (arith, e.size)) in
    record { answer = answer_back _ e.answer (sym c.if-is_err.ensures.value) _; back = λ d m. back-again _ _ _ _ _ _ kept e.rest e.size back }
