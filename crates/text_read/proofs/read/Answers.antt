-- The edition's refusal, that of the scan, that of the script, or the network. After a refusal of the script its rights and its edition are put back.
use Prim.Native.Nat.{ℕ, ◌*◌}
use native.Mathlib.Omega.{arith}
use lib.ListN.{length, length-replicate}
use Rattle.table.specs.Words.{rights_size}
use mathlib.Core.Path.{◌≡◌, refl, sym, ap, ◌∙◌}
use Rattle.terms.specs.Refusals.{code_of}
use Rattle.table.proofs.ValidBool.{failed, passed}
use Rattle.text_build.proofs.Stores.{put_mid-sets}
use Rattle.text_answer.proofs.Under.{copied_back}
use Rattle.text_answer.specs.Answer.{refusal}
use Rattle.text_enter.proofs.Answering.{way-1, answer-no, edition-no, edition-yes}
use Rattle.text_read.proofs.read.Goals as goal

pub returns-then-not-is_edition : goal.returns-then-not-is_edition
returns-then-not-is_edition c = edition-no _ _ (failed c.if-not-is_edition.true c.is_edition.ensures) _ _ _ _ (c.refuse.ensures ∙ ap refusal c.number.ensures) refl

pub returns-in-Err : goal.returns-in-Err
returns-in-Err c =
    edition-yes _ _ (passed c.if-not-is_edition.false c.is_edition.ensures) _ _ _ _ (way-1 _ _ c.scan-c.ensures _ c.limits.ensures _ (ap code_of c.in-Err.is) _ _ _ _ _ (c.refuse-in-Err.ensures ∙ ap refusal c.number-in-Err.ensures) refl)

pub returns-in-Ok : goal.returns-in-Ok
returns-in-Ok c =
    let known = passed c.if-not-is_edition.false c.is_edition.ensures in
    edition-yes _ _ known _ _ _ _ (c.try_enter.ensures.answer.yes _ c.in-Ok.is _ _ c.put_settings.ensures known _ _ c.accept.ensures.0 c.accept.ensures.1)

pub returns-in-Err-try_enter : goal.returns-in-Err-try_enter
returns-in-Err-try_enter c =
    let m = c.in-Err-try_enter.is in
    let kept = c.copy_from_slice.ensures.after in
    let long : length c.copy_from_slice.new.self ≡ 64 * rights_size = omega (arith, c.copy_from_slice.ensures.len, length-replicate {A = ℕ} (64 * rights_size) 0) in
    let put = put_mid-sets _ _ _ _ c.copy_from_slice.new.self c.copy_from_slice-in-Err-try_enter.ensures.after (sym long) (omega (arith, long, c.try_enter.array_long)) in
    let back = copied_back _ _ c.told-w _ kept c.put_settings.ensures (c.try_enter.ensures.back _ m) put refl c.put_edition.ensures in
    edition-yes _ _ (passed c.if-not-is_edition.false c.is_edition.ensures) _ _ _ _ (answer-no c.try_enter.ensures.answer _ m _ _ _ _ _ (c.refuse-in-Err-try_enter.ensures ∙ ap refusal c.number-in-Err-try_enter.ensures) back)
