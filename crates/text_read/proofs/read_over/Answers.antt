-- The edition's refusal, that of the scan, that of the script, or the network; after a refusal the script is zero.
use mathlib.Core.Path.{ap, ◌∙◌}
use Rattle.terms.specs.Refusals.{code_of}
use Rattle.table.proofs.ValidBool.{failed, passed}
use Rattle.text_answer.specs.Answer.{refusal}
use Rattle.text_enter.proofs.Answering.{way-1, answer-no, edition-no, edition-yes}
use Rattle.text_read.proofs.read_over.Goals as goal

pub returns-then-not-is_edition : goal.returns-then-not-is_edition
returns-then-not-is_edition c = edition-no _ _ (failed c.if-not-is_edition.true c.is_edition.ensures) _ _ _ _ (c.refuse.ensures ∙ ap refusal c.number.ensures) c.wipe.ensures

pub returns-in-Err : goal.returns-in-Err
returns-in-Err c =
    edition-yes _ _ (passed c.if-not-is_edition.false c.is_edition.ensures) _ _ _ _ (way-1 _ _ c.scan-c.ensures _ c.limits.ensures _ (ap code_of c.in-Err.is) _ _ _ _ _ (c.refuse-in-Err.ensures ∙ ap refusal c.number-in-Err.ensures) c.wipe-in-Err.ensures)

pub returns-in-Ok : goal.returns-in-Ok
returns-in-Ok c =
    let known = passed c.if-not-is_edition.false c.is_edition.ensures in
    edition-yes _ _ known _ _ _ _ (c.enter.ensures.answer.yes _ c.in-Ok.is _ _ c.put_settings.ensures known _ _ c.accept.ensures.0 c.accept.ensures.1)

pub returns-in-Err-enter : goal.returns-in-Err-enter
returns-in-Err-enter c =
    edition-yes _ _ (passed c.if-not-is_edition.false c.is_edition.ensures) _ _ _ _ (answer-no c.enter.ensures.answer _ c.in-Err-enter.is _ _ _ _ _ (c.refuse-in-Err-enter.ensures ∙ ap refusal c.number-in-Err-enter.ensures) c.wipe-in-Err-enter.ensures)
