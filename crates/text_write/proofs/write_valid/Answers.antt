-- A valid network's text, or 14 or 15: by the answer to question 14, and by `write_beside`.
use mathlib.Core.Path.{sym, ◌∙◌}
use Rattle.table.proofs.InUse.{valid-state}
use Rattle.text_network.proofs.Networks.{unmarked-table}
use Rattle.text_write.proofs.Answered.{says-14}
use Rattle.text_write.proofs.write_valid.Goals as goal

pub all_unmarked-requires : goal.all_unmarked-requires
all_unmarked-requires c = (valid-state c.args.net.script.now (record { c = c.args.net.words.now; n = c.args.net.n }) c.args.net.passes).few

pub returns-then-not-all_unmarked : goal.returns-then-not-all_unmarked
returns-then-not-all_unmarked c =
    let a = c.args in
    says-14 a.net.script.now (record { c = a.net.words.now; n = a.net.n }) a.buf.now a.net.passes (unmarked-table a.net.script.now (record { c = a.net.words.now; n = a.net.n }) ∙ sym c.all_unmarked.ensures ∙ c.if-not-all_unmarked.true)

pub write_beside-requires : goal.write_beside-requires
write_beside-requires c =
    let a = c.args in
    unmarked-table a.net.script.now (record { c = a.net.words.now; n = a.net.n }) ∙ sym c.all_unmarked.ensures ∙ c.if-not-all_unmarked.false

pub write_beside-requires-2 : goal.write_beside-requires-2
write_beside-requires-2 c =
    let a = c.args in
    unmarked-table a.net.script.now (record { c = a.net.words.now; n = a.net.n }) ∙ sym c.all_unmarked.ensures ∙ c.if-not-all_unmarked.false
