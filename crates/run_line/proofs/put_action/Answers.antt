-- The label of an action that is accepted.
-- By what the answer of an action stands for.
use Rattle.text_letters.proofs.Pages.{then, same}
use Rattle.run_line.specs.Records.{answer_by}
use Rattle.run_line.proofs.Lines.{action-text}
use Rattle.run_line.proofs.put_action.Goals as goal

pub returns : goal.returns
returns c =
    let k = c.args in
    let e = rw (c.wide.ensures, c.wide-2.ensures) at c.label_at-r.ensures in
    same (action-text k.net.script.now (answer_by k.net.script.now (record { c = k.net.words.now; n = k.net.n }) k.e.now) c.label_at-r.result e c.requires) (then c.put.ensures c.put_label.ensures)
