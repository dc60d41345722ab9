-- A label by its kind.
-- By what a label in numbers stands for.
use Rattle.text_letters.proofs.Pages.{same}
use Rattle.run_line.proofs.Lines.{label-call, label-move, label-sent}
use Rattle.run_line.proofs.put_label.Goals as goal

pub returns-then-x-eq1 : goal.returns-then-x-eq1
returns-then-x-eq1 c = same (label-call c.args.w.now c.args.x _ c.if-x-eq1.true c.wide.ensures) c.put_named.ensures

pub returns-then-x-eq2 : goal.returns-then-x-eq2
returns-then-x-eq2 c =
    same (label-move c.args.w.now c.args.x _ c.if-x-eq1.false c.if-x-eq2.true c.wide-then-x-eq2.ensures) c.put_named-then-x-eq2.ensures

pub returns-else-x-eq2 : goal.returns-else-x-eq2
returns-else-x-eq2 c = same (label-sent c.args.w.now c.args.x c.if-x-eq1.false c.if-x-eq2.false) c.put_sent.ensures
