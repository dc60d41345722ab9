-- The location, the labels and the line feed.
-- By the law that the labels of the records are those of the step.
use Prim.Native.Nat.{◌+◌, ◌*◌}
use mathlib.Core.Path.{ap}
use lib.ListN.{length}
use lib.Seq.{take-length}
use Rattle.table.specs.Words.{locs_at, name_at, loc_name, name_size}
use Rattle.text_letters.proofs.Pages.{then, same}
use Rattle.run_line.specs.Line.{spaced, line_text}
use Rattle.run_line.proofs.Lines.{held-labels, held-fire}
use Rattle.run_line.proofs.put_line.Goals as goal

pub put_actions-requires : goal.put_actions-requires
put_actions-requires c =
    let k = c.args in
    rw take-length at (held-fire k.w.now (record { c = k.c.now; n = k.n }) k.l k.records.now (length k.records.now) c.requires)

pub returns : goal.returns
unfolding line_text loc_name
returns c =
    let k = c.args in
    let labels = held-labels k.w.now (record { c = k.c.now; n = k.n }) k.l k.records.now (length k.records.now) c.requires in
    let labels = rw take-length at labels in
    then (same (ap (λ n. name_at k.w.now (locs_at + n * name_size)) c.wide.ensures) c.put_name.ensures)
    (then (same (ap spaced labels) c.put_actions.ensures) c.put.ensures)
