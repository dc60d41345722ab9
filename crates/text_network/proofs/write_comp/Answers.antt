-- The location, and the part in brackets.
-- By what an unmarked component stands for.
use Prim.Native.Nat.{◌+◌, ◌*◌}
use mathlib.Core.Path.{ap}
use Rattle.table.specs.Words.{locs_at, name_at, name_size}
use Rattle.text_process.specs.Forms.{part_text}
use Rattle.text_process.specs.Values.{part_seen}
use Rattle.text_letters.proofs.Pages.{then, same}
use Rattle.text_process.proofs.Places.{comp-place}
use Rattle.text_network.proofs.Networks.{comp-written}
use Rattle.text_network.proofs.write_comp.Goals as goal

pub write_part-requires : goal.write_part-requires
write_part-requires c =
    rw c.wide-2.ensures (comp-place c.args.w.now c.requires.0 c.args.c c.requires.1)

pub returns : goal.returns
returns c =
    let k = c.args in
    same (comp-written k.w.now c.requires.0 k.c c.requires.1 c.requires.2)
    (then (same (ap (λ n. name_at k.w.now (locs_at + n * name_size)) c.wide.ensures) c.put_name.ensures)
    (then c.put.ensures
    (then (same (ap (λ n. part_text (part_seen k.w.now n k.c.timer k.c.vals)) c.wide-2.ensures) c.write_part.ensures) c.put-2.ensures)))
