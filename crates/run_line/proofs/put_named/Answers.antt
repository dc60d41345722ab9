-- The name, the sign and the location.
-- By what each call puts.
use Prim.Native.Nat.{◌+◌, ◌*◌}
use mathlib.Core.Path.{ap}
use Rattle.table.specs.Words.{locs_at, name_at, loc_name, name_size}
use Rattle.text_letters.proofs.Pages.{then, same}
use Rattle.run_line.proofs.put_named.Goals as goal

pub returns : goal.returns
unfolding loc_name
returns c =
    let w = c.args.w.now in
    then c.put_name.ensures (then c.put.ensures (same (ap (λ n. name_at w (locs_at + n * name_size)) c.wide.ensures) c.put_name-2.ensures))
