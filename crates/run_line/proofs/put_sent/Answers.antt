-- The channel, the value in its signs, and the location.
-- By what each call puts.
use Prim.Native.Nat.{◌+◌, ◌*◌}
use mathlib.Core.Path.{ap}
use Rattle.table.specs.Words.{chans_at, locs_at, name_at, loc_name, chan_name, name_size}
use Rattle.text_letters.proofs.Pages.{then, same}
use Rattle.run_line.proofs.put_sent.Goals as goal

pub returns : goal.returns
unfolding loc_name chan_name
returns c =
    let w = c.args.w.now in
    then (same (ap (λ n. name_at w (chans_at + n * name_size)) c.wide.ensures) c.put_name.ensures)
    (then c.put.ensures
    (then (same (ap (λ n. name_at w (locs_at + n * name_size)) c.wide-2.ensures) c.put_name-2.ensures)
    (then c.put_all.ensures
    (same (ap (λ n. name_at w (locs_at + n * name_size)) c.wide-3.ensures) c.put_name-3.ensures))))
