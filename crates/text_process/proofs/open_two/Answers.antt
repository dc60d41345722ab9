-- The word, the channel and the fields.
-- By what each call puts.
use Prim.Native.Nat.{◌+◌, ◌*◌}
use mathlib.Core.Path.{ap}
use Rattle.table.specs.Words.{chans_at, name_at, chan_name, name_size}
use Rattle.text_letters.proofs.Pages.{then, same}
use Rattle.text_process.proofs.open_two.Goals as goal

pub returns : goal.returns
unfolding chan_name
returns c =
    let named = same (ap (λ n. name_at c.args.w.now (chans_at + n * name_size)) c.wide.ensures) c.put_name.ensures in
    then c.put_all.ensures (then named (then c.put.ensures c.put_fields.ensures))
