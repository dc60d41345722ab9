-- Two channels are one if their names are.
-- By where the names stand.
use Prim.Native.Nat.{◌+◌, ◌*◌}
use mathlib.Core.Path.{◌∙◌}
use Rattle.table.specs.Words.{chans_at, name_at, chan_name, name_size}
use Rattle.calls_alike.proofs.Decided.{placed}
use Rattle.calls_alike.proofs.parts.same_channel.Goals as goal

pub returns : goal.returns
unfolding chan_name
returns c =
    let k = c.args in
    placed (λ n. name_at k.w.now (chans_at + n * name_size)) (λ n. name_at k.v.now (chans_at + n * name_size)) (c.wide.ensures ∙ c.field.ensures) (c.wide-2.ensures ∙ c.field-2.ensures) c.same_name.ensures
