-- Thirteen words are read, eight of them at once.
use Prim.Native.Nat.{◌*◌}
use mathlib.Core.Path.{refl}
use Rattle.table.specs.Meaning.{comp_in}
use Rattle.table.proofs.Stores.{eight_read}
use Rattle.table.proofs.comps.comp_at.Goals as goal

pub returns : goal.returns
unfolding comp_in
returns c =
    let k = c.copy_from_slice in
    rw (eight_read c.args.c.now k.new.self (c.args.i * 16) k.ensures.len k.ensures.after) refl
