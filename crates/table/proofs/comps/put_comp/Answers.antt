-- Thirteen words are written, eight of them at once.
use Prim.Native.Nat.{◌*◌}
use native.Mathlib.Omega.{arith}
use mathlib.Core.Path.{ap, sym, ◌∙◌}
use lib.ListN.{length}
use Rattle.table.proofs.Stores.{stores}
use Rattle.table.proofs.comps.put_comp.Goals as goal

pub returns : goal.returns
returns c =
    let a = c.args in
    let k = c.copy_from_slice in
    rw k.ensures.after (stores a.c.now a.x.vals (a.i * 16) a.x.loc a.x.mark a.x.place a.x.timer a.x.wait (omega (arith, c.told-c)) (ap length (sym k.ensures.after) ∙ k.ensures.len))
