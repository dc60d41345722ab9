-- Two words of a row, one store after the other.
use Prim.Native.Nat.{suc, ◌+◌, ◌*◌}
use native.Mathlib.Omega.{arith}
use mathlib.Core.Path.{◌≡◌}
use Rattle.text_build.specs.Put.{linked}
use Rattle.table.specs.Words.{row_size, parts_at, low_field, next_field}
use Rattle.text_build.proofs.link.Goals as goal

pub returns : goal.returns
unfolding linked
returns c =
    let i = c.args.i in
    let e : parts_at + i * row_size + low_field ≡ suc (parts_at + i * row_size + next_field) = omega arith in
    rw e
