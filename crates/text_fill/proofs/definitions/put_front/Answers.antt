-- Two words, then a name.
use Prim.Native.Nat.{suc, ◌+◌, ◌*◌}
use native.Mathlib.Omega.{arith}
use mathlib.Core.Path.{◌≡◌, ◌∙◌}
use Rattle.table.specs.Words.{row_size, defs_at}
use Rattle.text_fill.proofs.definitions.put_front.Goals as goal

pub returns : goal.returns
returns c =
    let k = c.args.k in
    let e₁ : defs_at + k * row_size + 1 ≡ suc (defs_at + k * row_size) = omega arith in
    let e₂ : defs_at + k * row_size + 2 ≡ suc (suc (defs_at + k * row_size)) = omega arith in
    c.put_key.ensures ∙ rw (e₁, e₂)
