-- The definition is looked up by the identifier, then the arguments are read; then the row.
use Rattle.table.specs.Words.{ids_at, row_size}
use Prim.Native.Nat.{◌-◌}
use native.Mathlib.Omega.{arith}
use mathlib.Core.Path.{◌≡◌, refl, ap, ◌∙◌}
use Rattle.std.proofs.Common.{unwrap_or}
use Rattle.table.specs.Meaning.{list_from}
use Rattle.table.specs.Tests.{key_name, row_name}
use Rattle.table.proofs.Tests.{length-list_from}
use Rattle.table.specs.Valid.{index}
use Rattle.text_build.specs.Tables.{held_in}
use Rattle.text_build.proofs.Finding.{number-or}
use Rattle.text_build.proofs.Tables.{index-within}
use Rattle.text_put.proofs.Fronts.{call-open}
use Rattle.text_put.proofs.heads.open_call.Goals as goal

pub find-requires : goal.find-requires
unfolding held_in
find-requires c =
    let e = c.held_in-n.ensures in
    (omega arith, omega arith, omega arith)

pub overflow_cast-d : goal.overflow_cast-d
unfolding held_in
overflow_cast-d c =
    let a = c.args in
    let n = c.held_in-n.result in
    let e = c.held_in-n.ensures in
    let ns = list_from 0 n (row_name a.w.now ids_at row_size) in
    let l = length-list_from (row_name a.w.now ids_at row_size) 0 n in
    let k = index-within ns (key_name a.x) in
    let f : unwrap_or c.find.result n ≡ index ns (key_name a.x) = rw c.find.ensures (number-or ns (key_name a.x) n l) in
    omega (arith, c.unwrap_or-d.ensures)

pub returns : goal.returns
returns c =
    let a = c.args in
    let n = c.held_in-n.result in
    let ns = list_from 0 n (row_name a.w.now ids_at row_size) in
    let l = length-list_from (row_name a.w.now ids_at row_size) 0 n in
    let f : c.unwrap_or-d.result ≡ index ns (key_name a.x) = c.unwrap_or-d.ensures ∙ ap (λ r. unwrap_or r n) c.find.ensures ∙ number-or ns (key_name a.x) n l in
    λ y d h. call-open _ _ _ _ _ y.left (c.args.i - 1) refl d y.what _ (c.in_ok-g.ensures y) _ h c.held_in-n.ensures f c.put_row.ensures

pub returns-in_err-g : goal.returns-in_err-g
returns-in_err-g c = λ y d h. absurd (c.in_err-g.ensures y)
