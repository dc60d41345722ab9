-- A value's name: the location itself, the location that its slot holds, or the variable's own name.
-- By the law of each.
use native.Mathlib.Omega.{arith}
use Prim.Native.Nat.{◌+◌, ◌*◌, ◌-◌}
use mathlib.Core.Path.{◌≡◌, ap, ◌∙◌}
use lib.ListN.{get_or}
use Rattle.table.specs.Words.{row_size, locs_at, parts_at, name_at, name_size}
use Rattle.text_process.proofs.Values.{location-written, value_written, name-written, slot-few}
use Rattle.text_process.proofs.value_at.Goals as goal

pub returns-then-n-lt64 : goal.returns-then-n-lt64
returns-then-n-lt64 c = λ e.
    let k = c.args in
    ap (λ n. name_at k.w.now (locs_at + n * name_size)) c.wide-n.ensures ∙ location-written k.w.now k.i k.vals.now c.requires.1 k.v (omega arith)

pub returns-then-k-gt7 : goal.returns-then-k-gt7
returns-then-k-gt7 c = λ e.
    let k = c.args in
    absurd (omega (arith, slot-few k.w.now k.i k.vals.now c.requires.1 k.v (omega arith) e))

pub returns-then-x-lt64 : goal.returns-then-x-lt64
returns-then-x-lt64 c = λ e.
    let k = c.args in
    let x : c.wide-x.result ≡ get_or k.vals.now (k.v - 64) 0 = c.wide-x.ensures ∙ ap (λ n. get_or k.vals.now (n - 64) 0) c.wide-n.ensures in
    ap (λ n. name_at k.w.now (locs_at + n * name_size)) x
    ∙ value_written k.w.now k.i k.vals.now c.requires.1 k.v (omega arith) e (omega arith)

pub returns : goal.returns
returns c = λ e.
    let k = c.args in
    let x : c.wide-x.result ≡ get_or k.vals.now (k.v - 64) 0 = c.wide-x.ensures ∙ ap (λ n. get_or k.vals.now (n - 64) 0) c.wide-n.ensures in
    ap (name_at k.w.now) (c.wide.ensures ∙ c.field.ensures ∙ ap (λ n. get_or k.w.now (parts_at + k.i * row_size + (9 + (n - 64))) 0) c.wide-n.ensures)
    ∙ name-written k.w.now k.i k.vals.now c.requires.1 k.v (omega arith) e (omega arith)
