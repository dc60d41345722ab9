-- Where the name of a location or of a variable stands.
-- By cases on which it is.
use native.Mathlib.Omega.{arith}
use Prim.Native.Nat.{◌<◌, ◌≤◌, ◌-◌, ◌+◌}
use mathlib.Core.Path.{ap, ◌∙◌}
use borrow.Author.Tests.{lt-ltb, le-ltb}
use Rattle.table.specs.Words.{loc_name, field, slot_field}
use Rattle.calls_alike.specs.Pieces.{named}
use Rattle.calls_alike.proofs.parts.name_place.Goals as goal

pub returns-then-m-lt64 : goal.returns-then-m-lt64
unfolding named loc_name
returns-then-m-lt64 c =
    let h : c.args.a < 64 = omega (arith, c.wide-m.ensures) in
    rw (lt-ltb c.args.a 64 h, c.wide-m.ensures)

pub returns : goal.returns
unfolding named
returns c =
    let h : 64 ≤ c.args.a = omega (arith, c.wide-m.ensures) in
    let n = c.wide.ensures ∙ c.word.ensures ∙ ap (λ n. field c.args.w.now c.args.i (slot_field + (n - 64))) c.wide-m.ensures in
    rw (le-ltb c.args.a 64 h, n)
