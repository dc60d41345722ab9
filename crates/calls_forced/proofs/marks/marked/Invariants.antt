-- `marked` meets its contract. The loop's invariant: the marks are those of the components looked at.
use Prim.Native.Nat.{ℕ, ◌<◌}
use mathlib.Core.Path.{◌≡◌}
use lib.ListN.{length, take}
use Rattle.std.specs.Prelude.{Option}
use Rattle.table.specs.declared.Comp.{Comp}
use Rattle.table.specs.Meaning.{comp_in, comps_of}
use Rattle.calls_forced.specs.Marked.{Marked}
use Rattle.calls_forced.proofs.marks.marked.Given as goal

abbrev pub invariant-loop-j : goal.invariant-loop-j
invariant-loop-j g l =
    (length l.out ≡ g.row.N) × ((f : Comp → Option ℕ) → ((j : ℕ) (r : Option ℕ) → j < l.net.n → goal.F-post g l.place (comp_in l.net.words.now j) r → r ≡ f (comp_in l.net.words.now j)) → Marked g.row.N f (take l.j (comps_of (record { c = l.net.words.now; n = l.net.n }))) l.out)
