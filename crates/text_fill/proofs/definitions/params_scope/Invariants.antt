-- The loop's invariant: the parameters that are left, entered after those before them, make the scope.
use Prim.Native.Nat.{◌-◌, ◌≤◌}
use mathlib.Core.Path.{◌≡◌}
use Rattle.text_tree.specs.Pass.{no_scope, params_from}
use Rattle.text_fill.proofs.definitions.params_scope.Given as goal

abbrev pub invariant-loop-j : goal.invariant-loop-j
invariant-loop-j l = (l.sc.n ≤ l.j) × (params_from l.w l.k l.j (l.n - l.j) l.sc ≡ params_from l.w l.k 0 l.n no_scope)
