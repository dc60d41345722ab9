-- Each component of the first uses up the first equal one of the second that is not yet used.
-- Idea: what is left of the first, and the unused ones of the second, are the same exactly if all are.
use Prim.Native.Nat.{◌≤◌}
use mathlib.Core.Path.{◌≡◌}
use Rattle.calls_same.proofs.Matched.{Used, Left}
use Rattle.calls_same.proofs.comps.same_comps.Given as goal

abbrev pub invariant-loop-k : goal.invariant-loop-k
invariant-loop-k l = record {
  even : l.n ≡ l.m;
  left : Left l.w l.v (record { c = l.a; n = l.n }) (record { c = l.b; n = l.m }) l.used l.k;
  small : l.low ≤ l.n;
  below : Used l.used l.low;
}
