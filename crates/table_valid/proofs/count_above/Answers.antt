-- Two values go to each sum.
-- By the law of four sums of which none grew.
use native.Mathlib.Omega.{arith}
use Prim.Native.Nat.{◌+◌}
use Rattle.table.specs.Meaning.{comp_in}
use Rattle.table_valid.specs.declared.Sums.{Sums}
use Rattle.table_valid.proofs.ValidWhole.{counted}
use Rattle.table_valid.proofs.count_above.Goals as goal

pub returns : goal.returns
unfolding comp_in
returns c =
    let a = c.args in
    let r : Sums = record { a = c.count_two.result; b = c.count_two-2.result; c = c.count_two-3.result; d = c.count_two-4.result } in
    record {
      sums = counted (a.m + 1) a.s r _ _ _ _ _ _ _ _ c.count_two.ensures.1 c.count_two-2.ensures.1 c.count_two-3.ensures.1 c.count_two-4.ensures.1;
      few = λ k f.
          record {
            a = omega (arith, c.count_two.ensures.0, f.a);
            b = omega (arith, c.count_two-2.ensures.0, f.b);
            c = omega (arith, c.count_two-3.ensures.0, f.c);
            d = omega (arith, c.count_two-4.ensures.0, f.d);
          };
    }
