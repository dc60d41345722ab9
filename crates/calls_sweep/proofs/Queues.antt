-- The channel that a component sends on is one of 64, or 64.
use Prim.Native.Nat.{ℕ, ◌≤◌}
use native.Mathlib.Omega.{arith}
use mathlib.Core.List.{List}
use mathlib.Core.Bool.{Bool, true, false, cond}
use mathlib.Core.Path.{◌≡◌}
use Rattle.table.specs.declared.Comp.{Comp}
use Rattle.table.specs.declared.Head.{Head}
use Rattle.table.specs.declared.Head.TheVariants.{Stop, Go, Out, In, Call}
use Rattle.table.specs.Words.{head_at}
use Rattle.table.specs.Valid.{script_ok, comp_ok}
use Rattle.table.specs.Fire.{ready_at, sent_on, right_in}
use Rattle.calls_must.proofs.Hearing.{ear-fits, InEar}
use Rattle.calls_sweep.specs.Visit.{sends_by, sends_at}

cond_small : (b : Bool) (x : ℕ) → x ≤ 64 → cond b x 64 ≤ 64
cond_small true x h = h
cond_small false x h = omega arith

sent-small : (g : Head) → InEar 64 g → sent_on g ≤ 64
unfolding sent_on
sent-small Stop i = omega arith
sent-small (Go t v p) i = omega arith
sent-small (Out d t v p q) i = omega arith
sent-small (In d t k p q) i = omega arith
sent-small (Call d n) i = omega arith

pub sends-fits : (w : List ℕ) (l : ℕ) (c : Comp) → script_ok w ≡ true → comp_ok w c ≡ true → sends_at w l c ≤ 64
unfolding sends_at sends_by
sends-fits w l c e f = cond_small (ready_at l c) _ (cond_small (right_in w c (head_at w c.place)) _ (sent-small (head_at w c.place) (ear-fits w c e f)))
