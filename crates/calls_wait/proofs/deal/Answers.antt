-- `deal` meets its contract. The loop's invariant: the chains are those of the numbers from i on.
use Prim.Native.Nat.{ℕ, suc, ◌-◌, ◌≤◌, ◌<◌}
use native.Mathlib.Omega.{arith}
use mathlib.Core.List.{List}
use mathlib.Core.Path.{◌≡◌, ap, subst, ◌∙◌}
use lib.ListN.{length, drop, get_or, set}
use lib.Seq.{drop-length}
use Rattle.std.specs.Prelude.{Option, Some, None}
use Rattle.calls_wait.specs.Waits.{spot_of, Apart, Dealt}
use Rattle.calls_wait.proofs.Dealing.{dealt-none, dealt-turn}
use Rattle.calls_wait.proofs.deal.Goals as goal

-- what is known of the number whose turn it is, at j - 1
turn : (ears keys : List ℕ) (heads nexts : List (Option ℕ)) (j : ℕ) → 0 < j → j ≤ length keys → Apart ears keys → Dealt ears (drop j keys) heads nexts
    → (get_or ears (spot_of (get_or keys (j - 1) 0)) 0 < 64) × Dealt ears (drop (j - 1) keys) (set heads (get_or ears (spot_of (get_or keys (j - 1) 0)) 0) (Some (spot_of (get_or keys (j - 1) 0)))) (set nexts (spot_of (get_or keys (j - 1) 0)) (get_or heads (get_or ears (spot_of (get_or keys (j - 1) 0)) 0) None))
turn ears keys heads nexts j h k a d =
    let z : j ≡ suc (j - 1) = omega arith in
    dealt-turn ears keys heads nexts (j - 1) (omega arith) a (subst (λ j. Dealt ears (drop j keys) heads nexts) z d)

pub loop-i-init : goal.loop-i-init
loop-i-init c = let a = c.args in rw (drop-length a.keys.now, c.requires.1) (dealt-none a.ears.now a.nexts.now c.requires.0)

pub bounds-heads-h : goal.bounds-heads-h
unfolding spot_of
bounds-heads-h c =
    let a = c.args in
    omega (arith, c.wide-h.ensures ∙ ap (λ p. get_or a.ears.now p 0) c.wide-p.ensures, (turn a.ears.now a.keys.now c.loop-i.heads c.loop-i.nexts c.loop-i.i c.loop-i-test.true (omega arith) c.requires.2 c.loop-i.invariant).0)

pub bounds-heads-h-in-loop-i : goal.bounds-heads-h-in-loop-i
unfolding spot_of
bounds-heads-h-in-loop-i c =
    let a = c.args in
    omega (arith, c.wide-h.ensures ∙ ap (λ p. get_or a.ears.now p 0) c.wide-p.ensures, (turn a.ears.now a.keys.now c.loop-i.heads c.loop-i.nexts c.loop-i.i c.loop-i-test.true (omega arith) c.requires.2 c.loop-i.invariant).0)

pub loop-i-preserved : goal.loop-i-preserved
unfolding spot_of
loop-i-preserved c =
    let a = c.args in
    rw (c.wide-h.ensures, c.wide-p.ensures) (turn a.ears.now a.keys.now c.loop-i.heads c.loop-i.nexts c.loop-i.i c.loop-i-test.true (omega arith) c.requires.2 c.loop-i.invariant).1
