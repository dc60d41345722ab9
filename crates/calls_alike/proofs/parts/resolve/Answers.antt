-- The location of the slot, or the word itself.
-- By the tests in their order.
use native.Mathlib.Omega.{arith}
use Prim.Native.Nat.{◌<◌, ◌≤◌, ◌-◌}
use mathlib.Core.Path.{ap, sym, ◌∙◌}
use lib.ListN.{get_or}
use borrow.Author.Tests.{lt-ltb, le-ltb}
use Rattle.calls_alike.specs.Pieces.{resolved}
use Rattle.calls_alike.proofs.parts.resolve.Goals as goal

pub returns-then-a-lt64 : goal.returns-then-a-lt64
unfolding resolved
returns-then-a-lt64 c = rw (lt-ltb c.args.a 64 c.if-a-lt64.true)

pub returns-in-Some : goal.returns-in-Some
unfolding resolved
returns-in-Some c =
    let a = c.args.a in
    let s = c.in-Some.ensures.lookup in
    let h : a - 64 ≤ 7 = omega (arith, c.wide.ensures, s.3.0, c.requires) in
    let x = s.3.1 0 ∙ ap (λ n. get_or c.args.vals.now n 0) c.wide.ensures in
    x ∙ sym (rw (le-ltb a 64 c.if-a-lt64.false, le-ltb 7 (a - 64) h, lt-ltb (get_or c.args.vals.now (a - 64) 0) 64 (rw x at c.if-x-lt64.true)))

pub returns-in_default : goal.returns-in_default
unfolding resolved
returns-in_default c =
    let a = c.args.a in
    let s = c.in-Some.ensures.lookup in
    let h : a - 64 ≤ 7 = omega (arith, c.wide.ensures, s.3.0, c.requires) in
    let x = s.3.1 0 ∙ ap (λ n. get_or c.args.vals.now n 0) c.wide.ensures in
    sym (rw (le-ltb a 64 c.if-a-lt64.false, le-ltb 7 (a - 64) h, le-ltb (get_or c.args.vals.now (a - 64) 0) 64 (rw x at c.if-x-lt64.false)))

pub returns-in_default-2 : goal.returns-in_default-2
unfolding resolved
returns-in_default-2 c =
    let a = c.args.a in
    let s = rw c.in_default.is at c.get.ensures.lookup in
    let h : 7 < a - 64 = omega (arith, c.wide.ensures, s.3, c.requires) in
    rw (le-ltb a 64 c.if-a-lt64.false, lt-ltb 7 (a - 64) h)
