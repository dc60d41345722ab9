-- Each component of the first uses up the first equal one of the second that is not yet used.
-- Idea: what is left of the first, and the unused ones of the second, are the same exactly if all are.
use native.Mathlib.Omega.{arith}
use Prim.Native.Nat.{ℕ, ◌<◌}
use mathlib.Core.Bool.{true, false}
use mathlib.Core.Path.{◌≡◌, sym, ◌∙◌}
use Rattle.std.specs.Prelude.{Some, None}
use borrow.Author.Rules.{rules}
use borrow.Author.Tests.{tests}
use Rattle.std.proofs.lemmas.Iterator.{first_from_Range, serves_from_Range}
use Rattle.table.specs.declared.State.{State}
use Rattle.table.proofs.InUse.{valid-script, valid-state, comp-held}
use Rattle.calls_same.specs.Unused.{is_match}
use Rattle.calls_same.proofs.Matched.{net-length, uneven, used-more, raised-small, match-yes, match-no, begun, step, stuck, ended}
use Rattle.calls_same.proofs.comps.same_comps.Goals as goal

pub returns-then-n-m : goal.returns-then-n-m
returns-then-n-m c =
    let k = c.args in
    uneven _ _ (λ e. c.if-n-m.true (sym (net-length k.w.now (record { c = c.args.a.now; n = c.args.n })) ∙ e ∙ net-length k.v.now (record { c = c.args.b.now; n = c.args.m })))

pub loop-k-init : goal.loop-k-init
loop-k-init c =
    let k = c.args in
    record {
      even = c.if-n-m.false;
      left = begun k.w.now k.v.now (record { c = c.args.a.now; n = c.args.n }) (record { c = c.args.b.now; n = c.args.m }) c.if-n-m.false ((valid-state c.args.v.now (record { c = c.args.b.now; n = c.args.m }) c.requires.1).few);
      small = omega arith;
      below = λ m h. absurd (omega arith);
    }

pub comp_at-c-requires : goal.comp_at-c-requires
comp_at-c-requires c = omega (arith, c.loop-k-test.true, (valid-state c.args.w.now (record { c = c.args.a.now; n = c.args.n }) c.requires.0).few)

pub find-requires-clause-callable : goal.find-requires-clause-callable
find-requires-clause-callable c =
    let k = c.args in
    let a : State = record { c = k.a.now; n = k.n } in
    let b : State = record { c = k.b.now; n = k.m } in
    let g = valid-script k.w.now a c.requires.0 in
    let f = rw (← c.comp_at-c.ensures) at (comp-held k.w.now a c.requires.0 c.loop-k.k c.loop-k-test.true) in
    let s = valid-script k.v.now b c.requires.1 in
    serves_from_Range (λ x q r. search (rules, tests))
    (λ x low high.
    let n : x < 256 = omega (arith, high, (valid-state k.w.now a c.requires.0).few) in
    let t = comp-held k.v.now b c.requires.1 x (omega (arith, high, c.loop-k.invariant.even)) in
    search (rules, g, f, s, t, n))

pub returns-in_default : goal.returns-in_default
returns-in_default c =
    let k = c.args in
    let i = c.loop-k.invariant in
    let t = λ (m : ℕ). is_match k.w.now c.comp_at-c.result k.v.now k.b.now c.loop-k.used m in
    let h = first_from_Range _ _ _ None (λ m. t m ≡ true) (λ m. t m ≡ false) c.in_default.ensures.ran (λ x q e. search (rules, tests)) (λ x q e. search (rules, tests)) in
    stuck k.w.now k.v.now (record { c = c.args.a.now; n = c.args.n }) (record { c = c.args.b.now; n = c.args.m }) i.even ((valid-state c.args.v.now (record { c = c.args.b.now; n = c.args.m }) c.requires.1).few) c.loop-k.used c.loop-k.k i.left c.loop-k-test.true
    (rw (← c.comp_at-c.ensures) (match-no k.w.now c.comp_at-c.result k.v.now (record { c = c.args.b.now; n = c.args.m }) c.loop-k.used c.loop-k.low k.n i.below h))

pub bounds-used-p : goal.bounds-used-p
bounds-used-p c =
    let k = c.args in
    let t = λ (m : ℕ). is_match k.w.now c.comp_at-c.result k.v.now k.b.now c.loop-k.used m in
    let h = first_from_Range _ _ _ (Some c.in-Some.p) (λ m. t m ≡ true) (λ m. t m ≡ false) c.in-Some.ensures.ran (λ x q e. search (rules, tests)) (λ x q e. search (rules, tests)) in
    omega (arith, h.1, (valid-state c.args.w.now (record { c = c.args.a.now; n = c.args.n }) c.requires.0).few)

pub raised-low-requires : goal.raised-low-requires
raised-low-requires c =
    let k = c.args in
    let t = λ (m : ℕ). is_match k.w.now c.comp_at-c.result k.v.now k.b.now c.loop-k.used m in
    let h = first_from_Range _ _ _ (Some c.in-Some.p) (λ m. t m ≡ true) (λ m. t m ≡ false) c.in-Some.ensures.ran (λ x q e. search (rules, tests)) (λ x q e. search (rules, tests)) in
    omega (arith, h.1, (valid-state c.args.w.now (record { c = c.args.a.now; n = c.args.n }) c.requires.0).few)

pub loop-k-preserved : goal.loop-k-preserved
loop-k-preserved c =
    let k = c.args in
    let l = c.loop-k in
    let i = l.invariant in
    let p = c.in-Some.p in
    let a : State = record { c = c.args.a.now; n = c.args.n } in
    let b : State = record { c = c.args.b.now; n = c.args.m } in
    let t = λ (m : ℕ). is_match k.w.now c.comp_at-c.result k.v.now k.b.now c.loop-k.used m in
    let h = first_from_Range _ _ _ (Some c.in-Some.p) (λ m. t m ≡ true) (λ m. t m ≡ false) c.in-Some.ensures.ran (λ x q e. search (rules, tests)) (λ x q e. search (rules, tests)) in
    let y = match-yes k.w.now c.comp_at-c.result k.v.now b l.used p h.2 in
    let few = (valid-state k.v.now b c.requires.1).few in
    record {
      even = i.even;
      left = step k.w.now k.v.now a b i.even few l.used l.k i.left p c.loop-k-test.true h.1 y.0 (rw c.comp_at-c.ensures at y.1) (rw (← c.comp_at-c.ensures) (match-no k.w.now c.comp_at-c.result k.v.now b l.used l.low p i.below h.3));
      small = rw c.raised-low.ensures (raised-small l.low p k.n i.small h.1);
      below = rw c.raised-low.ensures (used-more l.used l.low p (omega (arith, i.left.marks, h.1, i.even, few)) i.below);
    }

pub returns : goal.returns
returns c =
    let k = c.args in
    let i = c.loop-k.invariant in
    ended k.w.now k.v.now (record { c = c.args.a.now; n = c.args.n }) (record { c = c.args.b.now; n = c.args.m }) i.even ((valid-state c.args.v.now (record { c = c.args.b.now; n = c.args.m }) c.requires.1).few) c.loop-k.used c.loop-k.k i.left c.loop-k-test.false
