-- A movement's timer and value are in order, and its P lies directly below it, in the same scope.
-- By each test's answer, at the fields that it read.
use Prim.Native.Nat.{suc}
use native.Mathlib.Omega.{arith}
use mathlib.Core.Path.{◌≡◌, ap, ◌∙◌}
use mathlib.Core.Bool.{true, false}
use lib.Dec.{eqb}
use borrow.Author.Tests.{eq-eqb, ne_eqb}
use Rattle.table.specs.Words.{field, low_at, scope_at, names_at, first_field, timer_field, value_field}
use Rattle.table.specs.Valid.{timer_ok, ref_ok, inner_ok, head_ok, stacked, floor}
use Rattle.table_scopes.specs.Tests.{end_ok}
use Rattle.table_parts.specs.Tests.{rest_ok}
use Rattle.table.proofs.ValidBool.{failed, passed, and-false}
use Rattle.table_parts.proofs.go_ok.Goals as goal

pub returns-then-not-timer_ok : goal.returns-then-not-timer_ok
unfolding rest_ok head_ok stacked floor
returns-then-not-timer_ok c =
    let a = c.args in
    let w = a.w.now in
    let i = a.i in
    let t : timer_ok (field w i timer_field) ≡ false = failed c.if-not-timer_ok.true (c.timer_ok.ensures ∙ ap timer_ok c.field.ensures) in
    simp t

pub returns-then-not-ref_ok : goal.returns-then-not-ref_ok
unfolding rest_ok head_ok stacked floor
returns-then-not-ref_ok c =
    let a = c.args in
    let w = a.w.now in
    let i = a.i in
    let r : ref_ok w (names_at w i) (field w i value_field) ≡ false = failed c.if-not-ref_ok.true (c.ref_ok.ensures ∙ ap (ref_ok w (names_at w i)) c.field-2.ensures) in
    simp (r, and-false)

pub returns-then-p-i : goal.returns-then-p-i
unfolding rest_ok head_ok stacked floor
returns-then-p-i c =
    let a = c.args in
    let w = a.w.now in
    let i = a.i in
    let p : c.wide-p.result ≡ field w i first_field = c.wide-p.ensures ∙ c.field-3.ensures in
    let s : eqb (suc (field w i first_field)) i ≡ false = ne_eqb (suc (field w i first_field)) i (λ z. c.if-p-i.true (omega (arith, z, p))) in
    simp (s, and-false)

pub returns-then-not-inner_ok : goal.returns-then-not-inner_ok
unfolding rest_ok head_ok stacked floor
returns-then-not-inner_ok c =
    let a = c.args in
    let w = a.w.now in
    let i = a.i in
    let p : c.wide-p.result ≡ field w i first_field = c.wide-p.ensures ∙ c.field-3.ensures in
    let n : inner_ok w i (field w i first_field) (scope_at w i) ≡ false = failed c.if-not-inner_ok.true (c.inner_ok.ensures ∙ ap (λ x. inner_ok w i x (scope_at w i)) p) in
    simp (n, and-false)

pub returns : goal.returns
unfolding rest_ok head_ok stacked floor end_ok
returns c =
    let a = c.args in
    let w = a.w.now in
    let i = a.i in
    let t : timer_ok (field w i timer_field) ≡ true = passed c.if-not-timer_ok.false (c.timer_ok.ensures ∙ ap timer_ok c.field.ensures) in
    let r : ref_ok w (names_at w i) (field w i value_field) ≡ true = passed c.if-not-ref_ok.false (c.ref_ok.ensures ∙ ap (ref_ok w (names_at w i)) c.field-2.ensures) in
    let p : c.wide-p.result ≡ field w i first_field = c.wide-p.ensures ∙ c.field-3.ensures in
    let n : inner_ok w i (field w i first_field) (scope_at w i) ≡ true = passed c.if-not-inner_ok.false (c.inner_ok.ensures ∙ ap (λ x. inner_ok w i x (scope_at w i)) p) in
    let s : eqb (suc (field w i first_field)) i ≡ true = eq-eqb (suc (field w i first_field)) i (omega (arith, p, c.if-p-i.false)) in
    let l : c.wide.result ≡ low_at w (field w i first_field) = c.wide.ensures ∙ c.low_at.ensures ∙ ap (low_at w) p in
    c.end_ok.ensures ∙ ap (end_ok w i) l ∙ simp (t, r, n, s)
