-- An output and an input have a channel, a timer, a P directly below them, and a Q directly below it, in the same scope.
-- By each test's answer, at the fields that it read.
use Prim.Native.Nat.{suc}
use native.Mathlib.Omega.{arith}
use mathlib.Core.Path.{◌≡◌, ap, ◌∙◌}
use mathlib.Core.Bool.{true, false}
use lib.Dec.{eqb, ltb}
use borrow.Author.Tests.{eq-eqb, ne_eqb, lt-ltb, le-ltb}
use Rattle.table.specs.Words.{chans_in, field, low_at, scope_at, first_field, name_field, second_field, timer_field}
use Rattle.table.specs.Valid.{timer_ok, inner_ok}
use Rattle.table_scopes.specs.Tests.{end_ok}
use Rattle.table_parts.specs.Tests.{send_ok}
use Rattle.table.proofs.ValidBool.{failed, passed, and-false}
use Rattle.table_scopes.proofs.ValidScopes.{inner_below}
use Rattle.table_parts.proofs.send_ok.Goals as goal

pub returns-then-c-field : goal.returns-then-c-field
unfolding send_ok
returns-then-c-field c =
    let a = c.args in
    let w = a.w.now in
    let i = a.i in
    let h : ltb (field w i name_field) (chans_in w) ≡ false = le-ltb (field w i name_field) (chans_in w) (omega (arith, c.if-c-field.true, c.field.ensures, c.word-c.ensures)) in
    simp h

pub returns-then-not-timer_ok : goal.returns-then-not-timer_ok
unfolding send_ok
returns-then-not-timer_ok c =
    let a = c.args in
    let w = a.w.now in
    let i = a.i in
    let t : timer_ok (field w i timer_field) ≡ false = failed c.if-not-timer_ok.true (c.timer_ok.ensures ∙ ap timer_ok c.field-2.ensures) in
    simp (t, and-false)

pub returns-then-p-i : goal.returns-then-p-i
unfolding send_ok
returns-then-p-i c =
    let a = c.args in
    let w = a.w.now in
    let i = a.i in
    let e = c.requires.1 in
    let s : eqb (suc (field w i first_field)) i ≡ false = ne_eqb (suc (field w i first_field)) i (λ z. c.if-p-i.true (omega (arith, z, e))) in
    simp (s, and-false)

pub returns-then-q-wide : goal.returns-then-q-wide
unfolding send_ok
returns-then-q-wide c =
    let a = c.args in
    let w = a.w.now in
    let i = a.i in
    let e = c.requires.1 in
    let g : c.wide-q.result ≡ field w i second_field = c.wide-q.ensures ∙ c.field-3.ensures in
    let l : c.wide.result ≡ low_at w (field w i first_field) = c.wide.ensures ∙ c.low_at.ensures ∙ ap (low_at w) e in
    let u : eqb (suc (field w i second_field)) (low_at w (field w i first_field)) ≡ false = ne_eqb (suc (field w i second_field)) (low_at w (field w i first_field)) (λ z. c.if-q-wide.true (omega (arith, z, g, l))) in
    simp (u, and-false)

pub returns-then-not-inner_ok : goal.returns-then-not-inner_ok
unfolding send_ok
returns-then-not-inner_ok c =
    let a = c.args in
    let w = a.w.now in
    let i = a.i in
    let g : c.wide-q.result ≡ field w i second_field = c.wide-q.ensures ∙ c.field-3.ensures in
    let n : inner_ok w i (field w i second_field) (scope_at w i) ≡ false = failed c.if-not-inner_ok.true (c.inner_ok.ensures ∙ ap (λ x. inner_ok w i x (scope_at w i)) g) in
    simp (n, and-false)

pub low_at-requires-2 : goal.low_at-requires-2
low_at-requires-2 c =
    let a = c.args in
    let w = a.w.now in
    let i = a.i in
    let n = passed c.if-not-inner_ok.false c.inner_ok.ensures in
    let h = inner_below w i c.wide-q.result (scope_at w i) n in
    omega (arith, h, c.requires.0.place)

pub returns : goal.returns
unfolding send_ok end_ok
returns c =
    let a = c.args in
    let w = a.w.now in
    let i = a.i in
    let e = c.requires.1 in
    let h : ltb (field w i name_field) (chans_in w) ≡ true = lt-ltb (field w i name_field) (chans_in w) (omega (arith, c.if-c-field.false, c.field.ensures, c.word-c.ensures)) in
    let t : timer_ok (field w i timer_field) ≡ true = passed c.if-not-timer_ok.false (c.timer_ok.ensures ∙ ap timer_ok c.field-2.ensures) in
    let s : eqb (suc (field w i first_field)) i ≡ true = eq-eqb (suc (field w i first_field)) i (omega (arith, e, c.if-p-i.false)) in
    let g : c.wide-q.result ≡ field w i second_field = c.wide-q.ensures ∙ c.field-3.ensures in
    let l : c.wide.result ≡ low_at w (field w i first_field) = c.wide.ensures ∙ c.low_at.ensures ∙ ap (low_at w) e in
    let u : eqb (suc (field w i second_field)) (low_at w (field w i first_field)) ≡ true = eq-eqb (suc (field w i second_field)) (low_at w (field w i first_field)) (omega (arith, g, l, c.if-q-wide.false)) in
    let n : inner_ok w i (field w i second_field) (scope_at w i) ≡ true = passed c.if-not-inner_ok.false (c.inner_ok.ensures ∙ ap (λ x. inner_ok w i x (scope_at w i)) g) in
    let f : c.wide-2.result ≡ low_at w (field w i second_field) = c.wide-2.ensures ∙ c.low_at-2.ensures ∙ ap (low_at w) g in
    c.end_ok.ensures ∙ ap (end_ok w i) f ∙ simp (h, t, n, s, u)
