-- An output's value and P are in order, and what it shares with an input.
-- By each test's answer, at the fields that it read.
use native.Mathlib.Omega.{arith}
use mathlib.Core.Path.{◌≡◌, ap, ◌∙◌}
use mathlib.Core.Bool.{true, false}
use Rattle.table.specs.Words.{field, scope_at, names_at, first_field, value_field}
use Rattle.table.specs.Valid.{ref_ok, inner_ok, head_ok, stacked, floor}
use Rattle.table_parts.specs.Tests.{rest_ok, send_ok}
use Rattle.table.proofs.ValidBool.{failed, passed, and-false}
use Rattle.table_scopes.proofs.ValidScopes.{inner_below}
use Rattle.table_parts.proofs.any_out.Goals as goal

pub returns-then-not-ref_ok : goal.returns-then-not-ref_ok
unfolding rest_ok head_ok stacked floor
returns-then-not-ref_ok c =
    let a = c.args in
    let w = a.w.now in
    let i = a.i in
    let r : ref_ok w (names_at w i) (field w i value_field) ≡ false = failed c.if-not-ref_ok.true (c.ref_ok.ensures ∙ ap (ref_ok w (names_at w i)) c.field.ensures) in
    simp (r, and-false)

pub returns-then-not-inner_ok : goal.returns-then-not-inner_ok
unfolding rest_ok head_ok stacked floor
returns-then-not-inner_ok c =
    let a = c.args in
    let w = a.w.now in
    let i = a.i in
    let p : c.wide-p.result ≡ field w i first_field = c.wide-p.ensures ∙ c.field-2.ensures in
    let n : inner_ok w i (field w i first_field) (scope_at w i) ≡ false = failed c.if-not-inner_ok.true (c.inner_ok.ensures ∙ ap (λ x. inner_ok w i x (scope_at w i)) p) in
    simp (n, and-false)

pub send_ok-requires : goal.send_ok-requires
send_ok-requires c =
    let a = c.args in
    let w = a.w.now in
    let i = a.i in
    let p : c.wide-p.result ≡ field w i first_field = c.wide-p.ensures ∙ c.field-2.ensures in
    let n : inner_ok w i (field w i first_field) (scope_at w i) ≡ true = passed c.if-not-inner_ok.false (c.inner_ok.ensures ∙ ap (λ x. inner_ok w i x (scope_at w i)) p) in
    let h = inner_below w i (field w i first_field) (scope_at w i) n in
    (c.requires, p, omega (arith, h, p))

pub returns : goal.returns
unfolding rest_ok head_ok stacked floor send_ok
returns c =
    let a = c.args in
    let w = a.w.now in
    let i = a.i in
    let r : ref_ok w (names_at w i) (field w i value_field) ≡ true = passed c.if-not-ref_ok.false (c.ref_ok.ensures ∙ ap (ref_ok w (names_at w i)) c.field.ensures) in
    let p : c.wide-p.result ≡ field w i first_field = c.wide-p.ensures ∙ c.field-2.ensures in
    let n : inner_ok w i (field w i first_field) (scope_at w i) ≡ true = passed c.if-not-inner_ok.false (c.inner_ok.ensures ∙ ap (λ x. inner_ok w i x (scope_at w i)) p) in
    c.send_ok.ensures ∙ simp (r, n)
