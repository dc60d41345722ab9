-- An input's name has its form and its slot, P has the scope with the name entered, and the rest is shared with an output.
-- By each test's answer, at the fields that it read.
use Prim.Native.Nat.{◌+◌, ◌*◌}
use native.Mathlib.Omega.{arith}
use mathlib.Core.Path.{◌≡◌, sym, ap, ◌∙◌}
use mathlib.Core.Bool.{true, false}
use lib.Dec.{eqb}
use borrow.Author.Tests.{eq-eqb, ne_eqb}
use Rattle.terms.specs.Letters.{is_name, is_small}
use Rattle.table.specs.Words.{row_size, owns_at, field, names_at, name_at, own_at, bound_at, first_field, value_field}
use Rattle.table.specs.Valid.{inner_ok, head_ok, stacked, floor, index, entered}
use Rattle.table_names.specs.Tests.{first_of}
use Rattle.table_parts.specs.Tests.{rest_ok, send_ok}
use Rattle.table_names.specs.declared.Sort.TheVariants.{Small}
use Rattle.table.proofs.ValidBool.{failed, passed, and-false}
use Rattle.table_scopes.proofs.ValidScopes.{inner_below}
use Rattle.table_parts.proofs.any_in.Goals as goal

pub returns-then-not-is_name_at : goal.returns-then-not-is_name_at
unfolding rest_ok head_ok stacked floor is_small bound_at own_at
returns-then-not-is_name_at c =
    let a = c.args in
    let w = a.w.now in
    let i = a.i in
    let y : is_name (first_of Small) (name_at w (owns_at + i * row_size)) ≡ false = failed c.if-not-is_name_at.true c.is_name_at.ensures in
    simp (y, and-false)

pub returns-then-find_slot-wide : goal.returns-then-find_slot-wide
unfolding rest_ok head_ok stacked floor is_small bound_at own_at
returns-then-find_slot-wide c =
    let a = c.args in
    let w = a.w.now in
    let i = a.i in
    let k : c.wide.result ≡ field w i value_field = c.wide.ensures ∙ c.field-k.ensures in
    let j : c.find_slot.result ≡ index (names_at w i) (name_at w (owns_at + i * row_size)) = c.find_slot.ensures ∙ ap (index (names_at w i)) c.key_at-y.ensures in
    let x : eqb (index (names_at w i) (name_at w (owns_at + i * row_size))) (field w i value_field) ≡ false = ne_eqb (index (names_at w i) (name_at w (owns_at + i * row_size))) (field w i value_field) (λ z. c.if-find_slot-wide.true (j ∙ z ∙ sym k)) in
    simp (x, and-false)

pub returns-then-not-bound_ok : goal.returns-then-not-bound_ok
unfolding rest_ok head_ok stacked floor is_small bound_at own_at
returns-then-not-bound_ok c =
    let a = c.args in
    let w = a.w.now in
    let i = a.i in
    let p : c.wide-p.result ≡ field w i first_field = c.wide-p.ensures ∙ c.field.ensures in
    let n : inner_ok w i (field w i first_field) (entered w i (field w i value_field)) ≡ false = failed c.if-not-bound_ok.true (c.bound_ok.ensures ∙ ap (λ o. inner_ok w i o (entered w i c.field-k.result)) p ∙ ap (λ o. inner_ok w i (field w i first_field) (entered w i o)) c.field-k.ensures) in
    simp (n, and-false)

pub send_ok-requires : goal.send_ok-requires
send_ok-requires c =
    let a = c.args in
    let w = a.w.now in
    let i = a.i in
    let p : c.wide-p.result ≡ field w i first_field = c.wide-p.ensures ∙ c.field.ensures in
    let n : inner_ok w i (field w i first_field) (entered w i (field w i value_field)) ≡ true = passed c.if-not-bound_ok.false (c.bound_ok.ensures ∙ ap (λ o. inner_ok w i o (entered w i c.field-k.result)) p ∙ ap (λ o. inner_ok w i (field w i first_field) (entered w i o)) c.field-k.ensures) in
    let h = inner_below w i (field w i first_field) (entered w i (field w i value_field)) n in
    (c.requires, p, omega (arith, h, p))

pub returns : goal.returns
unfolding rest_ok head_ok stacked floor is_small bound_at own_at send_ok
returns c =
    let a = c.args in
    let w = a.w.now in
    let i = a.i in
    let y : is_name (first_of Small) (name_at w (owns_at + i * row_size)) ≡ true = passed c.if-not-is_name_at.false c.is_name_at.ensures in
    let k : c.wide.result ≡ field w i value_field = c.wide.ensures ∙ c.field-k.ensures in
    let j : c.find_slot.result ≡ index (names_at w i) (name_at w (owns_at + i * row_size)) = c.find_slot.ensures ∙ ap (index (names_at w i)) c.key_at-y.ensures in
    let x : eqb (index (names_at w i) (name_at w (owns_at + i * row_size))) (field w i value_field) ≡ true = eq-eqb (index (names_at w i) (name_at w (owns_at + i * row_size))) (field w i value_field) (sym j ∙ c.if-find_slot-wide.false ∙ k) in
    let p : c.wide-p.result ≡ field w i first_field = c.wide-p.ensures ∙ c.field.ensures in
    let n : inner_ok w i (field w i first_field) (entered w i (field w i value_field)) ≡ true = passed c.if-not-bound_ok.false (c.bound_ok.ensures ∙ ap (λ o. inner_ok w i o (entered w i c.field-k.result)) p ∙ ap (λ o. inner_ok w i (field w i first_field) (entered w i o)) c.field-k.ensures) in
    c.send_ok.ensures ∙ simp (y, x, n)
