-- A call names a definition that is held, with its number of arguments, each in order.
-- By each test's answer, at the fields that it read.
use native.Mathlib.Omega.{arith}
use mathlib.Core.Path.{◌≡◌, sym, ap, ◌∙◌}
use mathlib.Core.Bool.{true, false}
use lib.Dec.{eqb, ltb}
use lib.ListN.{take}
use borrow.Author.Tests.{eq-eqb, ne_eqb, lt-ltb, le-ltb}
use Rattle.terms.specs.Same.{every}
use Rattle.table.specs.Words.{field, names_at, defs_in, arity_of, arg_words, args_at, name_field, value_field}
use Rattle.table.specs.Valid.{ref_ok, head_ok, stacked, floor}
use Rattle.table_scopes.specs.Tests.{end_ok}
use Rattle.table_parts.specs.Tests.{rest_ok}
use Rattle.table.proofs.ValidBool.{failed, passed, and-false}
use Rattle.table_parts.proofs.call_ok.Goals as goal

pub returns-then-c-d : goal.returns-then-c-d
unfolding rest_ok head_ok stacked floor
returns-then-c-d c =
    let a = c.args in
    let w = a.w.now in
    let i = a.i in
    let h : ltb (field w i name_field) (defs_in w) ≡ false = le-ltb (field w i name_field) (defs_in w) (omega (arith, c.if-c-d.true, c.field-d.ensures, c.word-c.ensures)) in
    simp h

pub returns-then-m-arity_of : goal.returns-then-m-arity_of
unfolding rest_ok head_ok stacked floor
returns-then-m-arity_of c =
    let a = c.args in
    let w = a.w.now in
    let i = a.i in
    let m = c.field-m.ensures in
    let d : c.wide.result ≡ field w i name_field = c.wide.ensures ∙ c.field-d.ensures in
    let z : c.arity_of.result ≡ arity_of w (field w i name_field) = c.arity_of.ensures ∙ ap (arity_of w) d in
    let h : eqb (field w i value_field) (arity_of w (field w i name_field)) ≡ false = ne_eqb (field w i value_field) (arity_of w (field w i name_field)) (λ x. c.if-m-arity_of.true (m ∙ x ∙ sym z)) in
    simp (h, and-false)

pub returns-then-not-args_ok : goal.returns-then-not-args_ok
unfolding rest_ok head_ok stacked floor
returns-then-not-args_ok c =
    let a = c.args in
    let w = a.w.now in
    let i = a.i in
    let h : every (ref_ok w (names_at w i)) (args_at w i (field w i value_field)) ≡ false = failed c.if-not-args_ok.true (c.args_ok.ensures ∙ ap (λ m. every (ref_ok w (names_at w i)) (take m (arg_words w i))) c.field-m.ensures) in
    simp (h, and-false)

pub returns : goal.returns
unfolding rest_ok head_ok stacked floor end_ok
returns c =
    let a = c.args in
    let w = a.w.now in
    let i = a.i in
    let g : ltb (field w i name_field) (defs_in w) ≡ true = lt-ltb (field w i name_field) (defs_in w) (omega (arith, c.if-c-d.false, c.field-d.ensures, c.word-c.ensures)) in
    let d : c.wide.result ≡ field w i name_field = c.wide.ensures ∙ c.field-d.ensures in
    let z : c.arity_of.result ≡ arity_of w (field w i name_field) = c.arity_of.ensures ∙ ap (arity_of w) d in
    let x : eqb (field w i value_field) (arity_of w (field w i name_field)) ≡ true = eq-eqb (field w i value_field) (arity_of w (field w i name_field)) (sym c.field-m.ensures ∙ c.if-m-arity_of.false ∙ z) in
    let h : every (ref_ok w (names_at w i)) (args_at w i (field w i value_field)) ≡ true = passed c.if-not-args_ok.false (c.args_ok.ensures ∙ ap (λ m. every (ref_ok w (names_at w i)) (take m (arg_words w i))) c.field-m.ensures) in
    c.end_ok.ensures ∙ simp (g, x, h)
