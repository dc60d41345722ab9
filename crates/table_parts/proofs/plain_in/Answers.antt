-- The name is in no slot and has its form, P is directly before with that name alone in scope, and the rest is shared with an output.
-- By the law of a part with no variable in scope.
use native.Mathlib.Omega.{arith}
use mathlib.Core.Path.{◌≡◌, refl, sym, ap, subst, ◌∙◌}
use mathlib.Core.Bool.{true, false≢true}
use lib.Dec.{eqb}
use borrow.Author.Tests.{eq-eqb}
use Rattle.terms.specs.Letters.{is_small}
use Rattle.table.specs.Words.{field, names_at, own_at, bound_at, count_field, first_field, slot_field, value_field}
use Rattle.table.specs.Valid.{index, inner_ok, entered}
use Rattle.table.proofs.ValidBool.{passed}
use Rattle.table_scopes.specs.Tests.{Scoped}
use Rattle.table_parts.proofs.ValidPlain.{bound-plain, no_slot, in_rest}
use Rattle.table_parts.proofs.plain_in.Goals as goal

pub returns-then-n-ne0 : goal.returns-then-n-ne0
returns-then-n-ne0 c = λ e. absurd (false≢true e)

pub returns-then-field-ne0 : goal.returns-then-field-ne0
returns-then-field-ne0 c = λ e. absurd (false≢true e)

pub returns-then-p-i : goal.returns-then-p-i
returns-then-p-i c = λ e. absurd (false≢true e)

pub returns-then-field-ne1 : goal.returns-then-field-ne1
returns-then-field-ne1 c = λ e. absurd (false≢true e)

pub returns-then-wide-i : goal.returns-then-wide-i
returns-then-wide-i c = λ e. absurd (false≢true e)

pub returns-then-not-plain_send : goal.returns-then-not-plain_send
returns-then-not-plain_send c = λ e. absurd (false≢true e)

pub plain_send-requires : goal.plain_send-requires
plain_send-requires c =
    let w = c.args.w.now in
    let i = c.args.i in
    (subst (λ m. Scoped w i m) c.if-n-ne0.false c.requires, c.wide-p.ensures ∙ c.field-2.ensures, c.if-p-i.false)

pub returns : goal.returns
unfolding is_small bound_at own_at
returns c =
    let w = c.args.w.now in
    let i = c.args.i in
    let s : Scoped w i 0 = subst (λ m. Scoped w i m) c.if-n-ne0.false c.requires in
    let p : c.wide-p.result ≡ field w i first_field = c.wide-p.ensures ∙ c.field-2.ensures in
    let v : field w i value_field ≡ 0 = sym c.field.ensures ∙ c.if-field-ne0.false in
    let z : field w (field w i first_field) count_field ≡ 1 = ap (λ x. field w x count_field) (sym p) ∙ sym c.field-3.ensures ∙ c.if-field-ne1.false in
    let o : field w (field w i first_field) slot_field ≡ own_at i = ap (λ x. field w x slot_field) (sym p) ∙ sym (c.wide.ensures ∙ c.field-4.ensures) ∙ c.if-wide-i.false in
    let x : eqb (index (names_at w i) (bound_at w i)) (field w i value_field) ≡ true = eq-eqb (index (names_at w i) (bound_at w i)) (field w i value_field) (no_slot w i s (bound_at w i) ∙ sym v) in
    let n : inner_ok w i (field w i first_field) (entered w i (field w i value_field)) ≡ true = bound-plain w i s (field w i first_field) (field w i value_field) (omega (arith, p, c.if-p-i.false)) z o in
    λ e.
    let y : is_small (bound_at w i) ≡ true = sym c.is_name_at.ensures ∙ e in
    in_rest w i y x n ∙ c.plain_send.ensures (passed c.if-not-plain_send.false refl)
