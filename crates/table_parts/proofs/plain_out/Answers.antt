-- The value is a location, P is directly before and has no variable in scope, and the rest is shared with an input.
-- By the law of a part with no variable in scope.
use native.Mathlib.Omega.{arith}
use mathlib.Core.Path.{◌≡◌, sym, ap, subst, ◌∙◌}
use mathlib.Core.Bool.{true, false≢true}
use borrow.Author.Tests.{lt-ltb}
use Rattle.table.specs.Words.{locs_in, field, scope_at, names_at, count_field, first_field, value_field}
use Rattle.table.specs.Valid.{ref_ok, inner_ok}
use Rattle.table_scopes.specs.Tests.{Scoped}
use Rattle.table_scopes.proofs.ValidScopes.{ref-location}
use Rattle.table_parts.proofs.ValidPlain.{inner-plain, out-rest}
use Rattle.table_parts.proofs.plain_out.Goals as goal

pub returns-then-n-ne0 : goal.returns-then-n-ne0
returns-then-n-ne0 c = λ e. absurd (false≢true e)

pub returns-then-v-ge64 : goal.returns-then-v-ge64
returns-then-v-ge64 c = λ e. absurd (false≢true e)

pub returns-then-word-v : goal.returns-then-word-v
returns-then-word-v c = λ e. absurd (false≢true e)

pub returns-then-p-i : goal.returns-then-p-i
returns-then-p-i c = λ e. absurd (false≢true e)

pub returns-then-field-ne0 : goal.returns-then-field-ne0
returns-then-field-ne0 c = λ e. absurd (false≢true e)

pub plain_send-requires : goal.plain_send-requires
plain_send-requires c =
    let w = c.args.w.now in
    let i = c.args.i in
    (subst (λ m. Scoped w i m) c.if-n-ne0.false c.requires, c.wide-p.ensures ∙ c.field.ensures, c.if-p-i.false)

pub returns : goal.returns
returns c =
    let w = c.args.w.now in
    let i = c.args.i in
    let s : Scoped w i 0 = subst (λ m. Scoped w i m) c.if-n-ne0.false c.requires in
    let v = c.field-v.ensures in
    let p : c.wide-p.result ≡ field w i first_field = c.wide-p.ensures ∙ c.field.ensures in
    let r : ref_ok w (names_at w i) (field w i value_field) ≡ true = ref-location w (names_at w i) (field w i value_field) (omega (arith, v, c.if-v-ge64.false)) ∙ lt-ltb (field w i value_field) (locs_in w) (omega (arith, v, c.if-word-v.false, c.word.ensures)) in
    let z : field w (field w i first_field) count_field ≡ 0 = ap (λ x. field w x count_field) (sym p) ∙ sym c.field-2.ensures ∙ c.if-field-ne0.false in
    let n : inner_ok w i (field w i first_field) (scope_at w i) ≡ true = inner-plain w i s (field w i first_field) (omega (arith, p, c.if-p-i.false)) z in
    λ e. out-rest w i r n ∙ c.plain_send.ensures e
