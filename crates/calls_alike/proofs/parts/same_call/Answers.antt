-- The identifiers, the numbers of arguments and the arguments are the same.
-- By taking the call apart.
use native.Mathlib.Omega.{arith}
use Prim.Native.Nat.{◌+◌, ◌*◌}
use mathlib.Core.List.{List}
use mathlib.Core.Path.{◌≡◌, sym, ◌∙◌}
use borrow.Author.Tests.{eqb-true}
use Rattle.terms.specs.Names.{Name}
use Rattle.terms.specs.Terms.{Value}
use Rattle.terms.specs.Terms.Part.{call}
use Rattle.table.specs.Words.{row_size, name_at, def_name, field, ids_at, value_field}
use Rattle.text_process.proofs.Heads.{place-small}
use Rattle.calls_alike.specs.Pieces.{args_seen, call_seen}
use Rattle.calls_alike.proofs.Decided.{never, carried, fails, shown, placed, told}
use Rattle.calls_alike.proofs.Fronts.{args-long}
use Rattle.calls_alike.proofs.Pieces.{call-args}
use Rattle.calls_alike.proofs.parts.same_call.Goals.{then-n-field, else-n-field}
use Rattle.calls_alike.proofs.parts.same_call.Goals as goal

name-is : {x y : Name} {a b : List Value} → call x a ≡ call y b → x ≡ y
name-is e = cc

args_are : {x y : Name} {a b : List Value} → call x a ≡ call y b → a ≡ b
args_are e = cc

call_same : {x y : Name} {a b : List Value} → x ≡ y → a ≡ b → call x a ≡ call y b
call_same p q = cc

pub field-n-requires : goal.field-n-requires
field-n-requires c = (place-small c.requires.places.0, omega arith)

pub field-requires : goal.field-requires
field-requires c = (place-small c.requires.places.0, omega arith)

pub field-requires-2 : goal.field-requires-2
field-requires-2 c = (place-small c.requires.places.1, omega arith)

pub field-requires-3 : goal.field-requires-3
field-requires-3 c = (place-small c.requires.places.1, omega arith)

pub same_args-requires-clause-n_bound : goal.same_args-requires-clause-n_bound
same_args-requires-clause-n_bound c =
    let k = c.args in
    let m : c.field-n.result ≡ c.field-3.result = elim c.if-n-field.branch [ then-n-field w ↦ w.if-n-field.true | else-n-field w ↦ eqb-true _ _ (sym w.value-is ∙ c.if-same_name.true) ] in
    let n = c.wide-then-same_name.ensures ∙ c.field-n.ensures in
    let o : field k.v.now.table.now k.j value_field ≡ c.wide-then-same_name.result = sym c.field-3.ensures ∙ sym m ∙ sym c.wide-then-same_name.ensures in
    let p = call-args k.w.now.table.now k.i k.w.now.vals c.requires.places.0 c.requires.i_value.0 in
    let q = call-args k.v.now.table.now k.j k.v.now.vals c.requires.places.1 c.requires.i_value.1 in
    (omega (arith, n, p.0), rw n p.1, rw o at q.1)

pub returns-then-same_name : goal.returns-then-same_name
unfolding call_seen def_name
returns-then-same_name c =
    let k = c.args in
    elim c.if-n-field.branch [
      | then-n-field w ↦
          (let d = placed (λ n. name_at k.w.now.table.now (ids_at + n * row_size)) (λ n. name_at k.v.now.table.now (ids_at + n * row_size)) (c.wide.ensures ∙ c.field.ensures) (c.wide-2.ensures ∙ c.field-2.ensures) w.same_name.ensures in
          carried (placed (args_seen k.w.now.table.now k.i k.w.now.vals) (args_seen k.v.now.table.now k.j k.v.now.vals) (c.wide-then-same_name.ensures ∙ c.field-n.ensures) (c.wide-then-same_name.ensures ∙ w.if-n-field.true ∙ c.field-3.ensures) c.same_args.ensures)
          (λ e. call_same (shown d (sym w.value-is ∙ c.if-same_name.true)) e) args_are)
      | else-n-field w ↦ absurd (w.if-n-field.false (eqb-true _ _ (sym w.value-is ∙ c.if-same_name.true)))
    ]

pub returns-else-same_name : goal.returns-else-same_name
unfolding call_seen def_name
returns-else-same_name c =
    let k = c.args in
    elim c.if-n-field.branch [
      | then-n-field w ↦
          (let d = placed (λ n. name_at k.w.now.table.now (ids_at + n * row_size)) (λ n. name_at k.v.now.table.now (ids_at + n * row_size)) (c.wide.ensures ∙ c.field.ensures) (c.wide-2.ensures ∙ c.field-2.ensures) w.same_name.ensures in
          told w.value-is (fails d (sym w.value-is ∙ c.if-same_name.false) name-is))
      | else-n-field w ↦
          (let p = (call-args k.w.now.table.now k.i k.w.now.vals c.requires.places.0 c.requires.i_value.0).0 in
          let q = (call-args k.v.now.table.now k.j k.v.now.vals c.requires.places.1 c.requires.i_value.1).0 in
          told c.if-same_name.false (never (λ e. w.if-n-field.false (c.field-n.ensures ∙ args-long k.w.now.table.now k.i k.w.now.vals k.v.now.table.now k.j k.v.now.vals _ _ p q (args_are e) ∙ sym c.field-3.ensures))))
    ]
