-- A part's kind says which tests it has to pass; the scope comes first, since the others read it.
-- By the law of the head of each kind.
use Prim.Native.Nat.{ℕ, ◌<◌}
use native.Mathlib.Omega.{arith}
use mathlib.Core.Path.{◌≡◌, sym, ap, ◌∙◌}
use mathlib.Core.Bool.{true}
use lib.Dec.{leb}
use borrow.Author.Tests.{lt-leb}
use Rattle.table.specs.Words.{field, kind_field}
use Rattle.table_parts.specs.Tests.{slots_ok, rest_ok}
use Rattle.table.proofs.WordsHead.{head-go, head-out, head_in, head-call, head-stop}
use Rattle.table_parts.proofs.ValidParts.{part-is, part-scope, part-kind, rest-stop, scope-passes, scope-large, scope-outside}
use Rattle.table.proofs.ValidBool.{failed, passed}
use Rattle.table_parts.proofs.part_ok.Goals as goal

above4 : (k : ℕ) → (k ≡ 0 → ⊥) → (k ≡ 1 → ⊥) → (k ≡ 2 → ⊥) → (k ≡ 3 → ⊥) → (k ≡ 4 → ⊥) → 4 < k
above4 k p q r s t = omega arith

pub returns-then-n-gt8 : goal.returns-then-n-gt8
returns-then-n-gt8 c =
    let a = c.args in
    let w = a.w.now in
    let i = a.i in
    sym (part-scope w i (scope-large w i (omega (arith, c.if-n-gt8.true, c.wide-n.ensures, c.field.ensures))))

pub returns-then-not-slots_in : goal.returns-then-not-slots_in
returns-then-not-slots_in c =
    let a = c.args in
    let w = a.w.now in
    let i = a.i in
    sym (part-scope w i (scope-outside w i (failed c.if-not-slots_in.true c.slots_in.ensures)))

pub returns-in-0 : goal.returns-in-0
returns-in-0 c =
    let a = c.args in
    let w = a.w.now in
    let i = a.i in
    let k : field w i kind_field ≡ 0 = sym c.field-k.ensures ∙ c.in-0.is in
    let s : slots_ok w i ≡ true = scope-passes w i (omega (arith, c.if-n-gt8.false, c.wide-n.ensures, c.field.ensures)) (passed c.if-not-slots_in.false c.slots_in.ensures) in
    let t : leb (field w i kind_field) 4 ≡ true = rw k in
    let z = head-stop w i (λ x. omega (arith, x, k)) (λ x. omega (arith, x, k)) (λ x. omega (arith, x, k)) (λ x. omega (arith, x, k)) in
    c.end_ok.ensures ∙ sym (part-is w i t s ∙ ap (rest_ok w i) z ∙ rest-stop w i)

pub returns-in-1 : goal.returns-in-1
returns-in-1 c =
    let a = c.args in
    let w = a.w.now in
    let i = a.i in
    let k : field w i kind_field ≡ 1 = sym c.field-k.ensures ∙ c.in-1.is in
    let s : slots_ok w i ≡ true = scope-passes w i (omega (arith, c.if-n-gt8.false, c.wide-n.ensures, c.field.ensures)) (passed c.if-not-slots_in.false c.slots_in.ensures) in
    let t : leb (field w i kind_field) 4 ≡ true = rw k in
    c.go_ok.ensures ∙ ap (rest_ok w i) (sym (head-go w i k)) ∙ sym (part-is w i t s)

pub returns-in-2 : goal.returns-in-2
returns-in-2 c =
    let a = c.args in
    let w = a.w.now in
    let i = a.i in
    let k : field w i kind_field ≡ 2 = sym c.field-k.ensures ∙ c.in-2.is in
    let s : slots_ok w i ≡ true = scope-passes w i (omega (arith, c.if-n-gt8.false, c.wide-n.ensures, c.field.ensures)) (passed c.if-not-slots_in.false c.slots_in.ensures) in
    let t : leb (field w i kind_field) 4 ≡ true = rw k in
    c.out_ok.ensures ∙ ap (rest_ok w i) (sym (head-out w i k)) ∙ sym (part-is w i t s)

pub returns-in-3 : goal.returns-in-3
returns-in-3 c =
    let a = c.args in
    let w = a.w.now in
    let i = a.i in
    let k : field w i kind_field ≡ 3 = sym c.field-k.ensures ∙ c.in-3.is in
    let s : slots_ok w i ≡ true = scope-passes w i (omega (arith, c.if-n-gt8.false, c.wide-n.ensures, c.field.ensures)) (passed c.if-not-slots_in.false c.slots_in.ensures) in
    let t : leb (field w i kind_field) 4 ≡ true = rw k in
    c.in_ok.ensures ∙ ap (rest_ok w i) (sym (head_in w i k)) ∙ sym (part-is w i t s)

pub returns-in-4 : goal.returns-in-4
returns-in-4 c =
    let a = c.args in
    let w = a.w.now in
    let i = a.i in
    let k : field w i kind_field ≡ 4 = sym c.field-k.ensures ∙ c.in-4.is in
    let s : slots_ok w i ≡ true = scope-passes w i (omega (arith, c.if-n-gt8.false, c.wide-n.ensures, c.field.ensures)) (passed c.if-not-slots_in.false c.slots_in.ensures) in
    let t : leb (field w i kind_field) 4 ≡ true = rw k in
    c.call_ok.ensures ∙ ap (rest_ok w i) (sym (head-call w i k)) ∙ sym (part-is w i t s)

pub returns-in_default : goal.returns-in_default
returns-in_default c =
    let a = c.args in
    let w = a.w.now in
    let i = a.i in
    let r = c.in_default.in_default-own.rest in
    let k = c.field-k.ensures in
    let o : 4 < c.field-k.result = above4 c.field-k.result r.0.0.0.0.1 r.0.0.0.1 r.0.0.1 r.0.1 r.1 in
    sym (part-kind w i (lt-leb (field w i kind_field) 4 (omega (arith, k, o))))
