-- The same location, and the same besides.
-- By what a component is made of.
use mathlib.Core.Path.{◌≡◌, ap, sym, ◌∙◌}
use Rattle.terms.specs.Names.{Name}
use Rattle.terms.specs.Terms.{Process, Mark}
use Rattle.terms.specs.Terms.Component.{comp}
use Rattle.table.specs.Meaning.{means}
use Rattle.calls_alike.proofs.Decided.{carried, fails, shown, one_answer, equal-decides}
use Rattle.calls_same.proofs.Parted.{comp-is}
use Rattle.calls_same.proofs.comps.same_comp.Goals as goal

loc-is : {x y : Name} {m n : Mark} {p q : Process} → comp x m p ≡ comp y n q → x ≡ y
loc-is e = cc

held-is : {x y : Name} {m n : Mark × Process} → comp x m.0 m.1 ≡ comp y n.0 n.1 → m ≡ n
held-is {x} {y} {m} {n} e =
    let a : m.0 ≡ n.0 = cc in
    let b : m.1 ≡ n.1 = cc in
    ap (λ z. (z, m.1)) a ∙ ap (λ z. (n.0, z)) b

comp-same : {x y : Name} {m n : Mark × Process} → x ≡ y → m ≡ n → comp x m.0 m.1 ≡ comp y n.0 n.1
comp-same p q = rw (p, q)

pub returns-then-same_location : goal.returns-then-same_location
returns-then-same_location c =
    let k = c.args in
    let p = comp-is k.w.now k.c in
    let q = comp-is k.v.now k.d in
    let l = shown c.same_location.ensures c.if-same_location.true in
    one_answer (carried c.same_held.ensures (λ e. p ∙ comp-same l e ∙ sym q) (λ e. held-is (sym p ∙ e ∙ q))) (equal-decides (means k.w.now k.c) (means k.v.now k.d))

pub returns-else-same_location : goal.returns-else-same_location
returns-else-same_location c =
    let k = c.args in
    let p = comp-is k.w.now k.c in
    let q = comp-is k.v.now k.d in
    one_answer (fails c.same_location.ensures c.if-same_location.false (λ e. loc-is (sym p ∙ e ∙ q))) (equal-decides (means k.w.now k.c) (means k.v.now k.d))
