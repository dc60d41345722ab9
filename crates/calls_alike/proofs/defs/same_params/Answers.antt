-- As many parameters, each with the same name.
use Prim.Native.Nat.{ℕ, ◌+◌, ◌*◌, ◌<◌, ◌≤◌}
use native.Mathlib.Omega.{arith}
use mathlib.Core.Path.{◌≡◌, refl, sym, ◌∙◌}
use borrow.Author.Rules.{rules}
use borrow.Author.Tests.{tests, ne_eqb}
use Rattle.std.proofs.lemmas.Iterator.{YieldsList-from_range, serves_from_Range, cases_from_all}
use Rattle.table.specs.Words.{row_size, name_at, arity_of, first_param, name_size}
use Rattle.table.proofs.Tests.{script-fine, def-fine}
use Rattle.calls_alike.proofs.Decided.{never, all-decides, shown, unlike}
use Rattle.calls_alike.proofs.Fronts.{params_same, params-at, params-long}
use Rattle.calls_alike.proofs.defs.same_params.Goals as goal

pub arity_of-n-requires : goal.arity_of-n-requires
arity_of-n-requires c = omega (arith, (script-fine c.args.w.now c.requires.0).defs, c.requires.1)

pub arity_of-requires : goal.arity_of-requires
arity_of-requires c = omega (arith, (script-fine c.args.v.now c.requires.2).defs, c.requires.3)

pub all-requires-clause-callable : goal.all-requires-clause-callable
all-requires-clause-callable c =
    let k = c.args in
    let d : k.d < 32 = omega (arith, (script-fine k.w.now c.requires.0).defs, c.requires.1) in
    let e : k.e < 32 = omega (arith, (script-fine k.v.now c.requires.2).defs, c.requires.3) in
    let n : c.wide.result ≤ 4 = omega (arith, c.wide.ensures, c.arity_of-n.ensures, (def-fine k.w.now c.requires.0 k.d c.requires.1).few) in
    serves_from_Range (λ x q r. search rules) (λ x b h. let f : x < 4 = omega arith in search (rules, d, e, f))

pub returns-then-n-arity_of : goal.returns-then-n-arity_of
returns-then-n-arity_of c =
    let k = c.args in
    let n = c.wide.result in
    let f = λ (m : ℕ). name_at k.w.now (first_param + k.d * row_size + m * name_size) in
    let g = λ (m : ℕ). name_at k.v.now (first_param + k.e * row_size + m * name_size) in
    let p : arity_of k.w.now k.d ≡ n = sym c.arity_of-n.ensures ∙ sym c.wide.ensures in
    let q : arity_of k.v.now k.e ≡ n = sym c.arity_of.ensures ∙ sym c.if-n-arity_of.true ∙ sym c.wide.ensures in
    let few : n ≤ 4 = omega (arith, p, (def-fine k.w.now c.requires.0 k.d c.requires.1).few) in
    all-decides f g n
    (cases_from_all _ _ _ (λ m. f m ≡ g m) (λ m. f m ≡ g m → ⊥) c.all.ensures.ran (YieldsList-from_range 0 n n refl (omega arith)) (λ x q e. search (rules, tests, shown)) (λ x q e. search (rules, tests, unlike)))
    (params_same k.w.now k.d k.v.now k.e n few p q)
    (λ e m l. params-at k.w.now k.d k.v.now k.e n few p q m l e)

pub returns-else-n-arity_of : goal.returns-else-n-arity_of
returns-else-n-arity_of c =
    let k = c.args in
    let m = (def-fine k.w.now c.requires.0 k.d c.requires.1).few in
    let n = (def-fine k.v.now c.requires.2 k.e c.requires.3).few in
    rw (ne_eqb _ _ c.if-n-arity_of.false) (never (λ f. c.if-n-arity_of.false (c.arity_of-n.ensures ∙ params-long k.w.now k.d k.v.now k.e m n f ∙ sym c.arity_of.ensures)))
