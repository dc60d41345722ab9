-- As many arguments, each the same.
use Prim.Native.Nat.{ℕ, ◌<◌}
use native.Mathlib.Omega.{arith}
use mathlib.Core.Path.{◌≡◌, refl}
use borrow.Author.Rules.{rules}
use borrow.Author.Tests.{tests}
use Rattle.std.proofs.lemmas.Iterator.{YieldsList-from_range, serves_from_Range, cases_from_all}
use Rattle.table.specs.Words.{arg_at}
use Rattle.text_process.specs.Values.{value_seen}
use Rattle.calls_alike.proofs.Decided.{all-decides, shown, unlike}
use Rattle.calls_alike.proofs.Fronts.{arg-ok, args-same, args-at}
use Rattle.calls_alike.proofs.parts.same_args.Goals as goal

pub all-requires-clause-callable : goal.all-requires-clause-callable
all-requires-clause-callable c =
    let k = c.args in
    let n = c.requires.n_bound in
    serves_from_Range (λ x q r. search rules)
    (λ x b e.
    let f : x < 4 = omega (arith, n.0) in
    let p = c.requires.places in
    let s = arg-ok k.w.now.table.now k.i k.n x n.0 n.1 e in
    let t = arg-ok k.v.now.table.now k.j k.n x n.0 n.2 e in
    search (rules, f, p, s, t))

pub returns : goal.returns
returns c =
    let k = c.args in
    let f = λ (m : ℕ). value_seen k.w.now.table.now k.i k.w.now.vals (arg_at k.w.now.table.now k.i m) in
    let g = λ (m : ℕ). value_seen k.v.now.table.now k.j k.v.now.vals (arg_at k.v.now.table.now k.j m) in
    all-decides f g k.n
    (cases_from_all _ _ _ (λ m. f m ≡ g m) (λ m. f m ≡ g m → ⊥) c.all.ensures.ran (YieldsList-from_range 0 k.n k.n refl (omega arith)) (λ x q e. search (rules, tests, shown)) (λ x q e. search (rules, tests, unlike)))
    (args-same k.w.now.table.now k.i k.w.now.vals k.v.now.table.now k.j k.v.now.vals k.n c.requires.n_bound.0)
    (args-at k.w.now.table.now k.i k.w.now.vals k.v.now.table.now k.j k.v.now.vals k.n c.requires.n_bound.0)
