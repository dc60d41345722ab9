-- The loop's invariant: the parameters that are left, entered after those before them, make the scope.
use Prim.Native.Nat.{◌+◌, ◌-◌, ◌*◌}
use native.Mathlib.Omega.{arith}
use mathlib.Core.Path.{ap, ◌∙◌}
use Rattle.text_tree.specs.Pass.{params_from}
use Rattle.text_fill.proofs.Defs.{enter-few, scope-on, scope-end, scope-first}
use Rattle.table.specs.Words.{row_size, first_param, name_size}
use Rattle.text_fill.proofs.definitions.params_scope.Goals as goal

pub loop-j-init : goal.loop-j-init
loop-j-init c = (omega arith, scope-first _ _ _ _)

pub overflow_mul-k : goal.overflow_mul-k
overflow_mul-k c =
    let q = c.requires in
    let h = c.loop-j-test.true in
    omega arith

pub overflow_add-k : goal.overflow_add-k
overflow_add-k c =
    let q = c.requires in
    let h = c.loop-j-test.true in
    omega arith

pub overflow_mul-j : goal.overflow_mul-j
overflow_mul-j c =
    let q = c.requires in
    let h = c.loop-j-test.true in
    omega arith

pub overflow_add-k-in-loop-j : goal.overflow_add-k-in-loop-j
overflow_add-k-in-loop-j c =
    let q = c.requires in
    let h = c.loop-j-test.true in
    omega arith

pub entered-sc-requires : goal.entered-sc-requires
entered-sc-requires c =
    let q = c.requires in
    let h = c.loop-j-test.true in
    let l = c.loop-j.invariant.0 in
    (omega arith, omega arith)

pub loop-j-preserved : goal.loop-j-preserved
loop-j-preserved c =
    let h = c.loop-j-test.true in
    let l = c.loop-j in
    let e = c.entered-sc.ensures in
    let f = enter-few c.args.w.now l.sc (first_param + c.args.k * row_size + l.j * name_size) l.j l.invariant.0 in
    (rw e f, ap (λ z. params_from c.args.w.now c.args.k (l.j + 1) (c.args.n - (l.j + 1)) z) e ∙ scope-on c.args.w.now c.args.k c.args.n l.j l.sc h ∙ l.invariant.1)

pub returns : goal.returns
returns c =
    let l = c.loop-j in
    scope-end c.args.w.now c.args.k c.args.n l.j l.sc c.loop-j-test.false ∙ l.invariant.1
