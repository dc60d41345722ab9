-- The first m of the four arguments are tested.
use Prim.Native.Nat.{min}
use native.Mathlib.Omega.{arith}
use mathlib.Core.Path.{refl, ap, ◌∙◌}
use borrow.Author.Rules.{rules}
use borrow.Author.Tests.{tests}
use Rattle.std.proofs.lemmas.Iterator.{YieldsList-from_range}
use Rattle.std.proofs.lemmas.Iterator.Search.{all_from_yields_List}
use Rattle.table.specs.Words.{arg_at}
use Rattle.text_tree.specs.Asked.{in_scope}
use Rattle.text_asked.proofs.Rows.{front-range}
use Rattle.text_asked.proofs.args_bound.Goals as goal

pub returns : goal.returns
returns c =
    let a = c.args in
    let n = c.min.result in
    all_from_yields_List (λ k. in_scope a.n (arg_at a.w.now a.i k)) _ _ _ c.all.ensures.ran (YieldsList-from_range 0 n n refl (omega arith)) (λ x b q k. search (rules, tests))
    ∙ front-range (in_scope a.n) (arg_at a.w.now a.i) a.m n (c.min.ensures ∙ ap (λ m. min m 4) c.wide.ensures)
