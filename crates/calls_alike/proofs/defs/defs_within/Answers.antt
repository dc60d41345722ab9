-- Each definition is among the others.
use Prim.Native.Nat.{◌<◌}
use native.Mathlib.Omega.{arith}
use mathlib.Core.Path.{◌≡◌, refl, ap, sym, ◌∙◌}
use borrow.Author.Rules.{rules}
use borrow.Author.Tests.{tests}
use Rattle.std.proofs.lemmas.Iterator.{YieldsList-from_range, serves_from_Range}
use Rattle.std.proofs.lemmas.Iterator.Search.{all_from_yields_List}
use Rattle.terms.specs.Terms.{Def}
use Rattle.terms.specs.Rules.{some}
use Rattle.terms.specs.Same.{same_def, every, within}
use Rattle.table.specs.Words.{defs_in}
use Rattle.table.specs.Meaning.{list_from, def_of, defs_of}
use Rattle.table.proofs.Ranges.{every-range}
use Rattle.calls_alike.proofs.defs.defs_within.Goals as goal

pub all-requires-clause-callable : goal.all-requires-clause-callable
all-requires-clause-callable c =
    let n : c.wide.result ≡ defs_in c.args.w.now = c.wide.ensures ∙ c.word.ensures in
    let r = c.requires in
    serves_from_Range (λ x q r. search rules) (λ x b h. let f : x < defs_in c.args.w.now = omega (arith, n) in search (rules, r, f))

pub returns : goal.returns
unfolding within defs_of
returns c =
    let k = c.args in
    let n = c.wide.result in
    let t = λ (x : Def). some (same_def x) (defs_of k.v.now) in
    let e : n ≡ defs_in k.w.now = c.wide.ensures ∙ c.word.ensures in
    all_from_yields_List (λ x. t (def_of k.w.now x)) _ _ _ c.all.ensures.ran (YieldsList-from_range 0 n n refl (omega arith)) (λ x b q h. search (rules, tests))
    ∙ sym (every-range t 0 n (def_of k.w.now))
    ∙ ap (λ m. every t (list_from 0 m (def_of k.w.now))) e
