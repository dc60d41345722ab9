-- One of the definitions is the same.
use Prim.Native.Nat.{◌<◌}
use native.Mathlib.Omega.{arith}
use mathlib.Core.Path.{◌≡◌, refl, ap, sym, ◌∙◌}
use borrow.Author.Rules.{rules}
use borrow.Author.Tests.{tests}
use Rattle.std.proofs.lemmas.Iterator.{YieldsList-from_range, serves_from_Range}
use Rattle.std.proofs.lemmas.Iterator.Search.{any_from_yields_List}
use Rattle.terms.specs.Rules.{some}
use Rattle.terms.specs.Same.{same_def}
use Rattle.table.specs.Words.{defs_in}
use Rattle.table.specs.Meaning.{list_from, def_of, defs_of}
use Rattle.table.proofs.Ranges.{some-range}
use Rattle.calls_alike.proofs.defs.def_among.Goals as goal

pub any-requires-clause-callable : goal.any-requires-clause-callable
any-requires-clause-callable c =
    let n : c.wide.result ≡ defs_in c.args.v.now = c.wide.ensures ∙ c.word.ensures in
    let r = c.requires in
    serves_from_Range (λ x q r. search rules) (λ x b h. let f : x < defs_in c.args.v.now = omega (arith, n) in search (rules, r, f))

pub returns : goal.returns
unfolding defs_of
returns c =
    let k = c.args in
    let n = c.wide.result in
    let t = same_def (def_of k.w.now k.d) in
    let e : n ≡ defs_in k.v.now = c.wide.ensures ∙ c.word.ensures in
    any_from_yields_List (λ x. t (def_of k.v.now x)) _ _ _ c.any.ensures.ran (YieldsList-from_range 0 n n refl (omega arith)) (λ x b q h. search (rules, tests))
    ∙ sym (some-range t 0 n (def_of k.v.now))
    ∙ ap (λ m. some t (list_from 0 m (def_of k.v.now))) e
