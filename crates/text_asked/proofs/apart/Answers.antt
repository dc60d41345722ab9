-- Identifiers differ, and the parameters of each definition.
-- The identifiers stand 24 words apart.
use Prim.Native.Nat.{ℕ}
use mathlib.Core.List.{List}
use mathlib.Core.Path.{◌≡◌, ap, sym, ◌∙◌}
use mathlib.Core.Bool.{true, false}
use borrow.Author.Rules.{rules}
use borrow.Author.Tests.{tests}
use Rattle.terms.specs.Letters.{distinct}
use Rattle.table.specs.Words.{defs_in, def_name, params_of, ids_at, row_size}
use Rattle.table.specs.Meaning.{list_from}
use Rattle.table.specs.Tests.{row_name}
use Rattle.text_build.specs.Rows.{ids_of}
use Rattle.text_tree.specs.Asked.{apart}
use Rattle.text_asked.proofs.Each.{each-below}
use Rattle.text_asked.proofs.apart.Goals as goal

ids-row : (w : List ℕ) (n : ℕ) → n ≡ defs_in w → distinct (list_from 0 n (row_name w ids_at row_size)) ≡ distinct (ids_of w)
unfolding ids_of def_name row_name
ids-row w n e = ap (λ m. distinct (list_from 0 m (def_name w))) e

pub returns-then-all_apart : goal.returns-then-all_apart
unfolding apart
returns-then-all_apart c =
    let w = c.args.w.now in
    let n = c.wide-n.ensures ∙ c.word.ensures in
    let h : distinct (ids_of w) ≡ true = sym (c.all_apart.ensures ∙ ids-row w _ n) ∙ c.if-all_apart.true in
    rw h (each-below (λ d. distinct (params_of w d)) _ _ n _ _ _ c.all.ensures.ran (λ x b q k. search (rules, tests)))

pub returns-else-all_apart : goal.returns-else-all_apart
unfolding apart
returns-else-all_apart c =
    let w = c.args.w.now in
    let n = c.wide-n.ensures ∙ c.word.ensures in
    let h : distinct (ids_of w) ≡ false = sym (c.all_apart.ensures ∙ ids-row w _ n) ∙ c.if-all_apart.false in
    rw h c.if-all_apart.false
