-- Question 5 over the script: identifiers and parameters in the table are those of the text, so they distinct exactly if those do.
-- By the definitions one after the other, from the number k on.
use Prim.Native.Nat.{ℕ, suc, ◌+◌, ◌-◌}
use native.Mathlib.Omega.{arith}
use mathlib.Core.List.{List, [], ◌∷◌, map}
use mathlib.Core.Bool.{Bool, ◌&&◌, and_assoc, and-true}
use mathlib.Core.Path.{◌≡◌, refl, ap, ap₂, sym, ◌∙◌}
use lib.ListN.{length}
use Rattle.terms.specs.Terms.{Def}
use Rattle.terms.specs.Terms.Def.{define}
use Rattle.terms.specs.Same.{every}
use Rattle.terms.specs.Letters.{distinct}
use Rattle.text.specs.Tree.{Tree}
use Rattle.text.specs.Questions.{params, identifier, defined_once, definition_count}
use Rattle.table.specs.Words.{defs_in, def_name, params_of}
use Rattle.table.specs.Meaning.{list_from}
use Rattle.table.specs.Valid.{below}
use Rattle.table.specs.Size.{size_p}
use Rattle.text_build.specs.Rows.{ids_of}
use Rattle.text_tree.specs.Pass.{top}
use Rattle.text_tree.specs.Asked.{apart}
use Rattle.text_tree.proofs.Whole.{DefsStand, Whole}

module _ (w : List ℕ) where
  names-are : (ds : List Def) (k i : ℕ) → DefsStand w ds k i → list_from k (length ds) (def_name w) ≡ map identifier ds
  unfolding list_from
  names-are [] k i s = refl
  names-are (define x us p ∷ ds) k i s =
      let e : suc k ≡ k + 1 = omega arith in
      rw (s.0.name, e, names-are ds (k + 1) (i - size_p p) s.1)

  -- the parameters of the definitions from k on, after those below k
  abbrev params_apart : ℕ → Bool
  params_apart d = distinct (params_of w d)

  params_are : (ds : List Def) (k i : ℕ) → DefsStand w ds k i → (below k params_apart && every (λ d. distinct (params d)) ds) ≡ below (k + length ds) params_apart
  unfolding below every
  params_are [] k i s = let e : k + 0 ≡ k = omega arith in rw e (and-true (below k params_apart))
  params_are (define x us p ∷ ds) k i s =
      let e : k + suc (length ds) ≡ k + 1 + length ds = omega arith in
      let f : suc k ≡ k + 1 = omega arith in
      let g : distinct us ≡ params_apart k = ap distinct (sym s.0.params) in
      rw (e, g)
      (sym (and_assoc (below k params_apart) (params_apart k) (every (λ d. distinct (params d)) ds))
      ∙ ap (λ n. below n params_apart && every (λ d. distinct (params d)) ds) f
      ∙ params_are ds (k + 1) (i - size_p p) s.1)

-- the identifiers that the script holds
pub ids-are : (t : Tree) (w : List ℕ) → Whole t w → ids_of w ≡ map identifier t.defs
unfolding ids_of definition_count
ids-are t w s = ap (λ n. list_from 0 n (def_name w)) s.defs ∙ names-are w t.defs 0 (top t) s.bodies

pub apart-is : (t : Tree) (w : List ℕ) → Whole t w → defined_once t.defs ≡ apart w
unfolding defined_once apart definition_count below
apart-is t w s =
    let n : 0 + length t.defs ≡ defs_in w = omega (arith, s.defs) in
    ap₂ ◌&&◌ (ap distinct (sym (ids-are t w s)))
    (params_are w t.defs 0 (top t) s.bodies ∙ ap (λ n. below n (params_apart w)) n)
