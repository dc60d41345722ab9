-- The numbers added up over a syntax tree are those that `text` defines by the places of its terms: `tree-numbers`.
-- By recursion on parts and processes: their places, the deepest of them, and how many components a process gives.
use Prim.Native.Nat.{ℕ, suc, ◌+◌, max}
use native.Mathlib.Omega.{arith}
use mathlib.Core.List.{List, [], ◌∷◌, ◌++◌, map, flat_map}
use mathlib.Core.Path.{◌≡◌, refl, ap, sym}
use lib.ListN.{length, length-append}
use Rattle.terms.specs.Names.{Name}
use Rattle.terms.specs.Rules.{split}
use Rattle.text.specs.Syntax.{Part, Process, Def, Located, Text}
use Rattle.text.specs.Syntax.Part.{stop, go, out, inp, call}
use Rattle.text.specs.Syntax.Process.{one, ◌∥◌}
use Rattle.text.specs.Syntax.Def.{define}
use Rattle.text.specs.Syntax.Located.{at}
use Rattle.text.specs.Tree.{Tree, settle, settle_p, settle_def, settle_at, settled, components, network_of}
use Rattle.text.specs.Questions.{Place, into, firsts, part_places, process_places, def_places, located_places, places, params, most, nesting, definition_count, parameter_count, part_count as parts_of, component_count}
use Rattle.text_parts.specs.Counts.{part_count, process_count}
use Rattle.text_scan.specs.Totals.{Totals, of_def, of_located, sum, tree_totals}

-- ── the largest of a measure ──
most-append : {A : Type 0} (f : A → ℕ) (xs ys : List A) → most f (xs ++ ys) ≡ max (most f xs) (most f ys)
unfolding most
most-append f [] ys = omega arith
most-append f (x ∷ xs) ys = omega (arith, most-append f xs ys)

abbrev deepest : List Place → ℕ
deepest ps = most (λ x. x.depth) ps

-- ── parts and processes ──
mutual
  unfolding part_places part_count

  part-places : (a : Part) (d : ℕ) (sc : List Name) → length (part_places (settle a) d sc) ≡ (part_count a).parts
  part-places stop d sc = refl
  part-places (go t v p) d sc = omega (arith, process-places p (suc d) sc)
  part-places (out c t v p q) d sc = omega (arith, length-append (process_places (settle_p p) (suc d) sc) (process_places (settle_p q) (suc d) sc), process-places p (suc d) sc, process-places q (suc d) sc)
  part-places (inp c t y p q) d sc = omega (arith, length-append (process_places (settle_p p) (suc d) (into sc y)) (process_places (settle_p q) (suc d) sc), process-places p (suc d) (into sc y), process-places q (suc d) sc)
  part-places (call i vs) d sc = refl

  process-places : (p : Process) (d : ℕ) (sc : List Name) → length (process_places (settle_p p) d sc) ≡ (process_count p).parts
  process-places (one a) d sc = part-places a d sc
  process-places (a ∥ p) d sc = omega (arith, length-append (part_places (settle a) d sc) (process_places (settle_p p) d sc), part-places a d sc, process-places p d sc)

-- d + 1 is the nesting of the outermost parts
mutual
  unfolding part_places part_count most

  part-depth : (a : Part) (d : ℕ) (sc : List Name) → deepest (part_places (settle a) (suc d) sc) ≡ d + (part_count a).nesting
  part-depth stop d sc = omega arith
  part-depth (go t v p) d sc = omega (arith, process-depth p (suc d) sc)
  part-depth (out c t v p q) d sc = omega (arith, most-append (λ x. x.depth) (process_places (settle_p p) (suc (suc d)) sc) (process_places (settle_p q) (suc (suc d)) sc), process-depth p (suc d) sc, process-depth q (suc d) sc)
  part-depth (inp c t y p q) d sc = omega (arith, most-append (λ x. x.depth) (process_places (settle_p p) (suc (suc d)) (into sc y)) (process_places (settle_p q) (suc (suc d)) sc), process-depth p (suc d) (into sc y), process-depth q (suc d) sc)
  part-depth (call i vs) d sc = omega arith

  process-depth : (p : Process) (d : ℕ) (sc : List Name) → deepest (process_places (settle_p p) (suc d) sc) ≡ d + (process_count p).nesting
  process-depth (one a) d sc = part-depth a d sc
  process-depth (a ∥ p) d sc = omega (arith, most-append (λ x. x.depth) (part_places (settle a) (suc d) sc) (process_places (settle_p p) (suc d) sc), part-depth a d sc, process-depth p d sc)

-- each outermost part becomes a component
part-width : (a : Part) → (part_count a).width ≡ 1
unfolding part_count
part-width stop = refl
part-width (go t v p) = refl
part-width (out c t v p q) = refl
part-width (inp c t y p q) = refl
part-width (call i vs) = refl

split-width : (l : Name) (p : Process) → length (split l (settle_p p)) ≡ (process_count p).width
unfolding split part_count
split-width l (one a) = sym (part-width a)
split-width l (a ∥ p) = omega (arith, part-width a, split-width l p)

-- ── definitions and located processes ──
defs-parts : (ds : List Def) → length (flat_map def_places (map settle_def ds)) ≡ (sum of_def ds).parts
unfolding flat_map def_places sum
defs-parts [] = refl
defs-parts (define i us p ∷ ds) = omega (arith, length-append (process_places (settle_p p) 1 (firsts [] us)) (flat_map def_places (map settle_def ds)), process-places p 1 (firsts [] us), defs-parts ds)

defs-depth : (ds : List Def) → deepest (flat_map def_places (map settle_def ds)) ≡ (sum of_def ds).nesting
unfolding flat_map def_places sum most
defs-depth [] = refl
defs-depth (define i us p ∷ ds) = omega (arith, most-append (λ x. x.depth) (process_places (settle_p p) 1 (firsts [] us)) (flat_map def_places (map settle_def ds)), process-depth p 0 (firsts [] us), defs-depth ds)

defs-number : (ds : List Def) → length (map settle_def ds) ≡ (sum of_def ds).definitions
unfolding sum
defs-number [] = refl
defs-number (define i us p ∷ ds) = omega (arith, defs-number ds)

defs-parameters : (ds : List Def) → most (λ d. length (params d)) (map settle_def ds) ≡ (sum of_def ds).parameters
unfolding sum most
defs-parameters [] = refl
defs-parameters (define i us p ∷ ds) = ap (max (length us)) (defs-parameters ds)

defs-components : (ds : List Def) → (sum of_def ds).components ≡ 0
unfolding sum
defs-components [] = refl
defs-components (define i us p ∷ ds) = omega (arith, defs-components ds)

located-parts : (ls : List Located) → length (flat_map located_places (map settle_at ls)) ≡ (sum of_located ls).parts
unfolding flat_map located_places sum
located-parts [] = refl
located-parts (at l p ∷ ls) = omega (arith, length-append (process_places (settle_p p) 1 []) (flat_map located_places (map settle_at ls)), process-places p 1 [], located-parts ls)

located-depth : (ls : List Located) → deepest (flat_map located_places (map settle_at ls)) ≡ (sum of_located ls).nesting
unfolding flat_map located_places sum most
located-depth [] = refl
located-depth (at l p ∷ ls) = omega (arith, most-append (λ x. x.depth) (process_places (settle_p p) 1 []) (flat_map located_places (map settle_at ls)), process-depth p 0 [], located-depth ls)

located-components : (ls : List Located) → length (flat_map components (map settle_at ls)) ≡ (sum of_located ls).components
unfolding flat_map components sum
located-components [] = refl
located-components (at l p ∷ ls) = omega (arith, length-append (split l (settle_p p)) (flat_map components (map settle_at ls)), split-width l p, located-components ls)

located-rest : (ls : List Located) → ((sum of_located ls).definitions ≡ 0) × ((sum of_located ls).parameters ≡ 0)
unfolding sum
located-rest [] = (refl, refl)
located-rest (at l p ∷ ls) = let h = located-rest ls in (omega arith, omega arith)

-- ── the numbers of a tree ──
pub totals-same : {a b c d e a' b' c' d' e' : ℕ} → a ≡ a' → b ≡ b' → c ≡ c' → d ≡ d' → e ≡ e'
    → ◌≡◌ {A = Totals} (record { nesting = a; parts = b; components = c; definitions = d; parameters = e }) (record { nesting = a'; parts = b'; components = c'; definitions = d'; parameters = e' })
totals-same f g h k l = λ i. record { nesting = f i; parts = g i; components = h i; definitions = k i; parameters = l i }

abbrev pub numbers : Tree → Totals
numbers t = record { nesting = nesting t; parts = parts_of t; components = component_count t; definitions = definition_count t; parameters = parameter_count t }

pub tree-numbers : (x : Text) → tree_totals x ≡ numbers (settled x)
unfolding tree_totals nesting parts_of component_count definition_count parameter_count places network_of
tree-numbers x =
    let r = located-rest x.located in
    totals-same
    (omega (arith, most-append (λ x. x.depth) (flat_map def_places (settled x).defs) (flat_map located_places (settled x).located), defs-depth x.defs, located-depth x.located))
    (omega (arith, length-append (flat_map def_places (settled x).defs) (flat_map located_places (settled x).located), defs-parts x.defs, located-parts x.located))
    (omega (arith, defs-components x.defs, located-components x.located))
    (omega (arith, defs-number x.defs))
    (omega (arith, defs-parameters x.defs))
