-- The second pass of reading over a whole text: document 01, *Reading*. First the heads of all definitions, so that every call finds its definition;
-- then their bodies, then the located processes, in text order: the first part of the text stands at the highest place.
-- Serves inner contracts only.
use Rattle.std.specs.Prelude.{ℕ, zero, suc, ◌+◌, ◌-◌, ◌*◌, ◌≤◌, ◌<◌, List, [], ◌∷◌, ◌++◌, cond, ◌≡◌, ltb, length, set}
use Rattle.std.proofs.lemmas.List.Edits.{sets}
use Rattle.terms.specs.Names.{Name}
use Rattle.terms.specs.Terms.{Process, Def}
use Rattle.terms.specs.Terms.Process.{one, ◌∥◌}
use Rattle.terms.specs.Terms.Def.{define}
use Rattle.text.specs.Tree.{Located, Tree}
use Rattle.text.specs.Tree.Located.{at}
use Rattle.text.specs.Questions.{definition_count, parameter_count, part_count, component_count}
use Rattle.table.specs.Words.{row_size, parts_at, script_words, word, arity_of, name_at, defs_at, first_param, name_size}
use Rattle.table.specs.Valid.{index}
use Rattle.table.specs.Size.{size, size_p}
use Rattle.text_build.specs.declared.Scope.{Scope}
use Rattle.text_build.specs.Keys.{key_of}
use Rattle.text_build.specs.Tables.{key_words}
use Rattle.text_build.specs.Rows.{scope_names}
use Rattle.text_build.specs.Put.{offsets, loc_number, enter_loc, put}

-- the counts that the first pass finds within their limits
pub record Within (t : Tree) : Type 0 where
  pub definitions : definition_count t ≤ 32
  pub parameters : parameter_count t ≤ 4
  pub parts : part_count t ≤ 4_096
  pub components : component_count t ≤ 256

-- ── heads of definitions: number of parameters, place of the body, identifier, parameters ──
-- the parameters us of the definition k, from the j-th on
unfoldable pub put_params : List ℕ → ℕ → ℕ → List Name → List ℕ
put_params w k j [] = w
put_params w k j (u ∷ us) = put_params (sets w (first_param + k * row_size + j * name_size) (key_words (key_of u))) k (j + 1) us

unfoldable pub put_head : List ℕ → ℕ → ℕ → Name → List Name → List ℕ
put_head w k i x us = put_params (sets w (defs_at + k * row_size) (length us ∷ i ∷ key_words (key_of x))) k 0 us

-- definitions from number k on, the body of the first at i
unfoldable pub heads : List Def → ℕ → ℕ → List ℕ → List ℕ
heads [] k i w = w
heads (define x us p ∷ ds) k i w = heads ds (k + 1) (i - size_p p) (put_head w k i x us)

-- ── bodies: the parameters are in scope, each name once ──
abbrev pub no_scope : Scope
no_scope = record { n = 0; at = 0 ∷ 0 ∷ 0 ∷ 0 ∷ 0 ∷ 0 ∷ 0 ∷ 0 ∷ [] }

-- the name that stands at the word o goes behind the names in scope, unless it is among them
unfoldable pub enter_at : List ℕ → Scope → ℕ → Scope
enter_at w sc o =
    cond (ltb (index (scope_names w (offsets sc)) (name_at w o)) sc.n) sc (record { n = sc.n + 1; at = set sc.at sc.n o })

-- m parameters of the definition k from the j-th on
unfoldable pub params_from : List ℕ → ℕ → ℕ → ℕ → Scope → Scope
params_from w k j zero sc = sc
params_from w k j (suc m) sc = params_from w k (j + 1) m (enter_at w sc (first_param + k * row_size + j * name_size))

unfoldable pub param_scope : List ℕ → ℕ → Scope
param_scope w k = params_from w k 0 (arity_of w k) no_scope

unfoldable pub bodies : List Def → ℕ → ℕ → List ℕ → List ℕ
bodies [] k i w = w
bodies (define x us p ∷ ds) k i w = bodies ds (k + 1) (i - size_p p) (put p i (param_scope w k) w)

-- the place behind the bodies
unfoldable pub after_bodies : List Def → ℕ → ℕ
after_bodies [] i = i
after_bodies (define x us p ∷ ds) i = after_bodies ds (i - size_p p)

-- ── located processes: the location in front of the bracket, then those inside; nothing is in scope ──
unfoldable pub put_located : List ℕ → ℕ → Name → Process → List ℕ
put_located w i l p = put p i no_scope (enter_loc w l)

unfoldable pub brackets : List Located → ℕ → List ℕ → List ℕ
brackets [] i w = w
brackets (at l p ∷ ls) i w = brackets ls (i - size_p p) (put_located w i l p)

-- where the components stand: for each outermost part the number of its location and its place
unfoldable pub part_spots : ℕ → Process → ℕ → List (List ℕ)
part_spots l (one a) i = (l ∷ i ∷ []) ∷ []
part_spots l (a ∥ p) i = (l ∷ i ∷ []) ∷ part_spots l p (i - size a)

unfoldable pub spots : List Located → ℕ → List ℕ → List (List ℕ)
spots [] i w = []
spots (at l p ∷ ls) i w = part_spots (loc_number w l) p i ++ spots ls (i - size_p p) (put_located w i l p)

-- ── the whole: how many parts and definitions, then the passes ──
-- a script z whose words are zero up to the row n
pub record Blank (z : List ℕ) (n : ℕ) : Type 0 where
  pub long : length z ≡ script_words
  pub none : (o : ℕ) → o < parts_at + n * row_size → word z o ≡ 0

unfoldable pub started : List ℕ → Tree → List ℕ
started z t = set (set z 0 (part_count t)) 3 (definition_count t)

abbrev pub top : Tree → ℕ
top t = part_count t - 1

-- the script after the heads and bodies of the definitions
unfoldable pub defined : List ℕ → Tree → List ℕ
defined z t = bodies t.defs 0 (top t) (heads t.defs 0 (top t) (started z t))

abbrev pub behind : Tree → ℕ
behind t = after_bodies t.defs (top t)

unfoldable pub script_of : List ℕ → Tree → List ℕ
script_of z t = brackets t.located (behind t) (defined z t)

unfoldable pub spots_of : List ℕ → Tree → List (List ℕ)
spots_of z t = spots t.located (behind t) (defined z t)
