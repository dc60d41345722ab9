-- What stands in a script after the second pass over a text, all in terms of the last script: definitions, located processes, names.
use Prim.Native.Nat.{ℕ, suc, ◌+◌, ◌-◌, ◌≤◌}
use mathlib.Core.List.{List, [], ◌∷◌}
use mathlib.Core.Bool.{true}
use mathlib.Core.Path.{◌≡◌}
use lib.ListN.{length}
use Rattle.terms.specs.Names.{Name}
use Rattle.terms.specs.Terms.{Process, Def}
use Rattle.terms.specs.Terms.Def.{define}
use Rattle.text.specs.Tree.{Located, Tree}
use Rattle.text.specs.Tree.Located.{at}
use Rattle.text.specs.Questions.{firsts, channels, locations, part_count, definition_count}
use Rattle.table.specs.Words.{word, arity_of, body_of, def_name, params_of}
use Rattle.table.specs.Size.{size_p}
use Rattle.text_build.specs.Rows.{locs_of, chans_of, scope_names, Stands}
use Rattle.text_build.specs.Growth.{loc_listed, place_listed, Making}
use Rattle.text_build.specs.Put.{offsets}
use Rattle.text_build.proofs.Places.{Fit}
use Rattle.text_build.proofs.Passes.{InScript}
use Rattle.text_tree.specs.Pass.{param_scope, top, behind}

-- the definition k, its body at i
pub record DefStands (w : List ℕ) (x : Name) (us : List Name) (p : Process) (k i : ℕ) : Type 0 where
  pub name : def_name w k ≡ x
  pub arity : arity_of w k ≡ length us
  pub body : body_of w k ≡ i
  pub params : params_of w k ≡ us
  pub scope : scope_names w (offsets (param_scope w k)) ≡ firsts [] us
  pub within : InScript (offsets (param_scope w k))
  pub stands : Stands w p i (offsets (param_scope w k))
  pub listed : Fit (place_listed w) p 1 (firsts [] us)
  pub room : size_p p ≤ suc i

-- definitions from number k on, the body of the first at i
abbrev pub DefsStand : List ℕ → List Def → ℕ → ℕ → Type 0
DefsStand w [] k i = Unit {0}
DefsStand w (define x us p ∷ ds) k i = DefStands w x us p k i × DefsStand w ds (k + 1) (i - size_p p)

-- the located process at i
pub record LocatedStands (w : List ℕ) (l : Name) (p : Process) (i : ℕ) : Type 0 where
  pub known : loc_listed w l ≡ true
  pub stands : Stands w p i []
  pub listed : Fit (place_listed w) p 1 []
  pub room : size_p p ≤ suc i

abbrev pub AllStand : List ℕ → List Located → ℕ → Type 0
AllStand w [] i = Unit {0}
AllStand w (at l p ∷ ls) i = LocatedStands w l p i × AllStand w ls (i - size_p p)

pub record Whole (t : Tree) (w : List ℕ) : Type 0 where
  pub making : Making w
  pub parts : word w 0 ≡ part_count t
  pub few : part_count t ≤ 4_096
  pub defs : word w 3 ≡ definition_count t
  pub bodies : DefsStand w t.defs 0 (top t)
  pub located : AllStand w t.located (behind t)
  pub locs : locs_of w ≡ locations t
  pub chans : chans_of w ≡ channels t
