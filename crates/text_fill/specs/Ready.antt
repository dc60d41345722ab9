-- A text that has the form (question 2) and keeps the limits that the scan knows, and what stands at a position of it.
-- Serves inner contracts only.
use Rattle.std.specs.Prelude.{ℕ, ◌+◌, ◌-◌, ◌≤◌, List, [], ◌∷◌, false, ◌≡◌, length, drop, set}
use Rattle.terms.specs.Names.{Name}
use Rattle.terms.specs.Terms.{Def}
use Rattle.terms.specs.Terms.Def.{define}
use Rattle.text.specs.Tokens.{Token, lex, opens, comma, closes}
use Rattle.text.specs.Tokens.Token.{sign}
use Rattle.text.specs.Syntax as S
use Rattle.text.specs.Syntax.{Process, Text}
use Rattle.text.specs.Tree.{Tree, settle_p, settle_def, settled}
use Rattle.text.specs.Grammar.{next}
use Rattle.text.specs.Write.{name_t, joined_t, list_t, def_t, network_t, tokens}
use Rattle.text.specs.WellFormed.{WellDef, WellText}
use Rattle.table.specs.Size.{size_p}
use Rattle.text_build.specs.Put.{put}
use Rattle.text_tree.specs.Pass.{Within, put_head, heads, params_from, no_scope, after_bodies, brackets, spots}
use Rattle.text_fill.specs.declared.Passed.{Passed}
use Rattle.text_fill.specs.Spread.{Spread}

pub record Ready (s : List ℕ) : Type 0 where
  pub text : Text
  pub is : lex s ≡ tokens text
  pub well : WellText text
  pub within : Within (settled text)

-- its terms
abbrev pub tree_in : {s : List ℕ} → Ready s → Tree
tree_in x = settled x.text

-- a definition stands at a position
pub record DefAt (s : List ℕ) (at : ℕ) : Type 0 where
  pub name : Name
  pub params : List Name
  pub body : Process
  pub left : List Token
  pub is : lex (drop at s) ≡ def_t (S.define name params body) left
  pub well : WellDef (settle_def (S.define name params body))
  pub few : length params ≤ 4

-- names joined by commas and closed by `)` stand at a position, at most 4 with those before them
pub record NamesAt (s : List ℕ) (at j : ℕ) : Type 0 where
  pub first : Name
  pub more : List Name
  pub left : List Token
  pub is : lex (drop at s) ≡ joined_t comma name_t first more (sign closes ∷ left)
  pub few : j + length (first ∷ more) ≤ 4

-- nothing, or names in brackets
pub record ParamsAt (s : List ℕ) (at : ℕ) : Type 0 where
  pub what : List Name
  pub left : List Token
  pub is : lex (drop at s) ≡ list_t name_t what left
  pub over : next opens left ≡ false
  pub few : length what ≤ 4

-- its head is written at number k, with its body at i
pub record HeadPut (s w v : List ℕ) (k i : ℕ) (r : Passed) (x : Name) (us : List Name) (p : Process) (left : List Token) : Type 0 where
  pub left_is : lex (drop r.end s) ≡ left
  pub after : v ≡ put_head w k i x us
  pub place : r.place ≡ i - size_p (settle_p p)

-- its body is put at i, with as many parameters in scope as it has
pub record BodyPut (s w v : List ℕ) (k i : ℕ) (r : Passed) (us : List Name) (p : Process) (left : List Token) : Type 0 where
  pub left_is : lex (drop r.end s) ≡ left
  pub after : v ≡ put (settle_p p) i (params_from w k 0 (length us) no_scope) w
  pub place : r.place ≡ i - size_p (settle_p p)

-- the bodies of definitions from number k on, the first at i, each with as many parameters in scope as it has
unfoldable pub bodies_by : List Def → ℕ → ℕ → List ℕ → List ℕ
bodies_by [] k i w = w
bodies_by (define x us p ∷ ds) k i w = bodies_by ds (k + 1) (i - size_p p) (put p i (params_from w k 0 (length us) no_scope) w)

pub record BodiesPut (s w v : List ℕ) (i : ℕ) (r : Passed) (x : Text) : Type 0 where
  pub left_is : lex (drop r.end s) ≡ network_t x.located
  pub after : v ≡ bodies_by (settled x).defs 0 i w
  pub place : r.place ≡ after_bodies (settled x).defs i

-- the three passes, the first part at i
pub record AllPut (w v : List ℕ) (i : ℕ) (out after : List (List ℕ)) (r : ℕ) (t : Tree) : Type 0 where
  pub script : v ≡ brackets t.located (after_bodies t.defs i) (bodies_by t.defs 0 i (heads t.defs 0 i w))
  pub gathered : Spread out after 0 r (spots t.located (after_bodies t.defs i) (bodies_by t.defs 0 i (heads t.defs 0 i w)))

-- the three passes, into the script w
abbrev pub defined : List ℕ → ℕ → ℕ → Tree → List ℕ
defined w parts n t = bodies_by t.defs 0 (parts - 1) (heads t.defs 0 (parts - 1) (set (set w 0 parts) 3 n))

pub record Filled (w v : List ℕ) (parts n : ℕ) (out after : List (List ℕ)) (r : ℕ) (t : Tree) : Type 0 where
  pub script : v ≡ brackets t.located (after_bodies t.defs (parts - 1)) (defined w parts n t)
  pub gathered : Spread out after 0 r (spots t.located (after_bodies t.defs (parts - 1)) (defined w parts n t))
