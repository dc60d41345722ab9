-- Located processes at a position of a text, and what is written of them.
-- Serves inner contracts only.
use Rattle.std.specs.Prelude.{ℕ, ◌-◌, List, [], ◌∷◌, map, ◌≡◌, drop}
use Rattle.terms.specs.Names.{Name}
use Rattle.text.specs.Tokens.{Token, lex, bar, dot}
use Rattle.text.specs.Tokens.Token.{sign}
use Rattle.text.specs.Syntax.{Process, Located}
use Rattle.text.specs.Syntax.Located.{at}
use Rattle.text.specs.Tree.{settle_p, settle_at}
use Rattle.text.specs.Write.{joined_t, located_t}
use Rattle.text.specs.WellFormed.{Each, WellLocated}
use Rattle.table.specs.Size.{size_p}
use Rattle.text_build.specs.Put.{loc_number}
use Rattle.text_put.specs.Opened.{ProcessPut}
use Rattle.text_tree.specs.Pass.{no_scope, put_located, part_spots, brackets, spots}
use Rattle.text_fill.specs.declared.Spotted.{Spotted}
use Rattle.text_fill.specs.Spread.{Spread}

pub record LocatedAt (s : List ℕ) (o : ℕ) : Type 0 where
  pub name : Name
  pub body : Process
  pub left : List Token
  pub is : lex (drop o s) ≡ located_t (at name body) left
  pub well : WellLocated (settle_at (at name body))

-- located processes joined by `|` up to the dot
pub record NetworkAt (s : List ℕ) (o : ℕ) : Type 0 where
  pub first : Located
  pub more : List Located
  pub is : lex (drop o s) ≡ joined_t bar located_t first more (sign dot ∷ [])
  pub well : Each WellLocated (map settle_at (first ∷ more))

-- a process is put, and the places of its outermost parts are gathered
pub record OuterPut (s w v : List ℕ) (i l : ℕ) (out after : List (List ℕ)) (n : ℕ) (r : Spotted) (p : Process) (us : List Token) : Type 0 where
  pub placed : ProcessPut s w v i no_scope (record { end = r.end; low = r.low }) p us
  pub gathered : Spread out after n r.n (part_spots l (settle_p p) i)

pub record LocatedPut (s w v : List ℕ) (i : ℕ) (out after : List (List ℕ)) (n : ℕ) (r : Spotted) (l : Name) (p : Process) (us : List Token) : Type 0 where
  pub left_is : lex (drop r.end s) ≡ us
  pub script : v ≡ put_located w i l (settle_p p)
  pub place : r.low ≡ i - size_p (settle_p p)
  pub gathered : Spread out after n r.n (part_spots (loc_number w l) (settle_p p) i)

pub record NetworkPut (w v : List ℕ) (i : ℕ) (out after : List (List ℕ)) (r : ℕ) (ls : List Located) : Type 0 where
  pub script : v ≡ brackets (map settle_at ls) i w
  pub gathered : Spread out after 0 r (spots (map settle_at ls) i w)
