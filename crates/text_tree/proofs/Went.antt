-- What the writes of the second pass keep of a whole script: the counts of parts and definitions, the definitions' heads, the numbers of names, and the
-- rows from n on. What stands in those rows goes on standing. By the frames of the single writes.
use Prim.Native.Nat.{ℕ, suc, ◌+◌, ◌-◌, ◌*◌, ◌≤◌, ◌<◌}
use native.Mathlib.Omega.{arith}
use mathlib.Core.List.{List, [], ◌∷◌}
use mathlib.Core.Path.{◌≡◌, refl, sym, ◌∙◌}
use lib.ListN.{length}
use Rattle.terms.specs.Names.{Name}
use Rattle.terms.specs.Terms.{Process, Def}
use Rattle.terms.specs.Terms.Def.{define}
use Rattle.text.specs.Questions.{firsts}
use Rattle.table.specs.Words.{row_size, parts_at, word}
use Rattle.table.specs.Size.{size_p}
use Rattle.text_build.specs.Rows.{scope_names, Stands}
use Rattle.text_build.specs.Growth.{place_listed, Grown, SameRows, Making}
use Rattle.text_build.specs.Put.{offsets}
use Rattle.text_build.proofs.Places.{Fit}
use Rattle.text_build.proofs.Kept.{kept}
use Rattle.text_build.proofs.Grows.{grown-none, grown-then, Grew}
use Rattle.text_build.proofs.Puts.{fit_on}
use Rattle.text_tree.specs.Pass.{param_scope}
use Rattle.text_tree.proofs.Whole.{DefStands, DefsStand, LocatedStands}
use Rattle.text_tree.proofs.Sizes.{size_defs}
use Rattle.text_tree.proofs.Heads.{HeadStands, head-kept, FewParams, Between}
use Rattle.text_tree.proofs.Params.{param-scope, param-same}

-- from w to v, rows below n and names were written
pub record Went (w v : List ℕ) (n : ℕ) : Type 0 where
  pub grown : Grown w v
  pub making : Making v
  pub parts : word v 0 ≡ word w 0
  pub defs : word v 3 ≡ word w 3
  pub between : Between w v
  pub above : (o : ℕ) → parts_at + n * row_size ≤ o → word v o ≡ word w o

pub went-none : (w : List ℕ) (n : ℕ) → Making w → Went w w n
went-none w n m = record { grown = grown-none w; making = m; parts = refl; defs = refl; between = λ o a b. refl; above = λ o a. refl }

pub went_then : {w v u : List ℕ} {n m : ℕ} (k : ℕ) → Went w v n → Went v u m → n ≤ k → m ≤ k → Went w u k
went_then k a b l h = record {
  grown = grown-then a.grown b.grown;
  making = b.making;
  parts = b.parts ∙ a.parts;
  defs = b.defs ∙ a.defs;
  between = λ o p q. b.between o p q ∙ a.between o p q;
  above = λ o p. b.above o (omega arith) ∙ a.above o (omega arith);
}

pub went-grew : {w v : List ℕ} {low i : ℕ} → Grew w v low i → Went w v (suc i)
went-grew g = record { grown = g.grown; making = g.making; parts = g.frame.parts; defs = g.frame.defs; between = g.frame.between; above = g.frame.above }

rows_same : (w v : List ℕ) (n low i : ℕ) → Went w v n → n ≤ low → SameRows w v low i
rows_same w v n low i g h j k a b l = g.above (parts_at + j * row_size + k) (omega arith)

-- ── what stands goes on standing ──
module _ (w v : List ℕ) (n : ℕ) (g : Went w v n) where
  stands_on : (p : Process) (i : ℕ) (os : List ℕ) (ys : List Name) → n ≤ suc i - size_p p → size_p p ≤ suc i
      → scope_names w os ≡ ys
      → scope_names v os ≡ ys
      → Fit (place_listed w) p 1 ys
      → Stands w p i os
      → Stands v p i os
  stands_on p i os ys h r a b f s = kept w v g.grown p i 1 os (rows_same w v n (suc i - size_p p) i g h) (b ∙ sym a) (rw a f) r s

  listed-on : (p : Process) (ys : List Name) → Fit (place_listed w) p 1 ys → Fit (place_listed v) p 1 ys
  listed-on p ys f = fit_on w v g.grown p 1 ys ys refl f

  pub def-on : (x : Name) (us : List Name) (p : Process) (k i : ℕ) → n ≤ suc i - size_p p → k < 32 → length us ≤ 4 → DefStands w x us p k i → DefStands v x us p k i
  def-on x us p k i h c few d =
      let hw : HeadStands w x us k i = record { name = d.name; arity = d.arity; body = d.body; params = d.params } in
      let hv : HeadStands v x us k i = head-kept w v x us k i few (λ o a b. g.between o (omega arith) (omega arith)) hw in
      let e : param_scope v k ≡ param_scope w k = param-same w x us k i c few hw v g.between in
      let sv : scope_names v (offsets (param_scope v k)) ≡ firsts [] us = (param-scope v x us k i c few hv).names in
      record {
        name = hv.name;
        arity = hv.arity;
        body = hv.body;
        params = hv.params;
        scope = sv;
        within = rw e d.within;
        stands = rw e (stands_on p i (offsets (param_scope w k)) (firsts [] us) h d.room d.scope (rw e at sv) d.listed d.stands);
        listed = listed-on p (firsts [] us) d.listed;
        room = d.room;
      }

  -- all of them, where the rows of the last lie above n
  pub defs-on : (ds : List Def) (k i m : ℕ) → i ≡ m - 1 → n + size_defs ds ≤ m → k + length ds ≤ 32 → FewParams ds → DefsStand w ds k i → DefsStand v ds k i
  unfolding size_defs
  defs-on [] k i m e h c few d = tt
  defs-on (define x us p ∷ ds) k i m e h c few d =
      let r = d.0.room in
      (def-on x us p k i (omega arith) (omega arith) few.0 d.0, defs-on ds (k + 1) (i - size_p p) (m - size_p p) (omega arith) (omega arith) (omega arith) few.1 d.1)

  pub located-on : (l : Name) (p : Process) (i : ℕ) → n ≤ suc i - size_p p → LocatedStands w l p i → LocatedStands v l p i
  located-on l p i h d = record {
    known = g.grown.locs-on l d.known;
    stands = stands_on p i [] [] h d.room refl refl d.listed d.stands;
    listed = listed-on p [] d.listed;
    room = d.room;
  }
