-- What the writes of the second pass keep of the tables: a name entered changes one table by `into`, a row none.
-- By the laws of entering, and by where the words of the tables lie.
use Prim.Native.Nat.{ℕ, ◌+◌, ◌*◌, ◌≤◌, ◌<◌, min}
use native.Mathlib.Omega.{arith}
use mathlib.Core.List.{List, [], ◌∷◌, ◌++◌}
use mathlib.Core.Bool.{Bool, true, false, cond}
use mathlib.Core.Path.{◌≡◌, refl, ap, sym, ◌∙◌}
use borrow.Author.Tests.{ltb-true, lt-ltb}
use lib.Dec.{ltb}
use lib.ListN.{length, set, length-append}
use lib.Seq.{sets}
use Rattle.terms.specs.Names.{Name}
use Rattle.terms.specs.Letters.{member}
use Rattle.text.specs.Questions.{into}
use Rattle.table.specs.declared.Key.{Key}
use Rattle.table.specs.Words.{row_size, chans_at, locs_at, parts_at, word, name_at, loc_name, chan_name, def_name, ids_at, name_size}
use Rattle.table.specs.Meaning.{list_from}
use Rattle.table.specs.Tests.{key_name, row_name}
use Rattle.table.specs.Valid.{index}
use Rattle.table.proofs.Tests.{length-list_from}
use Rattle.text_build.specs.Tables.{key_words, held_in, number_in, add_key, enlist}
use Rattle.text_build.specs.Rows.{locs_of, chans_of, ids_of, chan_known}
use Rattle.text_build.specs.Growth.{loc_listed, Grown, Frame, Making}
use Rattle.text_build.proofs.Writes.{frame_then, frame_row}
use Rattle.table.proofs.Stores.{set_out, sets-under}
use Rattle.text_build.proofs.Enlist.{list_same, index-into, names, names_same, Entered, entered, came-within, index-came}

-- ── the tables ──
locs-are : (w : List ℕ) → locs_of w ≡ names w locs_at 1
unfolding locs_of loc_name row_name
locs-are w = refl

chans-are : (w : List ℕ) → chans_of w ≡ names w chans_at 2
unfolding chans_of chan_name row_name
chans-are w = refl

-- names are the same where their words and their count are
same_names : (w v : List ℕ) (o at : ℕ) → word w at ≤ 64 → word v at ≡ word w at → ((x : ℕ) → o ≤ x → x < o + 256 → word v x ≡ word w x) → names v o at ≡ names w o at
same_names w v o at few c e = ap (λ n. list_from 0 n (row_name v o 4)) c ∙ names_same w v o (word w at) (λ x a b. e x a (omega arith))

-- identifiers are kept by every write of the second pass
pub ids-same : (w v : List ℕ) (low i : ℕ) → Frame w v low i → word w 3 ≤ 32 → ids_of v ≡ ids_of w
unfolding ids_of def_name name_at
ids-same w v low i f few =
    ap (λ n. list_from 0 n (def_name v)) f.defs
    ∙ list_same (def_name v) (def_name w) 0 (word w 3)
    (λ j h. rw (f.between (ids_at + j * row_size) (omega arith) (omega arith), f.between (ids_at + j * row_size + 1) (omega arith) (omega arith), f.between (ids_at + j * row_size + 2) (omega arith) (omega arith), f.between (ids_at + j * row_size + 3) (omega arith) (omega arith)))

-- ── growth, one write after the other ──
pub grown-none : (w : List ℕ) → Grown w w
grown-none w = record { locs = λ l h. refl; locs-on = λ l h. h; chans = λ c h. refl; chans-on = λ c h. h; ids = λ d. refl }

pub grown-then : {w v u : List ℕ} → Grown w v → Grown v u → Grown w u
grown-then f g = record {
  locs = λ l h. g.locs l (f.locs-on l h) ∙ f.locs l h;
  locs-on = λ l h. g.locs-on l (f.locs-on l h);
  chans = λ c h. g.chans c (f.chans-on c h) ∙ f.chans c h;
  chans-on = λ c h. g.chans-on c (f.chans-on c h);
  ids = λ d. g.ids d ∙ f.ids d;
}

pub into-longer : (xs : List Name) (x : Name) → length xs ≤ length (into xs x)
into-longer xs x = go (member x xs)
  where
    go : (b : Bool) → length xs ≤ length (cond b xs (xs ++ (x ∷ [])))
    go true = omega arith
    go false = rw (length-append xs (x ∷ [])) (omega arith)

-- names that are among xs keep their numbers in ys
pub Later : List Name → List Name → Type 0
Later xs ys = (l : Name) → index xs l < length xs → (index ys l ≡ index xs l) × (index ys l < length ys)

later_same : (xs ys : List Name) → ys ≡ xs → Later xs ys
unfolding Later
later_same xs ys e l h = (ap (λ z. index z l) e, rw e h)

later-into : (xs ys : List Name) (x : Name) → ys ≡ into xs x → Later xs ys
unfolding Later
later-into xs ys x e l h =
    let a : index ys l ≡ index xs l = rw e (index-into xs x l h) in
    let b = into-longer xs x in
    let c : length ys ≡ length (into xs x) = ap length e in
    (a, omega arith)

pub loc-listed-is : (w : List ℕ) (l : Name) → loc_listed w l ≡ ltb (index (locs_of w) l) (length (locs_of w))
unfolding loc_listed locs_of
loc-listed-is w l = rw (length-list_from (loc_name w) 0 (word w 1))

pub chan-known-is : (w : List ℕ) (c : Name) → chan_known w c ≡ ltb (index (chans_of w) c) (length (chans_of w))
unfolding chan_known chans_of
chan-known-is w c = rw (length-list_from (chan_name w) 0 (word w 2))

grown-of : (w v : List ℕ) → Later (locs_of w) (locs_of v) → Later (chans_of w) (chans_of v) → ids_of v ≡ ids_of w → Grown w v
unfolding Later
grown-of w v a b i = record {
  locs = λ l h. (a l (ltb-true _ _ (sym (loc-listed-is w l) ∙ h))).0;
  locs-on = λ l h. loc-listed-is v l ∙ lt-ltb _ _ (a l (ltb-true _ _ (sym (loc-listed-is w l) ∙ h))).1;
  chans = λ c h. (b c (ltb-true _ _ (sym (chan-known-is w c) ∙ h))).0;
  chans-on = λ c h. chan-known-is v c ∙ lt-ltb _ _ (b c (ltb-true _ _ (sym (chan-known-is w c) ∙ h))).1;
  ids = λ d. ap (λ l. index l d) i;
}

-- ── what one write does ──
pub record Grew (w v : List ℕ) (low i : ℕ) : Type 0 where
  pub grown : Grown w v
  pub frame : Frame w v low i
  pub making : Making v
  pub flag : word v 4 ≡ word w 4

pub grew_then : {w v u : List ℕ} {low₁ i₁ low₂ i₂ : ℕ} (low i : ℕ) → Grew w v low₁ i₁ → Grew v u low₂ i₂ → low ≤ low₁ → low ≤ low₂ → i₁ ≤ i → i₂ ≤ i → Grew w u low i
grew_then low i f g a b c d = record {
  grown = grown-then f.grown g.grown;
  frame = frame_then low i f.frame g.frame a b c d;
  making = g.making;
  flag = g.flag ∙ f.flag;
}

-- a name entered into a table, with the number that it has there
pub record NameIn (w v : List ℕ) (x : Name) (number : ℕ) (table : List ℕ → List Name) (other : List ℕ → List Name) : Type 0 where
  pub grew : (low i : ℕ) → Grew w v low i
  pub now : table v ≡ into (table w) x
  pub aside : other v ≡ other w
  pub has : number ≡ index (table v) x
  pub within : index (table v) x < length (table v)

module _ (w : List ℕ) (m : Making w) (k : Key) where
  number_is : (o at : ℕ) → word w at ≤ 64 → number_in w o (held_in w at) (key_name k) ≡ index (names w o at) (key_name k)
  unfolding number_in held_in
  number_is o at few = let e : min (word w at) 64 ≡ word w at = omega arith in rw e

  -- a location
  pub loc_in : word (enlist w locs_at 1 k) 4 ≡ 0 → NameIn w (enlist w locs_at 1 k) (key_name k) (number_in w locs_at (held_in w 1) (key_name k)) locs_of chans_of
  loc_in z = go (enlist w locs_at 1 k) (entered w locs_at 1 k (omega arith) (omega arith) (omega arith) (omega arith) m.long m.locs z)
    where
      go : (v : List ℕ) → Entered w v locs_at 1 (key_name k) → NameIn w v (key_name k) (number_in w locs_at (held_in w 1) (key_name k)) locs_of chans_of
      go v e =
          let n : locs_of v ≡ into (locs_of w) (key_name k) = locs-are v ∙ e.now ∙ ap (λ l. into l (key_name k)) (sym (locs-are w)) in
          let c : chans_of v ≡ chans_of w = chans-are v ∙ same_names w v chans_at 2 m.chans (e.counts 2 (omega arith) (λ q. omega arith) (λ q. omega arith)) (λ x a b. e.right x (omega arith)) ∙ sym (chans-are w) in
          let c₂ : word v 2 ≡ word w 2 = e.counts 2 (omega arith) (λ q. omega arith) (λ q. omega arith) in
          let c₃ : word v 3 ≡ word w 3 = e.counts 3 (omega arith) (λ q. omega arith) (λ q. omega arith) in
          record {
            grew = λ low i. record {
              grown = grown-of w v (later-into _ _ (key_name k) n) (later_same _ _ c) (ids-same w v low i (e.frame low i) m.defs);
              frame = e.frame low i;
              making = record { long = (e.frame low i).long ∙ m.long; locs = e.few; chans = rw c₂ m.chans; defs = rw c₃ m.defs };
              flag = e.flag;
            };
            now = n;
            aside = c;
            has = number_is locs_at 1 m.locs ∙ ap (λ l. index l (key_name k)) (sym (locs-are w)) ∙ sym (index-came (locs_of w) (key_name k)) ∙ ap (λ l. index l (key_name k)) (sym n);
            within = rw n (came-within (locs_of w) (key_name k));
          }

  -- a channel
  pub chan-in : word (enlist w chans_at 2 k) 4 ≡ 0 → NameIn w (enlist w chans_at 2 k) (key_name k) (number_in w chans_at (held_in w 2) (key_name k)) chans_of locs_of
  chan-in z = go (enlist w chans_at 2 k) (entered w chans_at 2 k (omega arith) (omega arith) (omega arith) (omega arith) m.long m.chans z)
    where
      go : (v : List ℕ) → Entered w v chans_at 2 (key_name k) → NameIn w v (key_name k) (number_in w chans_at (held_in w 2) (key_name k)) chans_of locs_of
      go v e =
          let n : chans_of v ≡ into (chans_of w) (key_name k) = chans-are v ∙ e.now ∙ ap (λ l. into l (key_name k)) (sym (chans-are w)) in
          let c₁ : word v 1 ≡ word w 1 = e.counts 1 (omega arith) (λ q. omega arith) (λ q. omega arith) in
          let c : locs_of v ≡ locs_of w = locs-are v ∙ same_names w v locs_at 1 m.locs c₁ (λ x a b. e.left x (omega arith) (omega arith)) ∙ sym (locs-are w) in
          let c₃ : word v 3 ≡ word w 3 = e.counts 3 (omega arith) (λ q. omega arith) (λ q. omega arith) in
          record {
            grew = λ low i. record {
              grown = grown-of w v (later_same _ _ c) (later-into _ _ (key_name k) n) (ids-same w v low i (e.frame low i) m.defs);
              frame = e.frame low i;
              making = record { long = (e.frame low i).long ∙ m.long; locs = rw c₁ m.locs; chans = e.few; defs = rw c₃ m.defs };
              flag = e.flag;
            };
            now = n;
            aside = c;
            has = number_is chans_at 2 m.chans ∙ ap (λ l. index l (key_name k)) (sym (chans-are w)) ∙ sym (index-came (chans_of w) (key_name k)) ∙ ap (λ l. index l (key_name k)) (sym n);
            within = rw n (came-within (chans_of w) (key_name k));
          }

-- ── some words of the row at i ──
module _ (w : List ℕ) (m : Making w) (i k : ℕ) (vs : List ℕ) (h : k + length vs ≤ row_size) where
  abbrev rowed : List ℕ
  rowed = sets w (parts_at + i * row_size + k) vs

  row_under : (x : ℕ) → x < parts_at → word rowed x ≡ word w x
  row_under x l = sets-under vs w (parts_at + i * row_size + k) x (omega arith)

  pub row-locs : locs_of rowed ≡ locs_of w
  row-locs = locs-are rowed ∙ same_names w rowed locs_at 1 m.locs (row_under 1 (omega arith)) (λ x a b. row_under x (omega arith)) ∙ sym (locs-are w)

  pub row-chans : chans_of rowed ≡ chans_of w
  row-chans = chans-are rowed ∙ same_names w rowed chans_at 2 m.chans (row_under 2 (omega arith)) (λ x a b. row_under x (omega arith)) ∙ sym (chans-are w)

  pub row_grew : Grew w rowed i i
  row_grew =
      let f = frame_row w i k vs h in
      record {
        grown = grown-of w rowed (later_same _ _ row-locs) (later_same _ _ row-chans) (ids-same w rowed i i f m.defs);
        frame = f;
        making = record { long = f.long ∙ m.long; locs = rw (row_under 1 (omega arith)) m.locs; chans = rw (row_under 2 (omega arith)) m.chans; defs = rw f.defs m.defs };
        flag = row_under 4 (omega arith);
      }

-- ── the mark of a name too many is never taken back ──
pub mark-back : (w : List ℕ) → word (set w 4 1) 4 ≡ 0 → word w 4 ≡ 0
mark-back [] e = refl
mark-back (a ∷ []) e = refl
mark-back (a ∷ b ∷ []) e = refl
mark-back (a ∷ b ∷ c ∷ []) e = refl
mark-back (a ∷ b ∷ c ∷ d ∷ []) e = refl
mark-back (a ∷ b ∷ c ∷ d ∷ x ∷ w) e = absurd (omega arith)

pub enlist-back : (w : List ℕ) (o at : ℕ) (k : Key) → locs_at ≤ o → at < 4 → word (enlist w o at k) 4 ≡ 0 → word w 4 ≡ 0
unfolding enlist add_key
enlist-back w o at k h l e = go (ltb (number_in w o (held_in w at) (key_name k)) (held_in w at)) (ltb (held_in w at) 64) e
  where
    go : (a b : Bool) → word (cond a w (cond b (set (sets w (o + held_in w at * name_size) (key_words k)) at (held_in w at + 1)) (set w 4 1))) 4 ≡ 0 → word w 4 ≡ 0
    go true b e = e
    go false true e = sym (set_out (sets w (o + held_in w at * name_size) (key_words k)) at 4 (held_in w at + 1) (λ q. omega arith) ∙ sets-under (key_words k) w (o + held_in w at * name_size) 4 (omega arith)) ∙ e
    go false false e = mark-back w e
