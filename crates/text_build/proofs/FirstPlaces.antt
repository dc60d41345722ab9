-- After a process is put, each table holds what it held and then the new names of the process by first place: those of its places, in text order.
-- By induction on the process, with what stands in the script on the way (proofs/Puts).
use Prim.Native.Nat.{ℕ, suc, ◌+◌, ◌-◌, ◌*◌, ◌≤◌, ◌<◌}
use native.Mathlib.Omega.{arith}
use mathlib.Core.List.{List, [], ◌∷◌, ◌++◌, flat_map, append-nil}
use mathlib.Core.Path.{◌≡◌, ◌∙◌}
use lib.ListN.{length}
use lib.Seq.{sets}
use Rattle.terms.specs.Names.{Name}
use Rattle.terms.specs.Terms.{Part, Process}
use Rattle.terms.specs.Terms.Part.{stop, go, out, inp, call}
use Rattle.terms.specs.Terms.Process.{one, ◌∥◌}
use Rattle.text.specs.WellFormed.{WellPart, WellProcess}
use Rattle.text.specs.Questions.{Place, into, loc_of, values_of, locations_at, channels_at, part_places, process_places}
use Rattle.table.specs.Words.{row_size, parts_at, word}
use Rattle.table.specs.Size.{size, size_p}
use Rattle.text_build.specs.declared.Scope.{Scope}
use Rattle.text_build.specs.Rows.{first_place, second_place}
use Rattle.text_build.specs.Growth.{Making}
use Rattle.text_build.specs.Put.{offsets, enter_part, row_of, opened, set_second, linked, inner_scope, scope_mark, put_part, put}
use Rattle.text_build.proofs.Places.{size-some, size_p-some}
use Rattle.text_build.proofs.Grows.{row-locs, row-chans}
use Rattle.text_build.proofs.RowWords.{Eight}
use Rattle.text_build.proofs.Entering.{Settled, settled-lower}
use Rattle.text_build.proofs.Numbering.{flat_append, channels_of, Numbered, numbered-then, part-numbered}
use Rattle.text_build.proofs.Opening.{row-length, part-back, part_in}
use Rattle.text_build.proofs.Puts.{opened-back, second_back, linked-back, put_back, mark-none, inner-eight, inner-offsets, settled-entering, open-grew, puts, puts-part}

-- the locations and channels of places, in order
abbrev locs_at : List Place → List Name
locs_at xs = flat_map locations_at xs

abbrev chans_at : List Place → List Name
chans_at xs = flat_map channels_at xs

abbrev Names : List ℕ → List ℕ → List Place → Type 0
Names w v xs = Numbered w v (locs_at xs) (chans_at xs)

names-then : (w v u : List ℕ) (xs ys : List Place) → Names w v xs → Names v u ys → Names w u (xs ++ ys)
names-then w v u xs ys a b = rw (flat_append locations_at xs ys, flat_append channels_at xs ys) (numbered-then a b)

-- some words of a row leave the tables as they are
names-row : (w v : List ℕ) (m : Making v) (i k : ℕ) (vs : List ℕ) → k + length vs ≤ row_size → (xs : List Place) → Names w v xs → Names w (sets v (parts_at + i * row_size + k) vs) xs
names-row w v m i k vs h xs a = record { locs = row-locs v m i k vs h ∙ a.locs; chans = row-chans v m i k vs h ∙ a.chans }

here-names : (a : Part) (w v : List ℕ) (d : ℕ) (ys : List Name) → Numbered w v (flat_map loc_of (values_of a)) (channels_of a) → Names w v (record { depth = d; scope = ys; part = a } ∷ [])
unfolding flat_map locations_at channels_at
here-names stop w v d ys r = r
here-names (go t x p) w v d ys r = rw (append-nil (flat_map loc_of (values_of (go t x p)))) r
here-names (out c t x p q) w v d ys r = rw (append-nil (flat_map loc_of (values_of (out c t x p q)))) r
here-names (inp c t y p q) w v d ys r = r
here-names (call x vs) w v d ys r = rw (append-nil (flat_map loc_of vs)) r

pub opened-names : (a : Part) (w : List ℕ) (i d : ℕ) (sc : Scope) (ys : List Name) → Making w → Eight sc → WellPart a → word (opened w i sc a) 4 ≡ 0
    → Names w (opened w i sc a) (record { depth = d; scope = ys; part = a } ∷ [])
unfolding opened
opened-names a w i d sc ys m e f z =
    let b = opened-back a w i sc z in
    names-row w (enter_part w a) ((part_in w m a f b).grew 0 0).making i 0 (row_of w i sc a) (let l = row-length w i sc a e in omega arith) _
    (here-names a w (enter_part w a) d ys (part-numbered w m a f b))

module _ (w v : List ℕ) (m : Making v) (i : ℕ) (xs : List Place) where
  linked-names : (n l : ℕ) → Names w v xs → Names w (linked v i n l) xs
  unfolding linked
  linked-names n l a = names-row w v m i 6 (n ∷ l ∷ []) (omega arith) xs a

  second-names : (q : ℕ) → Names w v xs → Names w (set_second v i q) xs
  unfolding set_second
  second-names q a = names-row w v m i 5 (q ∷ []) (omega arith) xs a

mutual
  unfolding put_part put size size_p part_places process_places

  pub part-first : (a : Part) (i d : ℕ) (sc : Scope) (w : List ℕ) (ys : List Name) → Making w → Eight sc → Settled i (offsets sc) → WellPart a → size a ≤ suc i → i < 4_096
      → word (put_part a i sc w) 4 ≡ 0 → Names w (put_part a i sc w) (part_places a d ys)
  part-first stop i d sc w ys m e s f n h z = opened-names stop w i d sc ys m e f z
  part-first (go t v p) i d sc w ys m e s f n h z =
      let k = size_p-some p in
      let o = put_back p (first_place i) sc _ z in
      names-then w _ _ (_ ∷ []) _ (opened-names (go t v p) w i d sc ys m e f o)
      (first p (first_place i) (suc d) sc _ ys (open-grew (go t v p) w i sc m e f h o).making e (settled-lower i (first_place i) (offsets sc) (omega arith) s) f.2 (omega arith) (omega arith) z)
  part-first (out c t v p q) i d sc w ys m e s f n h z =
      let k = size_p-some p in
      let j = size_p-some q in
      let zq = second_back _ i (second_place i p) z in
      let zp = put_back q (second_place i p) sc _ zq in
      let o = put_back p (first_place i) sc _ zp in
      let g = (open-grew (out c t v p q) w i sc m e f h o).making in
      let l = settled-lower i (first_place i) (offsets sc) (omega arith) s in
      let l' = settled-lower i (second_place i p) (offsets sc) (omega arith) s in
      let r = puts p (first_place i) (suc d) sc _ g e l f.3 (omega arith) (omega arith) zp in
      let b = puts q (second_place i p) (suc d) sc _ r.grew.making e l' f.4 (omega arith) (omega arith) zq in
      second-names w _ b.grew.making i _ (second_place i p)
      (names-then w _ _ (_ ∷ []) _ (opened-names (out c t v p q) w i d sc ys m e f o)
      (names-then _ _ _ (process_places p (suc d) ys) _ (first p (first_place i) (suc d) sc _ ys g e l f.3 (omega arith) (omega arith) zp)
      (first q (second_place i p) (suc d) sc _ ys r.grew.making e l' f.4 (omega arith) (omega arith) zq)))
  part-first (inp c t y p q) i d sc w ys m e s f n h z =
      let k = size_p-some p in
      let j = size_p-some q in
      let inner = inner_scope w i sc y in
      let zs : word (scope_mark w sc y) 4 ≡ 0 =
      part-back (inp c t y p q) _ (opened-back (inp c t y p q) _ i sc (put_back p (first_place i) inner _ (put_back q (second_place i p) sc _ (second_back _ i (second_place i p) z)))) in
      let mk = mark-none w m i sc e y f.2 zs in
      let zq = second_back _ i (second_place i p) (rw mk at z) in
      let zp = put_back q (second_place i p) sc _ zq in
      let o = put_back p (first_place i) inner _ zp in
      let g = (open-grew (inp c t y p q) w i sc m e f h o).making in
      let e' = inner-eight w i sc y e in
      let l : Settled (first_place i) (offsets inner) = rw (inner-offsets w m i sc e y f.2 zs) (settled-entering w i (offsets sc) y (omega arith) s) in
      let l' = settled-lower i (second_place i p) (offsets sc) (omega arith) s in
      let r = puts p (first_place i) (suc d) inner _ g e' l f.3 (omega arith) (omega arith) zp in
      let b = puts q (second_place i p) (suc d) sc _ r.grew.making e l' f.4 (omega arith) (omega arith) zq in
      rw mk
      (second-names w _ b.grew.making i _ (second_place i p)
      (names-then w _ _ (_ ∷ []) _ (opened-names (inp c t y p q) w i d sc ys m e f o)
      (names-then _ _ _ (process_places p (suc d) (into ys y)) _ (first p (first_place i) (suc d) inner _ (into ys y) g e' l f.3 (omega arith) (omega arith) zp)
      (first q (second_place i p) (suc d) sc _ ys r.grew.making e l' f.4 (omega arith) (omega arith) zq))))
  part-first (call x vs) i d sc w ys m e s f n h z = opened-names (call x vs) w i d sc ys m e f z

  pub first : (p : Process) (i d : ℕ) (sc : Scope) (w : List ℕ) (ys : List Name) → Making w → Eight sc → Settled i (offsets sc) → WellProcess p → size_p p ≤ suc i → i < 4_096
      → word (put p i sc w) 4 ≡ 0 → Names w (put p i sc w) (process_places p d ys)
  first (one a) i d sc w ys m e s f n h z =
      let b = linked-back _ i 0 (suc i - size a) z in
      linked-names w _ (puts-part a i d sc w m e s f n h b).later.making i _ 0 (suc i - size a) (part-first a i d sc w ys m e s f n h b)
  first (a ∥ p) i d sc w ys m e s f n h z =
      let k = size-some a in
      let j = size_p-some p in
      let zp = linked-back _ i (suc (i - size a)) (suc i - (size a + size_p p)) z in
      let za = put_back p (i - size a) sc _ zp in
      let r = puts-part a i d sc w m e s f.0 (omega arith) h za in
      let l = settled-lower i (i - size a) (offsets sc) (omega arith) s in
      linked-names w _ (puts p (i - size a) d sc _ r.later.making e l f.1 (omega arith) (omega arith) zp).grew.making i _ (suc (i - size a)) (suc i - (size a + size_p p))
      (names-then w _ _ (part_places a d ys) _ (part-first a i d sc w ys m e s f.0 (omega arith) h za)
      (first p (i - size a) d sc _ ys r.later.making e l f.1 (omega arith) (omega arith) zp))
