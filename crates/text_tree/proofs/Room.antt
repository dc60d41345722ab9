-- A process whose names and scopes keep within the limits leaves the word 4 unset: no table of names and no scope is too small for it (question 4).
-- By induction on the process, name by name: at most 64 names are held after each, and at most 8 are in scope at each place.
use Prim.Native.Nat.{ℕ, ◌+◌, ◌*◌, ◌≤◌, ◌<◌, min}
use native.Mathlib.Omega.{arith}
use mathlib.Core.List.{List, [], ◌∷◌, ◌++◌, flat_map, append-nil}
use mathlib.Core.Bool.{Bool, true, false, cond}
use mathlib.Core.Path.{◌≡◌, refl, ap, sym, ◌∙◌}
use borrow.Author.Tests.{ltb-false, leb-true}
use lib.Dec.{leb, ltb}
use lib.ListN.{length, set, length-map, length-append}
use lib.Seq.{sets, length-take-le}
use Rattle.terms.specs.Names.{Name}
use Rattle.terms.specs.Terms.{Timer, Value, Part, Process}
use Rattle.terms.specs.Terms.Value.{loc, var}
use Rattle.terms.specs.Terms.Part.{stop, go, out, inp, call}
use Rattle.terms.specs.Terms.Process.{one, ◌∥◌}
use Rattle.terms.specs.Letters.{member, is_location, is_small}
use Rattle.text.specs.WellFormed.{Is, Each, WellValue, WellPart}
use Rattle.text.specs.Questions.{Place, into, firsts, loc_of, process_places, locations_at, channels_at}
use Rattle.table.specs.declared.Key.{Key}
use Rattle.table.specs.Words.{chans_at, locs_at, word, name_at, loc_name, chan_name, bound_at, name_size}
use Rattle.table.specs.Tests.{key_name, row_name}
use Rattle.table.specs.Valid.{index}
use Rattle.table.proofs.Tests.{length-list_from}
use Rattle.text_build.specs.declared.Scope.{Scope}
use Rattle.text_build.specs.Keys.{key_of}
use Rattle.text_build.specs.Tables.{key_words, held_in, number_in, add_key, enlist}
use Rattle.text_build.specs.Rows.{locs_of, chans_of, scope_names, first_place}
use Rattle.text_build.specs.Growth.{Making}
use Rattle.text_build.specs.Put.{offsets, slot_of, enter_loc, enter_chan, enter_value, enter_values, enter_part, row_of, opened, set_second, linked, inner_scope, scope_mark}
use Rattle.text_build.proofs.Numbers.{member-index, names-entered}
use Rattle.text_build.proofs.Places.{Fit, fit-first, fit-par}
use Rattle.text_build.proofs.Kept.{entering-same}
use Rattle.table.proofs.Stores.{set_out, sets-under}
use Rattle.text_build.proofs.Enlist.{names}
use Rattle.text_build.proofs.Grows.{into-longer, Grew}
use Rattle.text_build.proofs.RowWords.{Eight}
use Rattle.text_build.proofs.Entering.{Settled, settled_same, settled-lower, loc-spelt, small-spelt, value-in, chan-entered, firsts-append}
use Rattle.text_build.proofs.Numbering.{flat_append, Numbered}
use Rattle.text_build.proofs.Opening.{own_name, slot_is}
use Rattle.text_build.proofs.Puts.{row-flag, unfinished, open_row, open-grew, inner-eight, inner-offsets, settled-entering}

-- ── at most 64 names, however many come ──
firsts-longer : (xs ys : List Name) → length ys ≤ length (firsts ys xs)
unfolding firsts
firsts-longer [] ys = omega arith
firsts-longer (x ∷ xs) ys = let a = into-longer ys x in let b = firsts-longer xs (into ys x) in omega arith

-- the locations ls and the channels cs fit into the script's tables
pub record Fits (w : List ℕ) (ls cs : List Name) : Type 0 where
  pub locs : length (firsts (locs_of w) ls) ≤ 64
  pub chans : length (firsts (chans_of w) cs) ≤ 64

pub fits-front : (w : List ℕ) (ls ls' cs cs' : List Name) → Fits w (ls ++ ls') (cs ++ cs') → Fits w ls cs
fits-front w ls ls' cs cs' f =
    let a = firsts-longer ls' (firsts (locs_of w) ls) in
    let b = firsts-longer cs' (firsts (chans_of w) cs) in
    let x : length (firsts (firsts (locs_of w) ls) ls') ≤ 64 = rw (firsts-append ls ls' (locs_of w)) at f.locs in
    let y : length (firsts (firsts (chans_of w) cs) cs') ≤ 64 = rw (firsts-append cs cs' (chans_of w)) at f.chans in
    record { locs = omega arith; chans = omega arith }

pub fits-rest : (w v : List ℕ) (ls ls' cs cs' : List Name) → Numbered w v ls cs → Fits w (ls ++ ls') (cs ++ cs') → Fits v ls' cs'
fits-rest w v ls ls' cs cs' n f = record {
  locs = rw n.locs (rw (firsts-append ls ls' (locs_of w)) at f.locs);
  chans = rw n.chans (rw (firsts-append cs cs' (chans_of w)) at f.chans);
}

-- ── a name ──
enlist-room : (w : List ℕ) (o c : ℕ) (k : Key) → locs_at ≤ o → c < 4 → word w c ≤ 64 → word w 4 ≡ 0 → length (into (names w o c) (key_name k)) ≤ 64 → word (enlist w o c k) 4 ≡ 0
unfolding enlist number_in add_key held_in
enlist-room w o c k a b few z h =
    let e : min (word w c) 64 ≡ word w c = omega arith in
    let n : length (names w o c) ≡ word w c = length-list_from (row_name w o 4) 0 (word w c) in
    let m : member (key_name k) (names w o c) ≡ ltb (index (names w o c) (key_name k)) (word w c) = member-index (names w o c) (key_name k) ∙ ap (ltb (index (names w o c) (key_name k))) n in
    rw e (go (ltb (index (names w o c) (key_name k)) (word w c)) m (ltb (word w c) 64) refl n)
  where
    go : (p : Bool) → member (key_name k) (names w o c) ≡ p → (q : Bool) → ltb (word w c) 64 ≡ q → length (names w o c) ≡ word w c
        → word (cond p w (cond q (set (sets w (o + word w c * name_size) (key_words k)) c (word w c + 1)) (set w 4 1))) 4 ≡ 0
    go true m q e n = z
    go false m true e n = set_out (sets w (o + word w c * name_size) (key_words k)) c 4 (word w c + 1) (λ r. omega arith) ∙ sets-under (key_words k) w (o + word w c * name_size) 4 (omega arith) ∙ z
    go false m false e n =
        let l = ltb-false (word w c) 64 e in
        let x : length (names w o c ++ (key_name k ∷ [])) ≤ 64 = rw m at h in
        absurd (omega (arith, length-append (names w o c) (key_name k ∷ [])))

pub loc-room : (w : List ℕ) (l : Name) → Making w → Is is_location l → word w 4 ≡ 0 → length (into (locs_of w) l) ≤ 64 → word (enter_loc w l) 4 ≡ 0
unfolding enter_loc locs_of loc_name
loc-room w l m e z h = enlist-room w locs_at 1 (key_of l) (omega arith) (omega arith) m.locs z (unfold row_name in rw (loc-spelt l e) h)

chan-room : (w : List ℕ) (c : Name) → Making w → Is is_small c → word w 4 ≡ 0 → length (into (chans_of w) c) ≤ 64 → word (enter_chan w c) 4 ≡ 0
unfolding enter_chan chans_of chan_name
chan-room w c m e z h = enlist-room w chans_at 2 (key_of c) (omega arith) (omega arith) m.chans z (unfold row_name in rw (small-spelt c e) h)

value_room : (w : List ℕ) (v : Value) → Making w → WellValue v → word w 4 ≡ 0 → length (firsts (locs_of w) (loc_of v)) ≤ 64 → word (enter_value w v) 4 ≡ 0
unfolding enter_value firsts loc_of
value_room w (loc l) m e z h = loc-room w l m e z h
value_room w (var x) m e z h = z

values-room : (vs : List Value) (w : List ℕ) → Making w → Each WellValue vs → word w 4 ≡ 0 → length (firsts (locs_of w) (flat_map loc_of vs)) ≤ 64 → word (enter_values w vs) 4 ≡ 0
unfolding enter_values flat_map
values-room [] w m e z h = z
values-room (v ∷ vs) w m e z h =
    let x : length (firsts (firsts (locs_of w) (loc_of v)) (flat_map loc_of vs)) ≤ 64 = rw (firsts-append (loc_of v) (flat_map loc_of vs) (locs_of w)) at h in
    let a = firsts-longer (flat_map loc_of vs) (firsts (locs_of w) (loc_of v)) in
    let y = value_room w v m e.0 z (omega arith) in
    let r = value-in w m v e.0 y in
    values-room vs (enter_value w v) (r.grew 0 0).making e.1 y (rw r.locs x)

-- ── a part ──
abbrev pub FitsAt : List ℕ → List Place → Type 0
FitsAt w xs = Fits w (flat_map locations_at xs) (flat_map channels_at xs)

pub at_front : (w : List ℕ) (xs ys : List Place) → FitsAt w (xs ++ ys) → FitsAt w xs
at_front w xs ys f = fits-front w _ (flat_map locations_at ys) _ (flat_map channels_at ys) (rw (flat_append locations_at xs ys, flat_append channels_at xs ys) at f)

pub at_rest : (w v : List ℕ) (xs ys : List Place) → Numbered w v (flat_map locations_at xs) (flat_map channels_at xs) → FitsAt w (xs ++ ys) → FitsAt v ys
at_rest w v xs ys n f = fits-rest w v _ _ _ _ n (rw (flat_append locations_at xs ys, flat_append channels_at xs ys) at f)

enter-room : (a : Part) (w : List ℕ) (d : ℕ) (ys : List Name) (xs : List Place) → Making w → WellPart a → word w 4 ≡ 0 → FitsAt w (record { depth = d; scope = ys; part = a } ∷ xs)
    → word (enter_part w a) 4 ≡ 0
unfolding enter_part flat_map locations_at channels_at firsts
enter-room stop w d ys xs m f z h = z
enter-room (go t v p) w d ys xs m f z h =
    let r = fits-front w (loc_of v ++ []) (flat_map locations_at xs) [] (flat_map channels_at xs) h in
    value_room w v m f.1 z (rw (append-nil (loc_of v)) at r.locs)
enter-room (out c t v p q) w d ys xs m f z h =
    let r = fits-front w (loc_of v ++ []) (flat_map locations_at xs) (c ∷ []) (flat_map channels_at xs) h in
    let y = chan-room w c m f.0 z r.chans in
    let k = chan-entered w m c f.0 y in
    value_room (enter_chan w c) v (k.grew 0 0).making f.2 y (rw k.aside (rw (append-nil (loc_of v)) at r.locs))
enter-room (inp c t y p q) w d ys xs m f z h =
    let r = fits-front w [] (flat_map locations_at xs) (c ∷ []) (flat_map channels_at xs) h in
    chan-room w c m f.0 z r.chans
enter-room (call x vs) w d ys xs m f z h =
    let r = fits-front w (flat_map loc_of vs) (flat_map locations_at xs) [] (flat_map channels_at xs) h in
    values-room vs w m f.1 z r.locs

-- ── scopes ──
-- at most 8 names are in scope
abbrev pub few8 : Place → Bool
few8 x = leb (length x.scope) 8

pub process-scope : (p : Process) (d : ℕ) (ys : List Name) → Fit few8 p d ys → length ys ≤ 8
unfolding process_places
process-scope (one a) d ys e = leb-true (length ys) 8 (fit-first few8 a d ys e)
process-scope (a ∥ p) d ys e = leb-true (length ys) 8 (fit-first few8 a d ys (fit-par few8 a p d ys e).0)

-- what the script w must be for a process to be put at i where the names ys are in scope
pub record Ready (w : List ℕ) (i : ℕ) (sc : Scope) (ys : List Name) : Type 0 where
  pub making : Making w
  pub eight : Eight sc
  pub settled : Settled i (offsets sc)
  pub names : scope_names w (offsets sc) ≡ ys
  pub clear : word w 4 ≡ 0

pub ready_on : (w v : List ℕ) (i : ℕ) (sc : Scope) (ys : List Name) (low j k : ℕ) → Ready w i sc ys → Grew w v low j → word v 4 ≡ 0 → j ≤ i → k ≤ i → Ready v k sc ys
ready_on w v i sc ys low j k r g z a b = record {
  making = g.making;
  eight = r.eight;
  settled = settled-lower i k (offsets sc) b r.settled;
  names = settled_same w v low j (offsets sc) g.frame (settled-lower i j (offsets sc) a r.settled) ∙ r.names;
  clear = z;
}

pub mark-room : (w : List ℕ) (i : ℕ) (sc : Scope) (ys : List Name) (y : Name) → Ready w i sc ys → Is is_small y → length (into ys y) ≤ 8 → word (scope_mark w sc y) 4 ≡ 0
unfolding scope_mark
mark-room w i sc ys y r e h =
    let n : length (offsets sc) ≡ sc.n = let f = r.eight.few in let g = r.eight.slots in length-take-le sc.n sc.at (omega arith) in
    let c : length (scope_names w (offsets sc)) ≡ sc.n = length-map (offsets sc) (name_at w) ∙ n in
    let k : length ys ≡ sc.n = ap length (sym r.names) ∙ c in
    let m : member y ys ≡ ltb (slot_of w sc y) sc.n = member-index ys y ∙ rw (k, slot_is w sc y e, r.names) in
    go (ltb (slot_of w sc y) sc.n) m (ltb sc.n 8) refl k
  where
    go : (a : Bool) → member y ys ≡ a → (b : Bool) → ltb sc.n 8 ≡ b → length ys ≡ sc.n → word (cond a w (cond b w (set w 4 1))) 4 ≡ 0
    go true m b q k = r.clear
    go false m true q k = r.clear
    go false m false q k =
        let l = ltb-false sc.n 8 q in
        let x : length (ys ++ (y ∷ [])) ≤ 8 = rw m at h in
        absurd (omega (arith, length-append ys (y ∷ [])))

-- ── rows ──
pub opened-room : (a : Part) (w : List ℕ) (i d : ℕ) (sc : Scope) (ys : List Name) (xs : List Place) → Ready w i sc ys → WellPart a → FitsAt w (record { depth = d; scope = ys; part = a } ∷ xs)
    → word (opened w i sc a) 4 ≡ 0
unfolding opened
opened-room a w i d sc ys xs r f h = row-flag (enter_part w a) i 0 (row_of w i sc a) ∙ enter-room a w d ys xs r.making f r.clear h

pub second-room : (w : List ℕ) (i q : ℕ) → word w 4 ≡ 0 → word (set_second w i q) 4 ≡ 0
unfolding set_second
second-room w i q z = row-flag w i 5 (q ∷ []) ∙ z

pub linked-room : (w : List ℕ) (i n l : ℕ) → word w 4 ≡ 0 → word (linked w i n l) 4 ≡ 0
unfolding linked
linked-room w i n l z = row-flag w i 6 (n ∷ l ∷ []) ∙ z

-- the scope of an input's P
module _ (c : Name) (t : Timer) (y : Name) (p q : Process) (w : List ℕ) (i : ℕ) (sc : Scope) (ys : List Name) (r : Ready w i sc ys) (f : WellPart (inp c t y p q)) (h : i < 4_096) (b : 1 ≤ i)
    (zs : word (scope_mark w sc y) 4 ≡ 0) (z : word (opened w i sc (inp c t y p q)) 4 ≡ 0) where
  pub inner-ready : Ready (opened w i sc (inp c t y p q)) (first_place i) (inner_scope w i sc y) (into ys y)
  inner-ready =
      let a = inp c t y p q in
      let m = r.making in
      let g = open-grew a w i sc m r.eight f h z in
      let o = inner-offsets w m i sc r.eight y f.2 zs in
      let n : scope_names (opened w i sc a) (offsets sc) ≡ scope_names w (offsets sc) = settled_same w (opened w i sc a) i i (offsets sc) g.frame r.settled in
      let own : bound_at (opened w i sc a) i ≡ y = own_name w m (opened w i sc a) i 0 0 0 sc r.eight r.settled c t y p q 0 f (rw (← unfinished a w i sc) (open_row a w i sc m r.eight f h z)) in
      record {
        making = g.making;
        eight = inner-eight w i sc y r.eight;
        settled = rw o (settled-entering w i (offsets sc) y b r.settled);
        names =
            ap (scope_names (opened w i sc a)) (o ∙ sym (entering-same w (opened w i sc a) g.grown i (offsets sc) y n))
            ∙ names-entered (opened w i sc a) i (offsets sc) y own
            ∙ ap (λ l. into l y) (n ∙ r.names);
        clear = z;
      }
