-- What is given, as words of a script and read from them: rows of rights by induction on their number; and a script put back as it was.
use Prim.Native.Nat.{ℕ, zero, suc, ◌+◌, ◌-◌, ◌*◌, ◌≤◌, ◌<◌}
use native.Mathlib.Omega.{arith}
use native.Mathlib.Numerals.{add-one}
use mathlib.Core.Bool.{Bool, true, false}
use mathlib.Core.List.{List, [], ◌∷◌, ◌++◌, flat_map, append_assoc, append-nil}
use mathlib.Core.Path.{◌≡◌, refl, sym, ap, ap₂, ◌∙◌}
use lib.Dec.{eqb, ltb}
use Rattle.std.specs.Int.{from_bool}
use lib.ListN.{length, get_or, set, take, length-set, length-append, get_or-append, drop, length-drop}
use lib.Seq.{sets, length-sets, get_or-set_same, get_or-append-add, get_or-take, ext_get_or, length-take-le}
use Rattle.std.proofs.lemmas.List.{get_or-drop}
use borrow.Author.Tests.{eqb-true, eqb-false, ltb-true, ltb-false}
use Rattle.terms.specs.Names.{Name}
use Rattle.terms.specs.Terms.{Network, context_in}
use Rattle.terms.specs.Clock.{edition_of}
use Rattle.terms.specs.Rights.{by_name}
use Rattle.table.specs.declared.State.{State}
use Rattle.table.specs.Words.{edition_at, rights_at, rights_size, send_field, receive_field, leave_field, script_words, word, locs_in, chans_in, edition_in, right_at, rights_in, loc_name, chan_name}
use Rattle.text.specs.Questions.{form}
use Rattle.table.specs.Meaning.{list_from, rights_of, context_of, network_of}
use Rattle.table.specs.Valid.{valid}
use Rattle.table.proofs.InUse.{valid-script}
use Rattle.table.proofs.Tests.{script-fine}
use Rattle.table.proofs.Stores.{set_out, sets-under, sets-in, list_from-end}
use Rattle.table.proofs.ValidLists.{list_from-length, list_from-at}
use Rattle.text_build.specs.Rows.{locs_of, chans_of}
use Rattle.text_build.proofs.Writes.{sets-append}
use Rattle.text_answer.specs.declared.Row.{Row}
use Rattle.text_answer.specs.declared.Settings.{Settings}
use Rattle.text_answer.specs.declared.Reading.{Reading}
use Rattle.text_answer.specs.Answer.{no_row, given, flag, flags, row_words, rights_words, under, locations_in, channels_in, Took}
use Rattle.text_answer.proofs.Kept.{Front}
use Rattle.text_answer.proofs.Named.{Agree, by_name-agree}

-- ── one right ──
pub right_word : (b : Bool) → from_bool b ≡ flag b
right_word true = refl
right_word false = refl

-- ── one word more, one row more ──
pub stores-more : (f : ℕ → ℕ) (w : List ℕ) (o i : ℕ) → set (sets w o (list_from 0 i f)) (o + i) (f i) ≡ sets w o (list_from 0 (i + 1) f)
stores-more f w o i =
    let z : 0 + i ≡ i = omega arith in
    sets-append (list_from 0 i f) (f i ∷ []) w o (o + i) (ap (λ n. o + n) (list_from-length 0 i f))
    ∙ sym (ap (sets w o) (ap (λ n. list_from 0 n f) (add-one i) ∙ list_from-end 0 i f ∙ ap (λ n. list_from 0 i f ++ (f n ∷ [])) z))

length-flags : (bs : List Bool) → length (flags bs) ≡ 64
unfolding flags
length-flags bs = list_from-length 0 64 _

pub length-row : (r : Row) → length (row_words r) ≡ rights_size
unfolding row_words
length-row r =
    omega
    (arith, length-append (flags r.send) (flags r.receive ++ flags r.leave), length-append (flags r.receive) (flags r.leave), length-flags r.send, length-flags r.receive, length-flags r.leave)

-- a row is its rights to send, to receive and to leave, one after the other
pub row_put : (r : Row) (w a b d : List ℕ) (o : ℕ) → a ≡ sets w (o + send_field) (flags r.send) → b ≡ sets a (o + receive_field) (flags r.receive) → d ≡ sets b (o + leave_field) (flags r.leave)
    → d ≡ sets w o (row_words r)
unfolding row_words
row_put r w a b d o e f g =
    let z : o + send_field ≡ o = omega arith in
    g
    ∙ ap (λ x. sets x (o + leave_field) (flags r.leave)) f
    ∙ sets-append (flags r.receive) (flags r.leave) a (o + receive_field) (o + leave_field) (omega (arith, length-flags r.receive))
    ∙ ap (λ x. sets x (o + receive_field) (flags r.receive ++ flags r.leave)) (e ∙ ap (λ n. sets w n (flags r.send)) z)
    ∙ sets-append (flags r.send) (flags r.receive ++ flags r.leave) w o (o + receive_field) (omega (arith, length-flags r.send))

rows_end : (k n : ℕ) (f : ℕ → Row) → flat_map row_words (list_from k (suc n) f) ≡ flat_map row_words (list_from k n f) ++ row_words (f (k + n))
unfolding list_from flat_map
rows_end k zero f = let z : k + 0 ≡ k = omega arith in rw z (append-nil (row_words (f k)))
rows_end k (suc n) f =
    let z : k + suc n ≡ suc k + n = omega arith in
    rw z (ap (λ x. row_words (f k) ++ x) (rows_end (suc k) n f) ∙ sym (append_assoc (row_words (f k)) (flat_map row_words (list_from (suc k) n f)) (row_words (f (suc k + n)))))

pub rows-length : (k n : ℕ) (f : ℕ → Row) → length (flat_map row_words (list_from k n f)) ≡ n * rights_size
unfolding list_from flat_map
rows-length k zero f = refl
rows-length k (suc n) f = omega (arith, length-append (row_words (f k)) (flat_map row_words (list_from (suc k) n f)), length-row (f k), rows-length (suc k) n f)

pub rows_more : (f : ℕ → Row) (w : List ℕ) (o i : ℕ) → sets (sets w o (flat_map row_words (list_from 0 i f))) (o + i * rights_size) (row_words (f i)) ≡ sets w o (flat_map row_words (list_from 0 (i + 1) f))
rows_more f w o i =
    let z : 0 + i ≡ i = omega arith in
    sets-append (flat_map row_words (list_from 0 i f)) (row_words (f i)) w o (o + i * rights_size) (ap (λ n. o + n) (rows-length 0 i f))
    ∙ sym (ap (sets w o) (ap (λ n. flat_map row_words (list_from 0 n f)) (add-one i) ∙ rows_end 0 i f ∙ ap (λ n. flat_map row_words (list_from 0 i f) ++ row_words (f n)) z))

-- ── the words of a right ──
flags-at : (bs : List Bool) (c : ℕ) → c < 64 → get_or (flags bs) c 0 ≡ flag (get_or bs c false)
unfolding flags
flags-at bs c h = let z : 0 + c ≡ c = omega arith in list_from-at 0 64 (λ k. flag (get_or bs k false)) c 0 h ∙ ap (λ k. flag (get_or bs k false)) z

module _ (r : Row) (c : ℕ) (h : c < 64) where
  row-send : get_or (row_words r) (send_field + c) 0 ≡ flag (get_or r.send c false)
  unfolding row_words
  row-send =
      let z : send_field + c ≡ c = omega arith in
      ap (λ n. get_or (flags r.send ++ (flags r.receive ++ flags r.leave)) n 0) z
      ∙ get_or-append (flags r.send) (flags r.receive ++ flags r.leave) 0 c (omega (arith, length-flags r.send))
      ∙ flags-at r.send c h

  row-receive : get_or (row_words r) (receive_field + c) 0 ≡ flag (get_or r.receive c false)
  unfolding row_words
  row-receive =
      ap (λ n. get_or (flags r.send ++ (flags r.receive ++ flags r.leave)) (n + c) 0) (sym (length-flags r.send))
      ∙ get_or-append-add (flags r.send) (flags r.receive ++ flags r.leave) c 0
      ∙ get_or-append (flags r.receive) (flags r.leave) 0 c (omega (arith, length-flags r.receive))
      ∙ flags-at r.receive c h

  row-leave : get_or (row_words r) (leave_field + c) 0 ≡ flag (get_or r.leave c false)
  unfolding row_words
  row-leave =
      let z : leave_field + c ≡ length (flags r.send) + (length (flags r.receive) + c) = omega (arith, length-flags r.send, length-flags r.receive) in
      ap (λ n. get_or (flags r.send ++ (flags r.receive ++ flags r.leave)) n 0) z
      ∙ get_or-append-add (flags r.send) (flags r.receive ++ flags r.leave) (length (flags r.receive) + c) 0
      ∙ get_or-append-add (flags r.receive) (flags r.leave) c 0
      ∙ flags-at r.leave c h

rows_at : (k n : ℕ) (f : ℕ → Row) (i j : ℕ) → i < n → j < rights_size → get_or (flat_map row_words (list_from k n f)) (i * rights_size + j) 0 ≡ get_or (row_words (f (k + i))) j 0
unfolding list_from flat_map
rows_at k zero f i j h b = absurd (omega arith)
rows_at k (suc n) f zero j h b =
    let z : 0 * rights_size + j ≡ j = omega arith in
    let y : k ≡ k + 0 = omega arith in
    ap (λ m. get_or (row_words (f k) ++ flat_map row_words (list_from (suc k) n f)) m 0) z
    ∙ get_or-append (row_words (f k)) (flat_map row_words (list_from (suc k) n f)) 0 j (omega (arith, length-row (f k)))
    ∙ ap (λ m. get_or (row_words (f m)) j 0) y
rows_at k (suc n) f (suc i) j h b =
    let z : suc i * rights_size + j ≡ length (row_words (f k)) + (i * rights_size + j) = omega (arith, length-row (f k)) in
    let y : suc k + i ≡ k + suc i = omega arith in
    ap (λ m. get_or (row_words (f k) ++ flat_map row_words (list_from (suc k) n f)) m 0) z
    ∙ get_or-append-add (row_words (f k)) (flat_map row_words (list_from (suc k) n f)) (i * rights_size + j) 0
    ∙ rows_at (suc k) n f i j (omega arith) b
    ∙ ap (λ m. get_or (row_words (f m)) j 0) y

rights-length : (rs : List Row) → length (rights_words rs) ≡ 64 * rights_size
unfolding rights_words
rights-length rs = rows-length 0 64 _

rights-at : (rs : List Row) (l k : ℕ) → l < 64 → k < rights_size → get_or (rights_words rs) (l * rights_size + k) 0 ≡ get_or (row_words (get_or rs l no_row)) k 0
unfolding rights_words
rights-at rs l k h b = let z : 0 + l ≡ l = omega arith in rows_at 0 64 (λ i. get_or rs i no_row) l k h b ∙ ap (λ i. get_or (row_words (get_or rs i no_row)) k 0) z

flag-read : (b : Bool) → eqb (flag b) 1 ≡ b
flag-read true = refl
flag-read false = refl

-- ── a script with what was given ──
module _ (g : Settings) (w : List ℕ) where
  pub under-length : length (under g w) ≡ length w
  under-length = length-sets (set w edition_at g.edition) rights_at (rights_words g.rights) ∙ length-set w edition_at g.edition

  -- the words before the edition, and all between it and the rights, stay
  pub under-front : (o : ℕ) → o < rights_at → (o ≡ edition_at → ⊥) → word (under g w) o ≡ word w o
  under-front o h n = sets-under (rights_words g.rights) (set w edition_at g.edition) rights_at o h ∙ set_out w edition_at o g.edition n

  module _ (size : length w ≡ script_words) where
    pub under-edition : edition_in (under g w) ≡ g.edition
    under-edition = sets-under (rights_words g.rights) (set w edition_at g.edition) rights_at edition_at (omega arith) ∙ get_or-set_same w edition_at g.edition 0 (omega (arith, size))

    under-right : (l k : ℕ) → l < 64 → k < rights_size → word (under g w) (rights_at + l * rights_size + k) ≡ get_or (row_words (get_or g.rights l no_row)) k 0
    under-right l k h b =
        let z : rights_at + l * rights_size + k ≡ rights_at + (l * rights_size + k) = omega arith in
        ap (word (under g w)) z
        ∙ sets-in (rights_words g.rights) (set w edition_at g.edition) rights_at (l * rights_size + k) (omega (arith, rights-length g.rights)) (omega (arith, rights-length g.rights, length-set w edition_at g.edition, size))
        ∙ rights-at g.rights l k h b

    -- ── read from a script whose words of rights are these ──
    module _ (v : List ℕ) (same : (o : ℕ) → rights_at ≤ o → word v o ≡ word (under g w) o) where
      right_is : (f l c : ℕ) (b : Bool) → l < 64 → f + c < rights_size → get_or (row_words (get_or g.rights l no_row)) (f + c) 0 ≡ flag b → right_at v f l c ≡ b
      unfolding right_at
      right_is f l c b h k e = ap (λ x. eqb x 1) (same (rights_at + l * rights_size + (f + c)) (omega arith) ∙ under-right l (f + c) h k ∙ e) ∙ flag-read b

      -- a right is given by the script exactly if it was given
      pub rights-given : Agree 64 64 (rights_in v) (given g)
      unfolding rights_in given
      rights-given = record {
        send = λ l c h k. right_is send_field l c _ h (omega arith) (row-send (get_or g.rights l no_row) c k);
        receive = λ l c h k. right_is receive_field l c _ h (omega arith) (row-receive (get_or g.rights l no_row) c k);
        leave = λ l c h k. right_is leave_field l c _ h (omega arith) (row-leave (get_or g.rights l no_row) c k);
      }

      -- and so by name, in a valid table
      pub names-given : (st : State) → valid v st ≡ true → {ls cs : List Name} → locs_of v ≡ ls → chans_of v ≡ cs → rights_of v ≡ by_name ls cs (given g)
      unfolding rights_of locs_of chans_of
      names-given st good e f =
          let fine = script-fine v (valid-script v st good) in
          let a = fine.locs in
          let b = fine.chans in
          let m = list_from-length 0 (locs_in v) (loc_name v) in
          let n = list_from-length 0 (chans_in v) (chan_name v) in
          by_name-agree _ _ (rights_in v) (given g) (record {
            send = λ l c h k. rights-given.send l c (omega arith) (omega arith);
            receive = λ l c h k. rights-given.receive l c (omega arith) (omega arith);
            leave = λ l c h k. rights-given.leave l c (omega arith) (omega arith);
          })
          ∙ ap₂ (λ x y. by_name x y (given g)) e f

-- ── what the rules take of an accepted text: its definitions, the edition and the rights that were given ──
pub took-context : {s w v : List ℕ} {g : Settings} {m : Network} {r : Reading} → Took s g w v m r
    → context_of v ≡ context_in (edition_of g.edition) (by_name (locations_in (form s)) (channels_in (form s)) (given g)) m
unfolding context_of network_of
took-context t = rw (ap (λ n. n.defs) t.network, t.edition, t.rights)

-- ── put back ──
-- a script w got what is given, and nothing else changed; then its rights, kept aside before, and its edition were put back
module _ (g : Settings) (w : List ℕ) (size : length w ≡ script_words) (k : List ℕ) (kept : k ≡ take (64 * rights_size) (drop rights_at w)) where
  abbrev back : List ℕ
  back = sets (under g w) rights_at k

  long : length k ≡ 64 * rights_size
  long = ap length kept ∙ length-take-le (64 * rights_size) (drop rights_at w) (omega (arith, length-drop rights_at w, size))

  back_long : length back ≡ script_words
  back_long = length-sets (under g w) rights_at k ∙ under-length g w ∙ size

  back-word : (o : ℕ) → o < script_words → (o ≡ edition_at → ⊥) → word back o ≡ word w o
  back-word o h n = go (ltb o rights_at) refl
    where
      go : (t : Bool) → ltb o rights_at ≡ t → word back o ≡ word w o
      go true e = let b = ltb-true o rights_at e in sets-under k (under g w) rights_at o b ∙ under-front g w o b n
      go false e =
          let b = ltb-false o rights_at e in
          let j : o - rights_at < 64 * rights_size = omega arith in
          let z : o ≡ rights_at + (o - rights_at) = omega arith in
          ap (word back) z
          ∙ sets-in k (under g w) rights_at (o - rights_at) (omega (arith, long)) (omega (arith, long, under-length g w, size))
          ∙ ap (λ l. get_or l (o - rights_at) 0) kept
          ∙ get_or-take (64 * rights_size) (drop rights_at w) (o - rights_at) 0 j
          ∙ get_or-drop rights_at w (o - rights_at) 0
          ∙ ap (word w) (sym z)

  again : set back edition_at (word w edition_at) ≡ w
  again = ext_get_or 0 (set back edition_at (word w edition_at)) w (length-set back edition_at (word w edition_at) ∙ back_long ∙ sym size) (λ o h. go o (omega (arith, length-set back edition_at (word w edition_at), back_long)) (eqb o edition_at) refl)
    where
      go : (o : ℕ) → o < script_words → (t : Bool) → eqb o edition_at ≡ t → word (set back edition_at (word w edition_at)) o ≡ word w o
      go o h true e =
          let i = eqb-true o edition_at e in
          ap (word (set back edition_at (word w edition_at))) i ∙ get_or-set_same back edition_at (word w edition_at) 0 (omega (arith, back_long)) ∙ ap (word w) (sym i)
      go o h false e = let n = eqb-false o edition_at e in set_out back edition_at o (word w edition_at) n ∙ back-word o h n

  pub copied_back : {u v x y : List ℕ} {b : ℕ} → u ≡ under g w → v ≡ u → x ≡ sets v rights_at k → b ≡ word w edition_at → y ≡ set x edition_at b → y ≡ w
  copied_back p q r s t = t ∙ rw (r, q, p, s) again

-- the same of rights that were kept aside in front of some words
module _ (g : Settings) (w : List ℕ) (size : length w ≡ script_words) {k₀ k : List ℕ} (kept : Front (64 * rights_size) (λ o. word w (rights_at + o)) k₀ k) (room : 64 * rights_size ≤ length k) where
  front-taken : take (64 * rights_size) k ≡ take (64 * rights_size) (drop rights_at w)
  front-taken =
      let a = length-take-le (64 * rights_size) k room in
      let b = length-take-le (64 * rights_size) (drop rights_at w) (omega (arith, length-drop rights_at w, size)) in
      ext_get_or 0 (take (64 * rights_size) k) (take (64 * rights_size) (drop rights_at w)) (a ∙ sym b) (λ o h.
      let j : o < 64 * rights_size = omega (arith, a) in
      get_or-take (64 * rights_size) k o 0 j ∙ kept.front o j ∙ sym (get_or-take (64 * rights_size) (drop rights_at w) o 0 j ∙ get_or-drop rights_at w o 0))

  pub given_back : {u v x y : List ℕ} {b : ℕ} → u ≡ under g w → v ≡ u → x ≡ sets v rights_at (take (64 * rights_size) k) → b ≡ word w edition_at → y ≡ set x edition_at b → y ≡ w
  given_back p q r s t = copied_back g w size (take (64 * rights_size) k) front-taken p q r s t
