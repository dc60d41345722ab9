-- A part's row as the second pass leaves it holds the part's head: its numbers are those of its names, its Q, next part and least place are set.
-- By the kind of the part, from what entering its names gives.
use Prim.Native.Nat.{ℕ, ◌+◌, ◌*◌, ◌<◌, min}
use native.Mathlib.Omega.{arith}
use mathlib.Core.List.{List, [], ◌∷◌, ◌++◌, map}
use mathlib.Core.Bool.{true}
use mathlib.Core.Path.{◌≡◌, refl, ap, sym, ◌∙◌}
use borrow.Author.Tests.{lt-ltb}
use lib.ListN.{length, length-append}
use lib.Seq.{sets}
use Rattle.terms.specs.Names.{Name}
use Rattle.terms.specs.Terms.{Timer, Part, Process}
use Rattle.terms.specs.Terms.Part.{stop, go, out, inp, call}
use Rattle.terms.proofs.Names.{and_in}
use Rattle.terms.specs.Letters.{is_small}
use Rattle.text.specs.WellFormed.{WellPart}
use Rattle.table.specs.Words.{row_size, owns_at, parts_at, word, name_at, def_name, own_at, bound_at}
use Rattle.table.specs.Meaning.{list_from}
use Rattle.table.specs.Tests.{key_name}
use Rattle.table.specs.Valid.{index}
use Rattle.text_build.specs.declared.Scope.{Scope}
use Rattle.text_build.specs.Keys.{key_of}
use Rattle.text_build.specs.Tables.{key_words, held_in}
use Rattle.text_build.specs.Rows.{Row, chans_of, ids_of, scope_names, timer_word, value_word, first_place, second_place, head_of, chan_known, of_call, args_of}
use Rattle.text_build.specs.Growth.{part_listed, Grown, Frame, Making}
use Rattle.text_build.specs.Put.{offsets, slot_of, chan_number, enter_chan, id_number, value_number, enter_value, arg_numbers, enter_values, enter_part, row_words, row_of, first₄}
use Rattle.text_build.proofs.Grows.{Grew, grew_then, chan-known-is}
use Rattle.text_build.proofs.RowWords.{RowIs, Eight, head_by, row-holds, tail₀, tail₁, tail₂, tail₃}
use Rattle.text_build.proofs.Entering.{Settled, settled_same, small-spelt, id-spelt, value-in, chan-entered, values-in, value-back, values-back, chan-back, grew_none}
use Rattle.text_build.proofs.Kept.{value_same, values_same}

-- the place of a part's Q; 0 where it has none
abbrev pub second_of : ℕ → Part → ℕ
second_of i stop = 0
second_of i (go t v p) = 0
second_of i (out c t v p q) = second_place i p
second_of i (inp c t y p q) = second_place i p
second_of i (call d vs) = 0

-- the row once all is set
abbrev pub finished : List ℕ → ℕ → ℕ → ℕ → List ℕ
finished r q n l = sets r 5 (q ∷ n ∷ l ∷ [])

pub row-length : (w : List ℕ) (i : ℕ) (sc : Scope) (a : Part) → Eight sc → length (row_of w i sc a) ≡ row_size
unfolding row_of row_words
row-length w i sc stop m = let e = m.slots in rw (length-append sc.at (0 ∷ 0 ∷ 0 ∷ 0 ∷ 0 ∷ 0 ∷ 0 ∷ [])) (omega arith)
row-length w i sc (go t v p) m = let e = m.slots in rw (length-append sc.at (0 ∷ 0 ∷ 0 ∷ 0 ∷ 0 ∷ 0 ∷ 0 ∷ [])) (omega arith)
row-length w i sc (out c t v p q) m = let e = m.slots in rw (length-append sc.at (0 ∷ 0 ∷ 0 ∷ 0 ∷ 0 ∷ 0 ∷ 0 ∷ [])) (omega arith)
row-length w i sc (inp c t y p q) m = let e = m.slots in rw (length-append sc.at (key_words (key_of y) ++ (0 ∷ 0 ∷ 0 ∷ []))) (omega arith)
row-length w i sc (call d vs) m = let e = m.slots in rw (length-append sc.at (first₄ (arg_numbers w sc vs) ++ (0 ∷ 0 ∷ 0 ∷ []))) (omega arith)

-- ── the names of a part ──
pub part-back : (a : Part) (w : List ℕ) → word (enter_part w a) 4 ≡ 0 → word w 4 ≡ 0
unfolding enter_part
part-back stop w e = e
part-back (go t v p) w e = value-back w v e
part-back (out c t v p q) w e = chan-back w c (value-back (enter_chan w c) v e)
part-back (inp c t y p q) w e = chan-back w c e
part-back (call d vs) w e = values-back vs w e

pub record PartIn (w v : List ℕ) (a : Part) : Type 0 where
  pub grew : (low i : ℕ) → Grew w v low i
  pub listed : part_listed v a ≡ true

chan-known : (v : List ℕ) (c : Name) → index (chans_of v) c < length (chans_of v) → chan_known v c ≡ true
chan-known v c h = chan-known-is v c ∙ lt-ltb (index (chans_of v) c) (length (chans_of v)) h

pub slot_is : (w : List ℕ) (sc : Scope) (y : Name) → is_small y ≡ true → slot_of w sc y ≡ index (scope_names w (offsets sc)) y
unfolding slot_of
slot_is w sc y e = ap (index (scope_names w (offsets sc))) (small-spelt y e)

-- all identifiers are looked through, as there are at most 32
id-held : (w : List ℕ) → Making w → (d : Name) → id_number w d ≡ index (ids_of w) (key_name (key_of d))
unfolding id_number ids_of held_in
id-held w m d = let h = m.defs in ap (λ n. index (list_from 0 n (def_name w)) (key_name (key_of d))) (omega arith)

module _ (w : List ℕ) (m : Making w) where
  pub part_in : (a : Part) → WellPart a → word (enter_part w a) 4 ≡ 0 → PartIn w (enter_part w a) a
  unfolding enter_part part_listed
  part_in stop e z = record { grew = grew_none w m; listed = refl }
  part_in (go t v p) e z = let r = value-in w m v e.1 z in record { grew = r.grew; listed = r.listed }
  part_in (out c t v p q) e z =
      let n = chan-entered w m c e.0 (value-back (enter_chan w c) v z) in
      let r = value-in (enter_chan w c) (n.grew 0 0).making v e.2 z in
      record {
        grew = λ low i. grew_then low i (n.grew low i) (r.grew low i) (omega arith) (omega arith) (omega arith) (omega arith);
        listed = and_in _ _ ((r.grew 0 0).grown.chans-on c (chan-known _ c n.within)) r.listed;
      }
  part_in (inp c t y p q) e z = let n = chan-entered w m c e.0 z in record { grew = n.grew; listed = chan-known _ c n.within }
  part_in (call d vs) e z = let r = values-in vs w m e.1 z in record { grew = r.grew; listed = r.listed }

  -- ── the row of a part, in a later script u ──
  module _ (u : List ℕ) (i low n l : ℕ) (sc : Scope) (m₈ : Eight sc) (s : Settled i (offsets sc)) where
    pub part-row : (a : Part) → WellPart a → word (enter_part w a) 4 ≡ 0 → Grown (enter_part w a) u → Frame (enter_part w a) u low i
        → RowIs u i (finished (row_of w i sc a) (second_of i a) n l)
        → Row u i (head_of u i (scope_names u (offsets sc)) a) (args_of u (scope_names u (offsets sc)) a) n l (offsets sc)
    unfolding enter_part row_of row_words head_of head_by args_of of_call
    part-row stop e z g f r = row-holds u i 0 0 0 0 0 0 n l sc 0 0 0 0 r m₈ refl refl
    part-row (go t v p) e z g f r =
        let x = value-in w m v e.1 z in
        let y : value_number w sc v ≡ value_word u (scope_names u (offsets sc)) v =
        x.number i sc s ∙ ap (λ ys. value_word (enter_value w v) ys v) (sym (settled_same _ u low i (offsets sc) f s)) ∙ sym (value_same _ u g _ v x.listed) in
        rw (← y) (row-holds u i 1 0 (timer_word t) (value_number w sc v) (first_place i) 0 n l sc 0 0 0 0 r m₈ refl refl)
    part-row (out c t v p q) e z g f r =
        let k = chan-entered w m c e.0 (value-back (enter_chan w c) v z) in
        let x = value-in (enter_chan w c) (k.grew 0 0).making v e.2 z in
        let h = chan-known _ c k.within in
        let j : chan_number w c ≡ index (chans_of u) c =
        k.has ∙ sym ((x.grew 0 0).grown.chans c h) ∙ sym (g.chans c ((x.grew 0 0).grown.chans-on c h)) in
        let y : value_number (enter_chan w c) sc v ≡ value_word u (scope_names u (offsets sc)) v =
        x.number i sc s ∙ ap (λ ys. value_word (enter_value (enter_chan w c) v) ys v) (sym (settled_same _ u low i (offsets sc) f s)) ∙ sym (value_same _ u g _ v x.listed) in
        rw (← j, ← y) (row-holds u i 2 (chan_number w c) (timer_word t) (value_number (enter_chan w c) sc v) (first_place i) (second_place i p) n l sc 0 0 0 0 r m₈ refl refl)
    part-row (inp c t y p q) e z g f r =
        let k = chan-entered w m c e.0 z in
        let j : chan_number w c ≡ index (chans_of u) c = k.has ∙ sym (g.chans c (chan-known _ c k.within)) in
        let x : slot_of w sc y ≡ index (scope_names u (offsets sc)) y =
        slot_is w sc y e.2 ∙ ap (λ ys. index ys y) (sym (settled_same _ u low i (offsets sc) f s ∙ settled_same w _ low i (offsets sc) (k.grew low i).frame s)) in
        rw (← j, ← x) (row-holds u i 3 (chan_number w c) (timer_word t) (slot_of w sc y) (first_place i) (second_place i p) n l sc _ _ _ _ r m₈ refl refl)
    part-row (call d vs) e z g f r =
        let x = values-in vs w m e.1 z in
        let k : id_number w d ≡ index (ids_of u) d = id-held w m d ∙ ap (index (ids_of w)) (id-spelt d e.0) ∙ sym (g.ids d ∙ (x.grew 0 0).grown.ids d) in
        let y : arg_numbers w sc vs ≡ map (value_word u (scope_names u (offsets sc))) vs =
        x.numbers i sc s ∙ ap (λ ys. map (value_word (enter_values w vs) ys) vs) (sym (settled_same _ u low i (offsets sc) f s)) ∙ sym (values_same _ u g _ vs x.listed) in
        rw (← k, ← y) (row-holds u i 4 (id_number w d) 0 (min (length vs) 5) 0 0 n l sc _ _ _ _ r m₈ refl refl)

    -- the name that an input binds, its Q being at j
    pub own_name : (c : Name) (t : Timer) (y : Name) (p q : Process) (j : ℕ) → WellPart (inp c t y p q)
        → RowIs u i (finished (row_of w i sc (inp c t y p q)) j n l)
        → bound_at u i ≡ y
    unfolding row_of row_words bound_at name_at own_at
    own_name c t y p q j e r =
        let k = key_of y in
        let q₀ : owns_at + i * row_size ≡ parts_at + i * row_size + 17 = omega arith in
        let q₁ : owns_at + i * row_size + 1 ≡ parts_at + i * row_size + 18 = omega arith in
        let q₂ : owns_at + i * row_size + 2 ≡ parts_at + i * row_size + 19 = omega arith in
        let q₃ : owns_at + i * row_size + 3 ≡ parts_at + i * row_size + 20 = omega arith in
        rw (
          q₁,
          q₂,
          q₃,
          q₀,
          tail₀ u i 3 (chan_number w c) (timer_word t) (slot_of w sc y) (first_place i) j n l sc k.a k.b k.c k.d r m₈,
          tail₁ u i 3 (chan_number w c) (timer_word t) (slot_of w sc y) (first_place i) j n l sc k.a k.b k.c k.d r m₈,
          tail₂ u i 3 (chan_number w c) (timer_word t) (slot_of w sc y) (first_place i) j n l sc k.a k.b k.c k.d r m₈,
          tail₃ u i 3 (chan_number w c) (timer_word t) (slot_of w sc y) (first_place i) j n l sc k.a k.b k.c k.d r m₈,
        )
        (small-spelt y e.2)
