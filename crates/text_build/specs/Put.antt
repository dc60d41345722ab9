-- The second pass of reading, on the words of a script: what it writes for a process at a place. proofs/Puts: the process stands there then.
-- A part's row is written first, with its names entered into the tables; then its P, its Q and the next part; then what depends on how large these are:
-- the place of Q, the next part, the least place.
-- Serves inner contracts only.
use Rattle.std.specs.Prelude.{ℕ, suc, ◌+◌, ◌-◌, ◌*◌, min, List, [], ◌∷◌, ◌++◌, cond, ltb, length, get_or, set, take}
use Rattle.std.proofs.lemmas.List.Edits.{sets}
use Rattle.terms.specs.Names.{Name}
use Rattle.terms.specs.Terms.{Value, Part, Process}
use Rattle.terms.specs.Terms.Value.{loc, var}
use Rattle.terms.specs.Terms.Part.{stop, go, out, inp, call}
use Rattle.terms.specs.Terms.Process.{one, ◌∥◌}
use Rattle.table.specs.Words.{row_size, chans_at, locs_at, parts_at, def_name, own_at, kind_field, next_field, second_field}
use Rattle.table.specs.Meaning.{list_from}
use Rattle.table.specs.Tests.{key_name}
use Rattle.table.specs.Valid.{index}
use Rattle.table.specs.Size.{size, size_p}
use Rattle.text_build.specs.declared.Scope.{Scope}
use Rattle.text_build.specs.Keys.{key_of}
use Rattle.text_build.specs.Tables.{key_words, held_in, number_in, enlist}
use Rattle.text_build.specs.Rows.{scope_names, timer_word, first_place, second_place}

-- ── scopes ──
abbrev pub offsets : Scope → List ℕ
offsets sc = take sc.n sc.at

-- the slot of a name
unfoldable pub slot_of : List ℕ → Scope → Name → ℕ
slot_of w sc y = index (scope_names w (offsets sc)) (key_name (key_of y))

-- ── names ──
unfoldable pub loc_number : List ℕ → Name → ℕ
loc_number w l = number_in w locs_at (held_in w 1) (key_name (key_of l))

unfoldable pub enter_loc : List ℕ → Name → List ℕ
enter_loc w l = enlist w locs_at 1 (key_of l)

unfoldable pub chan_number : List ℕ → Name → ℕ
chan_number w c = number_in w chans_at (held_in w 2) (key_name (key_of c))

unfoldable pub enter_chan : List ℕ → Name → List ℕ
enter_chan w c = enlist w chans_at 2 (key_of c)

-- an identifier that is not there gets the number behind the last one
unfoldable pub id_number : List ℕ → Name → ℕ
id_number w d = index (list_from 0 (held_in w 3) (def_name w)) (key_name (key_of d))

unfoldable pub value_number : List ℕ → Scope → Value → ℕ
value_number w sc (loc l) = loc_number w l
value_number w sc (var x) = 64 + slot_of w sc x

unfoldable pub enter_value : List ℕ → Value → List ℕ
enter_value w (loc l) = enter_loc w l
enter_value w (var x) = w

-- the arguments of a call, one after the other
unfoldable pub arg_numbers : List ℕ → Scope → List Value → List ℕ
arg_numbers w sc [] = []
arg_numbers w sc (v ∷ vs) = value_number w sc v ∷ arg_numbers (enter_value w v) sc vs

unfoldable pub enter_values : List ℕ → List Value → List ℕ
enter_values w [] = w
enter_values w (v ∷ vs) = enter_values (enter_value w v) vs

unfoldable pub enter_part : List ℕ → Part → List ℕ
enter_part w stop = w
enter_part w (go t v p) = enter_value w v
enter_part w (out c t v p q) = enter_value (enter_chan w c) v
enter_part w (inp c t y p q) = enter_chan w c
enter_part w (call d vs) = enter_values w vs

-- ── a part's row ──
-- kind, name, timer, value, P; Q, next and least place are to come; the scope; arguments or a bound name
unfoldable pub row_words : ℕ → ℕ → ℕ → ℕ → ℕ → Scope → List ℕ → List ℕ
row_words k c t v p sc xs = k ∷ c ∷ t ∷ v ∷ p ∷ 0 ∷ 0 ∷ 0 ∷ sc.n ∷ (sc.at ++ (xs ++ (0 ∷ 0 ∷ 0 ∷ [])))

abbrev pub none₄ : List ℕ
none₄ = 0 ∷ 0 ∷ 0 ∷ 0 ∷ []

abbrev pub first₄ : List ℕ → List ℕ
first₄ xs = get_or xs 0 0 ∷ get_or xs 1 0 ∷ get_or xs 2 0 ∷ get_or xs 3 0 ∷ []

unfoldable pub row_of : List ℕ → ℕ → Scope → Part → List ℕ
row_of w i sc stop = row_words 0 0 0 0 0 sc none₄
row_of w i sc (go t v p) = row_words 1 0 (timer_word t) (value_number w sc v) (first_place i) sc none₄
row_of w i sc (out c t v p q) = row_words 2 (chan_number w c) (timer_word t) (value_number (enter_chan w c) sc v) (first_place i) sc none₄
row_of w i sc (inp c t y p q) = row_words 3 (chan_number w c) (timer_word t) (slot_of w sc y) (first_place i) sc (key_words (key_of y))
row_of w i sc (call d vs) = row_words 4 (id_number w d) 0 (min (length vs) 5) 0 sc (first₄ (arg_numbers w sc vs))

-- names, then the row
unfoldable pub opened : List ℕ → ℕ → Scope → Part → List ℕ
opened w i sc a = sets (enter_part w a) (parts_at + i * row_size + kind_field) (row_of w i sc a)

-- the place of Q
unfoldable pub set_second : List ℕ → ℕ → ℕ → List ℕ
set_second w i q = sets w (parts_at + i * row_size + second_field) (q ∷ [])

-- the next part and the least place
unfoldable pub linked : List ℕ → ℕ → ℕ → ℕ → List ℕ
linked w i n l = sets w (parts_at + i * row_size + next_field) (n ∷ l ∷ [])

-- ── the scope of an input's P: its name is entered if it is not there; a ninth is not, and the word 4 says so (question 4) ──
unfoldable pub inner_scope : List ℕ → ℕ → Scope → Name → Scope
inner_scope w i sc y =
    cond (ltb (slot_of w sc y) sc.n) sc
    (cond (ltb sc.n 8) (record { n = sc.n + 1; at = set sc.at sc.n (own_at i) }) sc)

unfoldable pub scope_mark : List ℕ → Scope → Name → List ℕ
scope_mark w sc y = cond (ltb (slot_of w sc y) sc.n) w (cond (ltb sc.n 8) w (set w 4 1))

-- ── parts and processes ──
unfoldable mutual
  pub put_part : Part → ℕ → Scope → List ℕ → List ℕ
  put_part stop i sc w = opened w i sc stop
  put_part (go t v p) i sc w = put p (first_place i) sc (opened w i sc (go t v p))
  put_part (out c t v p q) i sc w =
      set_second (put q (second_place i p) sc (put p (first_place i) sc (opened w i sc (out c t v p q)))) i (second_place i p)
  put_part (inp c t y p q) i sc w =
      set_second (put q (second_place i p) sc
      (put p (first_place i) (inner_scope w i sc y) (opened (scope_mark w sc y) i sc (inp c t y p q)))) i (second_place i p)
  put_part (call d vs) i sc w = opened w i sc (call d vs)

  pub put : Process → ℕ → Scope → List ℕ → List ℕ
  put (one a) i sc w = linked (put_part a i sc w) i 0 (suc i - size a)
  put (a ∥ p) i sc w = linked (put p (i - size a) sc (put_part a i sc w)) i (suc (i - size a)) (suc i - (size a + size_p p))
