-- A part up to its first process, from what the code read and wrote of it: `go-open`, `out-open`, `in-open`, `call-open`, `stop-open`;
-- and which of these a part is, by the sort of its first word.
use Prim.Native.Nat.{ℕ, ◌+◌, ◌-◌, ◌*◌, ◌≤◌, ◌<◌}
use native.Mathlib.Omega.{arith}
use mathlib.Core.List.{List, ◌∷◌}
use mathlib.Core.Path.{◌≡◌, refl, sym, ap, subst, ◌∙◌}
use borrow.Author.Tests.{lt-ltb, le-ltb}
use lib.ListN.{length, drop, set}
use lib.Seq.{sets}
use Rattle.terms.specs.Names.{Name, same_name}
use Rattle.terms.specs.Terms.{Value}
use Rattle.text.specs.Tokens.{Token, lex}
use Rattle.text.specs.Tokens.Token.{word}
use Rattle.text.specs.Syntax.{Span, Part, Process}
use Rattle.text.specs.Syntax.Part.{stop, go, out, inp, call}
use Rattle.text.specs.Tree.{settle}
use Rattle.text.specs.Grammar.{Head, head_of}
use Rattle.text.specs.Grammar.Head.{stops, goes, sends, receives, calls, nothing}
use Rattle.text.specs.Write.{part_t}
use Rattle.text.specs.WellFormed.{WellPart}
use Rattle.text.proofs.ReadBack.{identifier-calls}
use Rattle.text_words.specs.declared.Sort.{Sort}
use Rattle.text_words.specs.Sorts.{sort_of, head_is}
use Rattle.text_words.proofs.WordSorts.{head-is}
use Rattle.table.specs.declared.Key.{Key}
use Rattle.table.specs.Words.{row_size, chans_at, owns_at, parts_at, def_name, own_at, ids_at, kind_field}
use Rattle.table.specs.Meaning.{list_from}
use Rattle.table.specs.Tests.{key_name, row_name}
use Rattle.table.specs.Valid.{index}
use Rattle.text_build.specs.declared.Scope.{Scope}
use Rattle.text_build.specs.Keys.{key_of}
use Rattle.text_build.specs.Tables.{held_in, enlist, key_words, Enlisted}
use Rattle.text_build.specs.Rows.{scope_names}
use Rattle.text_build.specs.Put.{offsets, slot_of, chan_number, enter_chan, id_number, enter_part, row_words, row_of, opened, inner_scope, scope_mark}
use Rattle.text_build.proofs.Tables.{number-within}
use Rattle.text_put.specs.declared.Pair.{Pair}
use Rattle.text_put.specs.declared.Front.{Front}
use Rattle.text_put.specs.declared.Args.{Args}
use Rattle.std.specs.Prelude.{Option}
use Rattle.text_put.specs.declared.Open.{Open}
use Rattle.text_put.specs.Found.{Gives, PairIs, FrontIs, name_of, ValueBy, entered_by, marked_by, Marked, ListAt, ArgsAre}
use Rattle.text_parts.specs.declared.Form.TheVariants.{Leaf, One, Two}
use Rattle.text_put.specs.Opened.{PartAt, TailAt, rest, head_name, tail_t, OpenIs}
use Rattle.text_put.proofs.Arguments.{slot-few, value-is, value_after}

abbrev pub no_words : Key
no_words = record { a = 0; b = 0; c = 0; d = 0 }

-- ── an input's name ──
module _ (sc : Scope) (i j : ℕ) where
  pub entered-there : j < sc.n → sc ≡ entered_by sc i j
  entered-there h = rw (lt-ltb j sc.n h)

  pub entered-new : sc.n ≤ j → sc.n < 8 → record { n = sc.n + 1; at = set sc.at sc.n (owns_at + i * row_size) } ≡ entered_by sc i j
  unfolding own_at
  entered-new h k = rw (le-ltb j sc.n h, lt-ltb sc.n 8 k)

  pub entered-full : sc.n ≤ j → 8 ≤ sc.n → sc ≡ entered_by sc i j
  entered-full h k = rw (le-ltb j sc.n h, le-ltb sc.n 8 k)

module _ (w : List ℕ) (sc : Scope) (k : Key) (j : ℕ) (e : j ≡ index (scope_names w (offsets sc)) (key_name k)) (few : sc.n ≤ 8) (eight : length sc.at ≡ 8) where
  there : j ≤ 8
  there = omega (arith, slot-few w sc few eight (key_name k))

  pub marked-there : j < sc.n → Marked w w sc k j j
  marked-there h = record { after = rw (lt-ltb j sc.n h); slot = e; few = there }

  pub marked-new : sc.n ≤ j → sc.n < 8 → Marked w w sc k j j
  marked-new h l = record { after = rw (le-ltb j sc.n h, lt-ltb sc.n 8 l); slot = e; few = there }

  pub marked-full : sc.n ≤ j → 8 ≤ sc.n → (r : ℕ) → r ≡ index (scope_names (set w 4 1) (offsets sc)) (key_name k) → Marked w (set w 4 1) sc k j r
  marked-full h l r f = record { after = rw (le-ltb j sc.n h, le-ltb sc.n 8 l); slot = f; few = omega (arith, slot-few (set w 4 1) sc few eight (key_name k)) }

-- ── numbers of channels are small ──
pub chan-few : {w v : List ℕ} {k : Key} {r : ℕ} → Enlisted w v chans_at 2 k r → r ≤ 64
unfolding held_in
chan-few {w} {k = k} e = omega (arith, e.place, number-within w chans_at (held_in w 2) (key_name k))

-- ── each form ──
module _ (s w v : List ℕ) (i : ℕ) (sc : Scope) (us : List Token) (pl : ℕ) (q : pl ≡ i - 1) where
  pub stop-open : (at : ℕ) → lex (drop at s) ≡ us → (nk : Key) → nk ≡ no_words → v ≡ sets w (parts_at + i * row_size + kind_field) (row_words 0 0 0 0 0 sc (key_words nk)) → OpenIs s w v i sc (record { end = at; form = Leaf; inner = sc }) stop us
  unfolding opened enter_part row_of
  stop-open at g nk z e = record { left = g; form = refl; inner = refl; after = e ∙ rw z }

  pub go-open : (t : Span) (x : Value) (p : Process) → WellPart (settle (go t x p)) → (r : Pair) → PairIs s r t (name_of x) (rest (go t x p) us) → {u : List ℕ} {m : ℕ} → ValueBy w u sc r.key r.capital m
      → (nk : Key) → nk ≡ no_words → v ≡ sets u (parts_at + i * row_size + kind_field) (row_words 1 0 r.t m pl sc (key_words nk)) → OpenIs s w v i sc (record { end = r.end; form = One; inner = sc }) (go t x p) us
  unfolding opened enter_part row_of
  go-open t x p f r a b nk z e = record {
    left = a.left;
    form = refl;
    inner = refl;
    after = e ∙ rw (value_after x f.1 a.key a.capital b, a.timer, value-is x f.1 a.key a.capital b, q, z);
  }

  pub out-open : (c : Name) (t : Span) (x : Value) (p p' : Process) → WellPart (settle (out c t x p p')) → (r : Front) → FrontIs s r c t (name_of x) (rest (out c t x p p') us) → {u u' : List ℕ} {m n : ℕ} → Enlisted w u chans_at 2 r.chan n → ValueBy u u' sc r.key r.capital m
      → (nk : Key) → nk ≡ no_words → v ≡ sets u' (parts_at + i * row_size + kind_field) (row_words 2 n r.t m pl sc (key_words nk)) → OpenIs s w v i sc (record { end = r.end; form = Two; inner = sc }) (out c t x p p') us
  unfolding opened enter_part row_of chan_number enter_chan
  out-open c t x p p' f r a {u} d b nk z e =
      let g : u ≡ enlist w chans_at 2 (key_of c) = d.after ∙ ap (enlist w chans_at 2) a.chan in
      record {
        left = a.left;
        form = refl;
        inner = refl;
        after = e ∙ rw (value_after x f.2 a.key a.capital b, a.timer, value-is x f.2 a.key a.capital b, q, z, d.place, a.chan, g);
      }

  pub in-open : (c : Name) (t : Span) (y : Name) (p p' : Process) (r : Front) → FrontIs s r c t y (rest (inp c t y p p') us) → {j : ℕ} → j ≡ index (scope_names w (offsets sc)) (key_name r.key) → (k : Scope) → k ≡ entered_by sc i j
      → {u u' : List ℕ} {m n : ℕ} → Marked w u sc r.key j m → Enlisted u u' chans_at 2 r.chan n
      → v ≡ sets u' (parts_at + i * row_size + kind_field) (row_words 3 n r.t m pl sc (key_words r.key)) → OpenIs s w v i sc (record { end = r.end; form = Two; inner = k }) (inp c t y p p') us
  unfolding opened enter_part row_of chan_number enter_chan inner_scope scope_mark slot_of
  in-open c t y p p' r a {j} h k l {u} {u'} b d e =
      let o : j ≡ index (scope_names w (offsets sc)) (key_name (key_of y)) = h ∙ ap (λ x. index (scope_names w (offsets sc)) (key_name x)) a.key in
      let g : u ≡ marked_by w sc (index (scope_names w (offsets sc)) (key_name (key_of y))) = b.after ∙ ap (marked_by w sc) o in
      let n : u' ≡ enlist u chans_at 2 (key_of c) = d.after ∙ ap (enlist u chans_at 2) a.chan in
      record {
        left = a.left;
        form = refl;
        inner = l ∙ ap (entered_by sc i) o;
        after = e ∙ rw (n, d.place, a.chan, a.timer, b.slot, a.key, q, g);
      }

  pub call-open : (d : Name) (vs : List Value) (r : Args) {u : List ℕ} → ArgsAre s w u sc r vs us → (x : Key) → x ≡ key_of d → {n m : ℕ} → n ≡ held_in w 3 → m ≡ index (list_from 0 n (row_name w ids_at row_size)) (key_name x)
      → v ≡ sets u (parts_at + i * row_size + kind_field) (row_words 4 m 0 r.n 0 sc (key_words r.first)) → OpenIs s w v i sc (record { end = r.end; form = Leaf; inner = sc }) (call d vs) us
  unfolding opened enter_part row_of id_number def_name row_name
  call-open d vs r a x h {n} {m} g l e = record {
    left = a.left;
    form = refl;
    inner = refl;
    after = e ∙ rw (a.after, l, g, h, a.count, a.words);
  }

-- ── which form a part has, by the sort of its first word ──
abbrev kind_of : Part → Head
kind_of stop = stops
kind_of (go t v p) = goes
kind_of (out c t v p q) = sends
kind_of (inp c t y p q) = receives
kind_of (call d vs) = calls

head-name : (a : Part) → WellPart (settle a) → head_of (head_name a) ≡ kind_of a
unfolding head_of same_name
head-name stop f = refl
head-name (go t v p) f = refl
head-name (out c t v p q) f = refl
head-name (inp c t y p q) f = refl
head-name (call d vs) f = identifier-calls d f.0

module _ {s : List ℕ} {at : ℕ} {k : Sort} {x : Key} (y : TailAt s at k x) where
  kind-is : head_is k ≡ kind_of y.what
  kind-is = ap head_is y.sort ∙ head-is (head_name y.what) ∙ head-name y.what y.well

  module _ (P : Part → List Token → Type 0) where
    -- what is to be shown of a part, for each form that its first word allows
    abbrev pub Shown : Head → Type 0
    Shown stops = (us : List Token) → lex (drop at s) ≡ us → P stop us
    Shown goes = (t : Span) (v : Value) (p : Process) (us : List Token) → WellPart (settle (go t v p)) → lex (drop at s) ≡ tail_t (go t v p) us → P (go t v p) us
    Shown sends =
        (c : Name) (t : Span) (v : Value) (p q : Process) (us : List Token) → WellPart (settle (out c t v p q)) → lex (drop at s) ≡ tail_t (out c t v p q) us → P (out c t v p q) us
    Shown receives =
        (c : Name) (t : Span) (y : Name) (p q : Process) (us : List Token) → WellPart (settle (inp c t y p q)) → lex (drop at s) ≡ tail_t (inp c t y p q) us → P (inp c t y p q) us
    Shown calls = (z : ListAt s at) (d : Name) → x ≡ key_of d → P (call d z.what) z.left
    Shown nothing = Unit {0}

    pub by : (h : Head) → head_is k ≡ h → Shown h → P y.what y.left
    by h e f = go₁ y.what y.well y.is y.key (subst Shown (sym e ∙ kind-is) f)
      where
        go₁ : (a : Part) → WellPart (settle a) → lex (drop at s) ≡ tail_t a y.left → x ≡ key_of (head_name a) → Shown (kind_of a) → P a y.left
        go₁ stop w g j f = f y.left g
        go₁ (go t v p) w g j f = f t v p y.left w g
        go₁ (out c t v p q) w g j f = f c t v p q y.left w g
        go₁ (inp c t z p q) w g j f = f c t z p q y.left w g
        go₁ (call d vs) w g j f = f (record { what = vs; left = y.left; is = g; well = w.1; over = y.over }) d j

  pub by-open : (w v : List ℕ) (i : ℕ) (sc : Scope) (r : Option Open) (h : Head) → head_is k ≡ h → Shown (λ a us. Gives (λ o. OpenIs s w v i sc o a us) r) h → Gives (λ o. OpenIs s w v i sc o y.what y.left) r
  by-open w v i sc r h e f = by (λ a us. Gives (λ o. OpenIs s w v i sc o a us) r) h e f

  pub list_at : head_is k ≡ calls → ListAt s at
  list_at e = by (λ a us. ListAt s at) calls e (λ z d j. z)

-- ── a part's first word ──
pub head-word : (a : Part) (us : List Token) → part_t a us ≡ word (head_name a) ∷ tail_t a us
unfolding part_t
head-word stop us = refl
head-word (go t v p) us = refl
head-word (out c t v p q) us = refl
head-word (inp c t y p q) us = refl
head-word (call d vs) us = refl

-- the part behind its first word
abbrev pub tail_at : (s : List ℕ) (at e : ℕ) (y : PartAt s at) (n : Name) → n ≡ head_name y.what → lex (drop e s) ≡ tail_t y.what y.left → (k : Sort) → k ≡ sort_of n → (x : Key) → x ≡ key_of n → TailAt s e k x
tail_at s at e y n f g k h x j = record { what = y.what; left = y.left; is = g; well = y.well; over = y.over; sort = h ∙ ap sort_of f; key = j ∙ ap key_of f }
