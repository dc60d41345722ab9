-- Definitions, one after the other: their names and parameters, their bodies skipped or put.
-- By the tokens of a definition, peeled off one after the other; a loop over definitions keeps what is left to write.
use Prim.Native.Nat.{ℕ, zero, suc, ◌+◌, ◌-◌, ◌*◌, ◌≤◌, ◌<◌, min}
use native.Mathlib.Omega.{arith}
use mathlib.Core.Bool.{Bool, true, false, cond, false≢true}
use mathlib.Core.List.{List, [], ◌∷◌, map}
use mathlib.Core.Path.{◌≡◌, refl, sym, ap, ◌∙◌}
use borrow.Author.Tests.{lt-ltb, le-ltb}
use lib.Dec.{ltb}
use lib.ListN.{length, drop, set}
use lib.Seq.{sets}
use Rattle.terms.specs.Names.{Name}
use Rattle.terms.specs.Letters.{is_small}
use Rattle.text.specs.Tokens.{Token, lex, opens, closes, left, comma, bar, dot, equals}
use Rattle.text.specs.Tokens.Token.{word, sign}
use Rattle.text.specs.Syntax.{Part, Process, Def, Located}
use Rattle.text.specs.Syntax.Part.{stop, go, out, inp, call}
use Rattle.text.specs.Syntax.Process.{one, ◌∥◌}
use Rattle.text.specs.Syntax.Def.{define}
use Rattle.text.specs.Syntax.Located.{at as placed}
use Rattle.text.specs.Tree.{settle, settle_p, settle_def, settle_at}
use Rattle.text.specs.Grammar.{the, next, named, list_of, process, net_next}
use Rattle.text.specs.Grammar.Rest.{ok, bad}
use Rattle.text.specs.Write.{name_t, joined_t, list_t, process_t, network_t, text_t}
use Rattle.text.specs.WellFormed.{Is, Each, NonEmpty, WellProcess, WellDef}
use Rattle.text.specs.Questions.{most, params, parameter_count, definition_count}
use Rattle.text.proofs.ReadBack.{names, list_back, process-back, def-longer}
use Rattle.text.proofs.Unbounded.{the-less}
use Rattle.std.specs.Prelude.{Option, Some, None}
use Rattle.text_words.specs.Bytes.{mapped}
use Rattle.text_words.specs.Sorts.{fits}
use Rattle.text_words.specs.declared.Field.TheVariants as field
use Rattle.text_words.proofs.Positions.{bytes-fall}
use Rattle.text_parts.specs.Counts.{process_count, part_count, capped}
use Rattle.text_parts.specs.Counting.{list_count, process_counts}
use Rattle.text_parts.specs.Answers.{listed, sized, count_of}
use Rattle.text_parts.specs.declared.Names.{Names}
use Rattle.text_parts.specs.declared.Size.{Size}
use Rattle.text.proofs.Exact.{clash}
use Rattle.table.specs.declared.Key.{Key}
use Rattle.table.specs.Words.{row_size, name_at, defs_at, first_param, name_size}
use Rattle.table.specs.Tests.{key_name}
use Rattle.table.specs.Valid.{index}
use Rattle.table.specs.Size.{size, size_p}
use Rattle.text_build.specs.declared.Scope.{Scope}
use Rattle.text_build.specs.Keys.{key_of}
use Rattle.text_build.specs.Tables.{key_words}
use Rattle.text_build.specs.Rows.{scope_names}
use Rattle.text_build.specs.Put.{offsets, put}
use Rattle.text_build.proofs.Places.{size_p-some}
use Rattle.text_put.specs.declared.Named.{Named}
use Rattle.text_put.specs.declared.Placed.{Placed}
use Rattle.text_put.specs.Found.{Gives, NameIs}
use Rattle.text_put.specs.Opened.{ProcessAt, ProcessPut}
use Rattle.text_put.proofs.Peeling.{peel-sign, peel-some, sign-next}
use Rattle.text_tree.specs.Pass.{put_params, put_head, heads, no_scope, enter_at, params_from, after_bodies}
use Rattle.text_fill.specs.declared.Passed.{Passed}
use Rattle.text_fill.specs.Ready.{Ready, tree_in, DefAt, NamesAt, ParamsAt, HeadPut, BodyPut, bodies_by, BodiesPut}

-- ── numbers that the first pass gives ──
mutual
  unfolding part_count process_count size size_p

  part-size : (a : Part) → (part_count a).parts ≡ size (settle a)
  part-size stop = refl
  part-size (go t v p) = let e = process-size p in omega arith
  part-size (out c t v p q) = let e = process-size p in let f = process-size q in omega arith
  part-size (inp c t y p q) = let e = process-size p in let f = process-size q in omega arith
  part-size (call d vs) = refl

  pub process-size : (p : Process) → (process_count p).parts ≡ size_p (settle_p p)
  process-size (one a) = part-size a
  process-size (a ∥ p) = let e = part-size a in let f = process-size p in omega arith

-- a process that is skipped: where it ends, and how many parts it has
module _ (s : List ℕ) (at : ℕ) (p : Process) (us : List Token) (well : WellProcess (settle_p p)) (over : next opens us ≡ false) (last : next bar us ≡ false) (is : lex (drop at s) ≡ process_t p us) where
  skip_is : mapped capped (process_counts (lex (drop at s))) ≡ ok (capped (process_count p)) us
  unfolding process_counts
  skip_is = ap (λ ts. mapped capped (mapped process_count (process ts))) is ∙ ap (λ x. mapped capped (mapped process_count x)) (process-back (2 * length (process_t p us) + 2) p us (omega arith) over last well)

  pub skip-some : bad ≡ mapped capped (process_counts (lex (drop at s))) → ⊥
  skip-some e = clash (e ∙ skip_is)

  module _ (r : Size) (e : sized s (Some r) ≡ mapped capped (process_counts (lex (drop at s)))) where
    pub skip-left : lex (drop r.end s) ≡ us
    skip-left = let h : ok (count_of r) (lex (drop r.end s)) ≡ ok (capped (process_count p)) us = e ∙ skip_is in cc

    pub skip-parts : r.parts ≡ min (size_p (settle_p p)) 4_097
    skip-parts =
        let h : ok (count_of r) (lex (drop r.end s)) ≡ ok (capped (process_count p)) us = e ∙ skip_is in
        let f : count_of r ≡ capped (process_count p) = cc in
        ap (λ x. x.parts) f ∙ ap (λ n. min n 4_097) (process-size p)

-- names in brackets: where they end, and how many there are
module _ (s : List ℕ) (at : ℕ) (ns : List Name) (us : List Token) (well : Each (Is is_small) ns) (over : next opens us ≡ false) (is : lex (drop at s) ≡ list_t name_t ns us) where
  list-is : list_count (fits field.Small) (lex (drop at s)) ≡ ok (min (length ns) 5) us
  list-is = ap (λ ts. mapped (λ xs. min (length xs) 5) (list_of (named is_small) ts)) is ∙ ap (mapped (λ xs. min (length xs) 5)) (list_back (names is_small) ns us over well)

  pub list-some : bad ≡ list_count (fits field.Small) (lex (drop at s)) → ⊥
  list-some e = clash (e ∙ list-is)

  module _ (r : Names) (e : listed s (Some r) ≡ list_count (fits field.Small) (lex (drop at s))) where
    pub list_left : lex (drop r.end s) ≡ us
    list_left = let h : ok r.count (lex (drop r.end s)) ≡ ok (min (length ns) 5) us = e ∙ list-is in cc

    pub list-count : r.count ≡ min (length ns) 5
    list-count = let h : ok r.count (lex (drop r.end s)) ≡ ok (min (length ns) 5) us = e ∙ list-is in cc

-- ── parameters, one after the other ──
-- from here on stand those from the j-th on; what is left to write
pub record Going (s : List ℕ) (at here j : ℕ) (w v : List ℕ) (k : ℕ) (x : NamesAt s at 0) : Type 0 where
  pub rest : NamesAt s here j
  pub writes : put_params w k 0 (x.first ∷ x.more) ≡ put_params v k j (rest.first ∷ rest.more)

pub params-first : (s : List ℕ) (at : ℕ) (w : List ℕ) (k : ℕ) (x : NamesAt s at 0) → Going s at at 0 w w k x
params-first s at w k x = record { rest = x; writes = refl }

-- the tokens behind the first name
unfoldable pub behind : List Name → List Token → List Token
behind [] us = sign closes ∷ us
behind (y ∷ ys) us = sign comma ∷ joined_t comma name_t y ys (sign closes ∷ us)

behind-is : (y : Name) (ys : List Name) (us : List Token) → joined_t comma name_t y ys (sign closes ∷ us) ≡ word y ∷ behind ys us
unfolding joined_t behind
behind-is y [] us = refl
behind-is y (z ∷ ys) us = refl

module _ {s : List ℕ} {at here j : ℕ} {w v : List ℕ} {k : ℕ} {x : NamesAt s at 0} (g : Going s at here j w v k x) where
  pub going-word : lex (drop here s) ≡ word g.rest.first ∷ behind g.rest.more g.rest.left
  going-word = g.rest.is ∙ behind-is g.rest.first g.rest.more g.rest.left

  pub going-few : j < 4
  going-few = let h = g.rest.few in omega arith

  -- the first was read and written
  module _ (r : Named) (a : NameIs s r g.rest.first (behind g.rest.more g.rest.left)) {v' : List ℕ} (b : v' ≡ sets v (first_param + k * row_size + j * name_size) (key_words r.key)) where
    written : v' ≡ sets v (first_param + k * row_size + j * name_size) (key_words (key_of g.rest.first))
    written = b ∙ ap (λ x. sets v (first_param + k * row_size + j * name_size) (key_words x)) a.key

    pub going_end : bad ≡ the comma (lex (drop r.end s)) → v' ≡ put_params w k 0 (x.first ∷ x.more)
    unfolding behind put_params
    going_end c = go₁ g.rest.more refl
      where
        go₁ : (ys : List Name) → g.rest.more ≡ ys → v' ≡ put_params w k 0 (x.first ∷ x.more)
        go₁ [] i = written ∙ sym (g.writes ∙ ap (λ ys. put_params v k j (g.rest.first ∷ ys)) i)
        go₁ (y ∷ ys) i = absurd (peel-some comma (a.left ∙ ap (λ ys. behind ys g.rest.left) i) c)

    module _ (e : ℕ) (c : ok tt (lex (drop e s)) ≡ the comma (lex (drop r.end s))) where
      pub going_on : Going s at e (j + 1) w v' k x
      unfolding behind put_params
      going_on = go₁ g.rest.more refl
        where
          go₁ : (ys : List Name) → g.rest.more ≡ ys → Going s at e (j + 1) w v' k x
          go₁ [] i = absurd (false≢true (ap (next comma) (sym (a.left ∙ ap (λ ys. behind ys g.rest.left) i)) ∙ sign-next s e comma (lex (drop r.end s)) c))
          go₁ (y ∷ ys) i =
              let h = ap length i in
              let f = g.rest.few in
              record {
                rest = record { first = y; more = ys; left = g.rest.left; is = peel-sign s e comma (a.left ∙ ap (λ ys. behind ys g.rest.left) i) c; few = omega arith };
                writes = g.writes ∙ ap (λ ys. put_params v k j (g.rest.first ∷ ys)) i ∙ ap (λ u. put_params u k (j + 1) (y ∷ ys)) (sym written);
              }

      pub going-falls : length s - e < length s - here
      going-falls = bytes-fall s here e (omega (arith, ap length going-word, ap length a.left, the-less comma (lex (drop r.end s)) tt (lex (drop e s)) (sym c)))

-- ── nothing, or parameters in brackets ──
module _ (s : List ℕ) (at : ℕ) (x : ParamsAt s at) where
  pub params_none : bad ≡ the opens (lex (drop at s)) → (w : List ℕ) (k : ℕ) → w ≡ put_params w k 0 x.what
  unfolding put_params
  params_none e w k = go₁ x.what refl
    where
      go₁ : (ys : List Name) → x.what ≡ ys → w ≡ put_params w k 0 ys
      go₁ [] j = refl
      go₁ (y ∷ ys) j = absurd (peel-some opens (x.is ∙ ap (λ ys. list_t name_t ys x.left) j) e)

  module _ (o : ℕ) (e : ok tt (lex (drop o s)) ≡ the opens (lex (drop at s))) where
    unlisted : x.what ≡ [] → ⊥
    unlisted j = false≢true (sym x.over ∙ ap (next opens) (sym (x.is ∙ ap (λ ys. list_t name_t ys x.left) j)) ∙ sign-next s o opens (lex (drop at s)) e)

    names-at : (y : Name) (ys : List Name) → x.what ≡ y ∷ ys → NamesAt s o 0
    names-at y ys j = record { first = y; more = ys; left = x.left; is = peel-sign s o opens (x.is ∙ ap (λ ys. list_t name_t ys x.left) j) e; few = let h = ap length j in let f = x.few in omega arith }

    pub params-some : NamesAt s o 0
    params-some = go₁ x.what refl
      where
        go₁ : (ys : List Name) → x.what ≡ ys → NamesAt s o 0
        go₁ [] j = absurd (unlisted j)
        go₁ (y ∷ ys) j = names-at y ys j

    pub params_are : (w v : List ℕ) (k : ℕ) (r : Option (Unit {0})) → ((y : NamesAt s o 0) → Gives (λ u. v ≡ put_params w k 0 (y.first ∷ y.more)) r) → Gives (λ u. v ≡ put_params w k 0 x.what) r
    unfolding names-at
    params_are w v k None h = h params-some
    params_are w v k (Some u) h = go₁ x.what refl
      where
        go₁ : (ys : List Name) → x.what ≡ ys → v ≡ put_params w k 0 ys
        go₁ [] j = absurd (unlisted j)
        go₁ (y ∷ ys) j = h (names-at y ys j)

-- ── the scope of a body ──
module _ (w : List ℕ) (sc : Scope) (o : ℕ) (k : Key) (e : key_name k ≡ name_at w o) (j : ℕ) (f : j ≡ index (scope_names w (offsets sc)) (key_name k)) where
  slot_at : j ≡ index (scope_names w (offsets sc)) (name_at w o)
  slot_at = f ∙ ap (index (scope_names w (offsets sc))) e

  pub scope-there : j < sc.n → sc ≡ enter_at w sc o
  unfolding enter_at
  scope-there h = rw (← slot_at, lt-ltb j sc.n h)

  pub scope-new : sc.n ≤ j → record { n = sc.n + 1; at = set sc.at sc.n o } ≡ enter_at w sc o
  unfolding enter_at
  scope-new h = rw (← slot_at, le-ltb j sc.n h)

pub enter-few : (w : List ℕ) (sc : Scope) (o m : ℕ) → sc.n ≤ m → (enter_at w sc o).n ≤ m + 1
unfolding enter_at
enter-few w sc o m h = go₁ (ltb (index (scope_names w (offsets sc)) (name_at w o)) sc.n)
  where
    go₁ : (b : Bool) → (cond b sc (record { n = sc.n + 1; at = set sc.at sc.n o })).n ≤ m + 1
    go₁ true = omega arith
    go₁ false = omega arith

pub scope-on : (w : List ℕ) (k n j : ℕ) (sc : Scope) → j < n → params_from w k (j + 1) (n - (j + 1)) (enter_at w sc (first_param + k * row_size + j * name_size)) ≡ params_from w k j (n - j) sc
unfolding params_from
scope-on w k n j sc h = let e : n - j ≡ suc (n - (j + 1)) = omega arith in rw e

pub scope-end : (w : List ℕ) (k n j : ℕ) (sc : Scope) → n ≤ j → sc ≡ params_from w k j (n - j) sc
unfolding params_from
scope-end w k n j sc h = let e : n - j ≡ 0 = omega arith in rw e

pub scope-first : (w : List ℕ) (k n : ℕ) (sc : Scope) → params_from w k 0 (n - 0) sc ≡ params_from w k 0 n sc
scope-first w k n sc = let e : n - 0 ≡ n = omega arith in rw e

params-grow : (w : List ℕ) (k n m : ℕ) (sc : Scope) → (params_from w k m n sc).n ≤ sc.n + n
unfolding params_from
params-grow w k zero m sc = omega arith
params-grow w k (suc n) m sc =
    let o = first_param + k * row_size + m * name_size in
    let h = params-grow w k n (m + 1) (enter_at w sc o) in
    let g = enter-few w sc o sc.n (omega arith) in
    omega arith

pub params-few : (w : List ℕ) (k m n : ℕ) (sc : Scope) → sc ≡ params_from w k m n no_scope → sc.n ≤ n
params-few w k m n sc e = rw e (let h = params-grow w k n m no_scope in omega arith)

-- ── one definition ──
module _ {s : List ℕ} {at : ℕ} (x : DefAt s at) where
  abbrev pub after_name : List Token
  after_name = list_t name_t x.params (sign equals ∷ process_t x.body (sign dot ∷ x.left))

  pub def-word : lex (drop at s) ≡ word x.name ∷ after_name
  def-word = x.is

  module _ (r : Named) (a : NameIs s r x.name after_name) where
    unfoldable pub params-at : ParamsAt s r.end
    params-at = record { what = x.params; left = sign equals ∷ process_t x.body (sign dot ∷ x.left); is = a.left; over = refl; few = x.few }

    pub no-list : bad ≡ list_count (fits field.Small) (lex (drop r.end s)) → ⊥
    no-list = list-some s r.end x.params _ x.well.1 refl a.left

    module _ (n : Names) (b : listed s (Some n) ≡ list_count (fits field.Small) (lex (drop r.end s))) where
      pub param-count : n.count ≡ length x.params
      param-count = let f = x.few in list-count s r.end x.params _ x.well.1 refl a.left n b ∙ omega arith

      body-left : lex (drop n.end s) ≡ sign equals ∷ process_t x.body (sign dot ∷ x.left)
      body-left = list_left s r.end x.params _ x.well.1 refl a.left n b

      pub no-equals : bad ≡ the equals (lex (drop n.end s)) → ⊥
      no-equals c = peel-some equals body-left c

      module _ (e : ℕ) (c : ok tt (lex (drop e s)) ≡ the equals (lex (drop n.end s))) where
        pub body_at : ProcessAt s e
        body_at = record { what = x.body; left = sign dot ∷ x.left; is = peel-sign s e equals body-left c; well = x.well.2; over = refl; last = refl }

        -- the body is skipped
        pub no-body : bad ≡ mapped capped (process_counts (lex (drop e s))) → ⊥
        no-body = skip-some s e x.body (sign dot ∷ x.left) x.well.2 refl refl (peel-sign s e equals body-left c)

        module _ (p : Size) (h : sized s (Some p) ≡ mapped capped (process_counts (lex (drop e s)))) where
          skipped : lex (drop p.end s) ≡ sign dot ∷ x.left
          skipped = skip-left s e x.body (sign dot ∷ x.left) x.well.2 refl refl (peel-sign s e equals body-left c) p h

          pub head-no-dot : bad ≡ the dot (lex (drop p.end s)) → ⊥
          head-no-dot j = peel-some dot skipped j

          pub head-put : {w u v : List ℕ} (k i : ℕ) → u ≡ sets w (defs_at + k * row_size) (n.count ∷ i ∷ key_words r.key) → v ≡ put_params u k 0 x.params
              → (d : ℕ) → ok tt (lex (drop d s)) ≡ the dot (lex (drop p.end s)) → (q : ℕ) → i < 4_096 → q ≡ i - p.parts → HeadPut s w v k i (record { end = d; place = q }) x.name x.params x.body x.left
          unfolding put_head
          head-put {w} {u} {v} k i f g d j q small l =
              let m = skip-parts s e x.body (sign dot ∷ x.left) x.well.2 refl refl (peel-sign s e equals body-left c) p h in
              record {
                left_is = peel-sign s d dot skipped j;
                after = g ∙ ap (λ z. put_params z k 0 x.params) (f ∙ ap (λ z. sets w (defs_at + k * row_size) (z ∷ i ∷ key_words r.key)) param-count ∙ ap (λ z. sets w (defs_at + k * row_size) (length x.params ∷ i ∷ key_words z)) a.key);
                place = l ∙ omega arith;
              }

        -- the body is put
        module _ {w v : List ℕ} {i : ℕ} {sc : Scope} (p : Placed) (h : (y : ProcessAt s e) → ProcessPut s w v i sc p y.what y.left) where
          pub body-no-dot : bad ≡ the dot (lex (drop p.end s)) → ⊥
          unfolding body_at
          body-no-dot j = peel-some dot (h body_at).left j

          pub body-put : (k : ℕ) → sc ≡ params_from w k 0 n.count no_scope → (d : ℕ) → ok tt (lex (drop d s)) ≡ the dot (lex (drop p.end s)) → (q : ℕ) → q ≡ p.low - 1 → BodyPut s w v k i (record { end = d; place = q }) x.params x.body x.left
          unfolding body_at
          body-put k f d j q l =
              let y = h body_at in
              let m = size_p-some (settle_p x.body) in
              record {
                left_is = peel-sign s d dot y.left j;
                after = y.after ∙ ap (λ z. put (settle_p x.body) i z w) (f ∙ ap (λ z. params_from w k 0 z no_scope) param-count);
                place = l ∙ ap (λ z. z - 1) y.low ∙ omega arith;
              }

-- ── all definitions ──
-- from here on stand the definitions from number k on, then the network of ls
pub record DefsAt (s : List ℕ) (here k : ℕ) (ls : List Located) : Type 0 where
  pub rest : List Def
  pub is : lex (drop here s) ≡ text_t rest ls
  pub well : Each WellDef (map settle_def rest)
  pub few : k + length (map settle_def rest) ≤ 32
  pub narrow : most (λ d. length (params d)) (map settle_def rest) ≤ 4

pub defs-first : {s : List ℕ} (x : Ready s) → DefsAt s 0 0 x.text.located
unfolding definition_count parameter_count
defs-first x = record { rest = x.text.defs; is = x.is; well = x.well.defs-well; few = let h = x.within.definitions in omega arith; narrow = x.within.parameters }

module _ {s : List ℕ} {here k : ℕ} {ls : List Located} (g : DefsAt s here k ls) where
  -- a definition is next
  pub record Turn : Type 0 where
    pub name : Name
    pub params : List Name
    pub body : Process
    pub more : List Def
    pub this : g.rest ≡ define name params body ∷ more
    pub def : DefAt s here
    pub name-is : def.name ≡ name
    pub params_is : def.params ≡ params
    pub body_is : def.body ≡ body
    pub left_is : def.left ≡ text_t more ls

  pub turn : net_next (lex (drop here s)) ≡ false → NonEmpty (map settle_at ls) → Turn
  unfolding text_t network_t joined_t most
  turn e n = go₁ g.rest refl g.is g.well g.narrow
    where
      network : (ls : List Located) → NonEmpty (map settle_at ls) → net_next (network_t ls) ≡ true
      network [] n = absurd n
      network (placed l p ∷ []) n = refl
      network (placed l p ∷ m ∷ ls) n = refl

      go₁ : (ds : List Def) → g.rest ≡ ds → lex (drop here s) ≡ text_t ds ls → Each WellDef (map settle_def ds) → most (λ d. length (params d)) (map settle_def ds) ≤ 4 → Turn
      go₁ [] q i w m = absurd (false≢true (sym e ∙ ap net_next i ∙ network ls n))
      go₁ (define x us p ∷ ds) q i w m = record {
        name = x;
        params = us;
        body = p;
        more = ds;
        this = q;
        def = record { name = x; params = us; body = p; left = text_t ds ls; is = i; well = w.0; few = omega arith };
        name-is = refl;
        params_is = refl;
        body_is = refl;
        left_is = refl;
      }

  -- the network is next
  pub over : net_next (lex (drop here s)) ≡ true → g.rest ≡ []
  unfolding text_t
  over e = go₁ g.rest g.is
    where
      list-next : (us : List Name) (ts : List Token) → next left (list_t name_t us (sign equals ∷ ts)) ≡ false
      list-next [] ts = refl
      list-next (u ∷ us) ts = refl

      go₁ : (ds : List Def) → lex (drop here s) ≡ text_t ds ls → ds ≡ []
      go₁ [] i = refl
      go₁ (define x us p ∷ ds) i = absurd (false≢true (sym (ap net_next i ∙ list-next us (process_t p (sign dot ∷ text_t ds ls))) ∙ e))

  pub number_small : Turn → k < 32
  number_small t = let f = g.few in let h = ap (λ ds. length (map settle_def ds)) t.this in omega arith

  module _ (t : Turn) (e : ℕ) (h : lex (drop e s) ≡ t.def.left) where
    pub defs-on : DefsAt s e (k + 1) ls
    unfolding most
    defs-on =
        let f = g.few in
        let l = ap (λ ds. length (map settle_def ds)) t.this in
        let m = ap (λ ds. most (λ d. length (params d)) (map settle_def ds)) t.this in
        let n = g.narrow in
        record { rest = t.more; is = h ∙ t.left_is; well = (rw t.this at g.well).1; few = omega arith; narrow = omega arith }

    pub defs-fall : length s - e < length s - here
    defs-fall = bytes-fall s here e (omega (arith, ap length h, ap length t.def.is, def-longer (define t.def.name t.def.params t.def.body) t.def.left))

-- ── heads ──
pub record HeadsGoing (s : List ℕ) (here k j : ℕ) (w v : List ℕ) (i : ℕ) (x : Ready s) : Type 0 where
  pub defs : DefsAt s here k x.text.located
  pub writes : heads (tree_in x).defs 0 i w ≡ heads (map settle_def defs.rest) k j v

pub heads-first : {s : List ℕ} (w : List ℕ) (i : ℕ) (x : Ready s) → HeadsGoing s 0 0 i w w i x
unfolding defs-first
heads-first w i x = record { defs = defs-first x; writes = refl }

module _ {s : List ℕ} {here k j : ℕ} {w v : List ℕ} {i : ℕ} {x : Ready s} (g : HeadsGoing s here k j w v i x) where
  pub heads-end : net_next (lex (drop here s)) ≡ true → v ≡ heads (tree_in x).defs 0 i w
  unfolding heads
  heads-end e = sym (g.writes ∙ ap (λ ds. heads (map settle_def ds) k j v) (over g.defs e))

  pub heads-on : (t : Turn g.defs) (r : Passed) {v' : List ℕ} → HeadPut s v v' k j r t.def.name t.def.params t.def.body t.def.left → HeadsGoing s r.end (k + 1) r.place w v' i x
  unfolding heads defs-on
  heads-on t r h = record {
    defs = defs-on g.defs t r.end h.left_is;
    writes = g.writes ∙ ap (λ ds. heads (map settle_def ds) k j v) t.this ∙ rw (h.after, h.place, t.name-is, t.params_is, t.body_is);
  }

-- ── bodies ──
pub record BodiesGoing (s : List ℕ) (here k j : ℕ) (w v : List ℕ) (i : ℕ) (x : Ready s) : Type 0 where
  pub defs : DefsAt s here k x.text.located
  pub writes : bodies_by (tree_in x).defs 0 i w ≡ bodies_by (map settle_def defs.rest) k j v
  pub place : after_bodies (tree_in x).defs i ≡ after_bodies (map settle_def defs.rest) j

pub bodies-first : {s : List ℕ} (w : List ℕ) (i : ℕ) (x : Ready s) → BodiesGoing s 0 0 i w w i x
unfolding defs-first
bodies-first w i x = record { defs = defs-first x; writes = refl; place = refl }

module _ {s : List ℕ} {here k j : ℕ} {w v : List ℕ} {i : ℕ} {x : Ready s} (g : BodiesGoing s here k j w v i x) where
  pub bodies-end : net_next (lex (drop here s)) ≡ true → BodiesPut s w v i (record { end = here; place = j }) x.text
  unfolding bodies_by after_bodies text_t
  bodies-end e =
      let o = over g.defs e in
      record {
        left_is = g.defs.is ∙ ap (λ ds. text_t ds x.text.located) o;
        after = sym (g.writes ∙ ap (λ ds. bodies_by (map settle_def ds) k j v) o);
        place = sym (g.place ∙ ap (λ ds. after_bodies (map settle_def ds) j) o);
      }

  pub bodies-on : (t : Turn g.defs) (r : Passed) {v' : List ℕ} → BodyPut s v v' k j r t.def.params t.def.body t.def.left → BodiesGoing s r.end (k + 1) r.place w v' i x
  unfolding bodies_by after_bodies defs-on
  bodies-on t r h = record {
    defs = defs-on g.defs t r.end h.left_is;
    writes = g.writes ∙ ap (λ ds. bodies_by (map settle_def ds) k j v) t.this ∙ rw (h.after, h.place, t.params_is, t.body_is);
    place = g.place ∙ ap (λ ds. after_bodies (map settle_def ds) j) t.this ∙ rw (h.place, t.body_is);
  }
