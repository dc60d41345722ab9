-- Values by number: slots looked up one after the other, and the arguments of a call.
use Prim.Native.Nat.{ℕ, zero, suc, ◌+◌, ◌-◌, ◌≤◌, ◌<◌, min}
use native.Mathlib.Omega.{arith}
use mathlib.Core.Bool.{Bool, true, false, false≢true}
use mathlib.Core.List.{List, [], ◌∷◌}
use mathlib.Core.Path.{◌≡◌, refl, sym, ap, ◌∙◌}
use lib.ListN.{length, drop, get_or, length-map}
use lib.Seq.{length-take-le, get_or-take}
use Rattle.terms.specs.Names.{Name, same_name}
use Rattle.terms.specs.Terms.{Value}
use Rattle.terms.specs.Terms.Value.{loc, var}
use Rattle.terms.specs.Characters.{is_capital}
use Rattle.terms.specs.Letters.{first_is}
use Rattle.text.specs.Tokens.{Token, lex, opens, closes, comma}
use Rattle.text.specs.Tokens.Token.{word, sign}
use Rattle.text.specs.Grammar.{the, next}
use Rattle.text.specs.Write.{value_t, joined_t, list_t}
use Rattle.text.specs.WellFormed.{Each, WellValue}
use Rattle.table.specs.declared.Key.{Key}
use Rattle.table.specs.Words.{locs_at, name_at}
use Rattle.table.specs.Tests.{key_name}
use Rattle.table.specs.Valid.{index}
use Rattle.table.proofs.Fires.{get_d_map}
use Rattle.table.proofs.ValidLists.{index-hit, index-none}
use Rattle.text.proofs.Unbounded.{the-less}
use Rattle.std.specs.Prelude.{Option, Some, None}
use Rattle.text.specs.Grammar.Rest.{ok, bad}
use Rattle.text_words.proofs.Positions.{bytes-fall}
use Rattle.text_words.proofs.WordSorts.{location-first, small-not-capital}
use Rattle.text_build.specs.declared.Scope.{Scope}
use Rattle.text_build.specs.Keys.{key_of}
use Rattle.text_build.specs.Tables.{held_in, number_in, key_words, Enlisted}
use Rattle.text_build.specs.Rows.{scope_names}
use Rattle.text_build.specs.Put.{offsets, slot_of, loc_number, enter_loc, value_number, enter_value, arg_numbers, enter_values, first₄}
use Rattle.text_build.proofs.Tables.{index-within, number-within}
use Rattle.text_put.specs.declared.Named.{Named}
use Rattle.text_put.specs.declared.Args.{Args}
use Rattle.text_put.specs.Found.{Gives, NameIs, name_of, is_loc, number_by, enter_by, ValueBy, with_word, ValuesAt, values_of, ListAt, ArgsAre}
use Rattle.text_put.proofs.Peeling.{peel-sign, peel-some, sign-next}

-- ── slots ──
module _ (w : List ℕ) (sc : Scope) (few : sc.n ≤ 8) (eight : length sc.at ≡ 8) where
  pub scope-length : length (scope_names w (offsets sc)) ≡ sc.n
  scope-length = length-map (offsets sc) (name_at w) ∙ length-take-le sc.n sc.at (omega arith)

  scope-at : (j : ℕ) → j < sc.n → get_or (scope_names w (offsets sc)) j [] ≡ name_at w (get_or sc.at j 0)
  scope-at j h = get_d_map (name_at w) (offsets sc) j 0 [] (omega (arith, length-take-le sc.n sc.at (omega arith))) ∙ ap (name_at w) (get_or-take sc.n sc.at j 0 h)

  -- the slot j has the name x, and none before it
  pub slot-here : (x : Name) (j : ℕ) → j < sc.n → ((k : ℕ) → k < j → same_name (name_at w (get_or sc.at k 0)) x ≡ false) → same_name (name_at w (get_or sc.at j 0)) x ≡ true
      → j ≡ index (scope_names w (offsets sc)) x
  slot-here x j h n e =
      sym (index-hit (scope_names w (offsets sc)) x j (omega (arith, scope-length)) (λ k b. ap (λ y. same_name y x) (scope-at k (omega arith)) ∙ n k b) (ap (λ y. same_name y x) (scope-at j h) ∙ e))

  pub slot-nowhere : (x : Name) → ((k : ℕ) → k < sc.n → same_name (name_at w (get_or sc.at k 0)) x ≡ false) → sc.n ≡ index (scope_names w (offsets sc)) x
  slot-nowhere x n = sym (index-none (scope_names w (offsets sc)) x (λ k b. let c : k < sc.n = omega (arith, scope-length) in ap (λ y. same_name y x) (scope-at k c) ∙ n k c) ∙ scope-length)

  pub slot-few : (x : Name) → index (scope_names w (offsets sc)) x ≤ 8
  slot-few x = omega (arith, index-within (scope_names w (offsets sc)) x, scope-length)

pub number-few : (w : List ℕ) (x : Name) → number_in w locs_at (held_in w 1) x ≤ 64
unfolding held_in
number-few w x = omega (arith, number-within w locs_at (held_in w 1) x)

module _ (w u : List ℕ) (sc : Scope) (k : Key) (b : Bool) (r : ℕ) where
  pub by-capital : b ≡ true → Enlisted w u locs_at 1 k r → ValueBy w u sc k b r
  by-capital e f = rw e (record { number = f.place; after = f.after })

module _ (w : List ℕ) (sc : Scope) (k : Key) (b : Bool) (r : ℕ) where
  pub by-small : b ≡ false → r ≡ index (scope_names w (offsets sc)) (key_name k) → ValueBy w w sc k b (64 + r)
  by-small e f = rw e (record { number = ap (λ j. 64 + j) f; after = refl })

-- ── four words ──
pub with_rest : (k : Key) (n v : ℕ) → (n ≡ 0 → ⊥) → (n ≡ 1 → ⊥) → (n ≡ 2 → ⊥) → (n ≡ 3 → ⊥) → k ≡ with_word k n v
with_rest k zero v a b c d = absurd (a refl)
with_rest k (suc zero) v a b c d = absurd (b refl)
with_rest k (suc (suc zero)) v a b c d = absurd (c refl)
with_rest k (suc (suc (suc zero))) v a b c d = absurd (d refl)
with_rest k (suc (suc (suc (suc n)))) v a b c d = refl

with_none : (k : Key) (n v : ℕ) → 4 ≤ n → k ≡ with_word k n v
with_none k n v h = with_rest k n v (λ e. omega arith) (λ e. omega arith) (λ e. omega arith) (λ e. omega arith)

-- the words k from the word number n on replaced by those of a list
abbrev filled : Key → ℕ → List ℕ → Key
filled k n [] = k
filled k n (x ∷ xs) = filled (with_word k n x) (min (n + 1) 5) xs

filled-over : (k : Key) (n : ℕ) (xs : List ℕ) → 4 ≤ n → filled k n xs ≡ k
filled-over k n [] h = refl
filled-over k n (x ∷ xs) h = ap (λ l. filled l (min (n + 1) 5) xs) (sym (with_none k n x h)) ∙ filled-over k (min (n + 1) 5) xs (omega arith)

filled-all : (xs : List ℕ) → key_words (filled (record { a = 0; b = 0; c = 0; d = 0 }) 0 xs) ≡ first₄ xs
filled-all [] = refl
filled-all (a ∷ []) = refl
filled-all (a ∷ b ∷ []) = refl
filled-all (a ∷ b ∷ c ∷ []) = refl
filled-all (a ∷ b ∷ c ∷ d ∷ xs) = ap key_words (filled-over (record { a = a; b = b; c = c; d = d }) 4 xs (omega arith))

-- ── a value by its name ──
pub value-word : (v : Value) (us : List Token) → value_t v us ≡ word (name_of v) ∷ us
value-word (loc l) us = refl
value-word (var x) us = refl

pub value-capital : (v : Value) → WellValue v → first_is is_capital (name_of v) ≡ is_loc v
value-capital (loc l) h = location-first l h
value-capital (var x) h = small-not-capital x h

pub value-number : (w : List ℕ) (sc : Scope) (v : Value) → number_by w sc (key_of (name_of v)) (is_loc v) ≡ value_number w sc v
unfolding value_number loc_number slot_of
value-number w sc (loc l) = refl
value-number w sc (var x) = refl

pub value-enter : (w : List ℕ) (v : Value) → enter_by w (key_of (name_of v)) (is_loc v) ≡ enter_value w v
unfolding enter_value enter_loc
value-enter w (loc l) = refl
value-enter w (var x) = refl

-- the code's answer for the letters k of the value's name
module _ {w u : List ℕ} {sc : Scope} {k : Key} {c : Bool} {m : ℕ} (v : Value) (f : WellValue v) (n : k ≡ key_of (name_of v)) (g : c ≡ first_is is_capital (name_of v)) (b : ValueBy w u sc k c m) where
  by_value : c ≡ is_loc v
  by_value = g ∙ value-capital v f

  pub value-is : m ≡ value_number w sc v
  value-is = b.number ∙ ap (λ k. number_by w sc k c) n ∙ ap (number_by w sc (key_of (name_of v))) by_value ∙ value-number w sc v

  pub value_after : u ≡ enter_value w v
  value_after = b.after ∙ ap (λ k. enter_by w k c) n ∙ ap (enter_by w (key_of (name_of v))) by_value ∙ value-enter w v

-- ── the arguments of a call, one after the other ──
-- of the values xs some are read, n of them, at most 5, with the first four in k; from here on stand the others, before the tokens us
pub record Going (s : List ℕ) (here : ℕ) (w u : List ℕ) (sc : Scope) (n : ℕ) (k : Key) (xs : List Value) (us : List Token) : Type 0 where
  pub first : Value
  pub more : List Value
  pub is : lex (drop here s) ≡ joined_t comma value_t first more (sign closes ∷ us)
  pub well : Each WellValue (first ∷ more)
  pub enters : enter_values w xs ≡ enter_values u (first ∷ more)
  pub count : min (length xs) 5 ≡ min (n + length (first ∷ more)) 5
  pub words : first₄ (arg_numbers w sc xs) ≡ key_words (filled k n (arg_numbers u sc (first ∷ more)))

pub going-first : (s : List ℕ) (at : ℕ) (w : List ℕ) (sc : Scope) (x : ValuesAt s at) → Going s at w w sc 0 (record { a = 0; b = 0; c = 0; d = 0 }) (values_of x) x.left
going-first s at w sc x = record { first = x.first; more = x.more; is = x.is; well = x.well; enters = refl; count = omega arith; words = sym (filled-all (arg_numbers w sc (values_of x))) }

-- the tokens behind the first value
unfoldable pub behind : List Value → List Token → List Token
behind [] us = sign closes ∷ us
behind (v ∷ vs) us = sign comma ∷ joined_t comma value_t v vs (sign closes ∷ us)

behind-is : (v : Value) (vs : List Value) (us : List Token) → joined_t comma value_t v vs (sign closes ∷ us) ≡ word (name_of v) ∷ behind vs us
unfolding joined_t behind
behind-is v [] us = value-word v (sign closes ∷ us)
behind-is v (x ∷ vs) us = value-word v (sign comma ∷ joined_t comma value_t x vs (sign closes ∷ us))

module _ {s : List ℕ} {here : ℕ} {w u : List ℕ} {sc : Scope} {n : ℕ} {k : Key} {xs : List Value} {us : List Token} (g : Going s here w u sc n k xs us) where
  pub going-word : lex (drop here s) ≡ word (name_of g.first) ∷ behind g.more us
  going-word = g.is ∙ behind-is g.first g.more us

  -- the first value was read: what stands behind it, its number and the script with it entered
  module _ (r : Named) (a : NameIs s r (name_of g.first) (behind g.more us)) {m : ℕ} {u' : List ℕ} (b : ValueBy u u' sc r.key r.capital m) (k' : Key) (p : k' ≡ with_word k n m) (n' : ℕ) (q : n' ≡ min (n + 1) 5) where
    number-now : m ≡ value_number u sc g.first
    number-now = value-is g.first g.well.0 a.key a.capital b

    after-now : u' ≡ enter_value u g.first
    after-now = value_after g.first g.well.0 a.key a.capital b

    -- no comma: it was the last
    pub going_end : bad ≡ the comma (lex (drop r.end s)) → (f : ℕ) → ok tt (lex (drop f s)) ≡ the closes (lex (drop r.end s)) → ArgsAre s w u' sc (record { end = f; n = n'; first = k' }) xs us
    unfolding behind arg_numbers enter_values
    going_end c f d = go g.more refl
      where
        go : (vs : List Value) → g.more ≡ vs → ArgsAre s w u' sc (record { end = f; n = n'; first = k' }) xs us
        go (v ∷ vs) j =
            let l : lex (drop r.end s) ≡ sign comma ∷ joined_t comma value_t v vs (sign closes ∷ us) = a.left ∙ ap (λ ys. behind ys us) j in
            absurd (peel-some comma l c)
        go [] j =
            let l : lex (drop r.end s) ≡ sign closes ∷ us = a.left ∙ ap (λ ys. behind ys us) j in
            record {
              left = peel-sign s f closes l d;
              count = let h = ap length j in q ∙ sym (g.count ∙ omega arith);
              words = sym (g.words ∙ ap (λ ys. key_words (filled k n (arg_numbers u sc (g.first ∷ ys)))) j ∙ ap (λ y. key_words (with_word k n y)) (sym number-now) ∙ ap key_words (sym p));
              after = sym (g.enters ∙ ap (λ ys. enter_values u (g.first ∷ ys)) j ∙ sym after-now);
            }

    -- and then the bracket is there
    pub going-closes : bad ≡ the comma (lex (drop r.end s)) → bad ≡ the closes (lex (drop r.end s)) → ⊥
    unfolding behind
    going-closes c d = go g.more refl
      where
        go : (vs : List Value) → g.more ≡ vs → ⊥
        go (v ∷ vs) j = peel-some comma (a.left ∙ ap (λ ys. behind ys us) j) c
        go [] j = peel-some closes (a.left ∙ ap (λ ys. behind ys us) j) d

    module _ (e : ℕ) (c : ok tt (lex (drop e s)) ≡ the comma (lex (drop r.end s))) where
      pub going_on : Going s e w u' sc n' k' xs us
      unfolding behind arg_numbers enter_values
      going_on = go g.more refl
        where
          go : (vs : List Value) → g.more ≡ vs → Going s e w u' sc n' k' xs us
          go [] j =
              let l : lex (drop r.end s) ≡ sign closes ∷ us = a.left ∙ ap (λ ys. behind ys us) j in
              absurd (false≢true (ap (next comma) (sym l) ∙ sign-next s e comma (lex (drop r.end s)) c))
          go (v ∷ vs) j =
              let l : lex (drop r.end s) ≡ sign comma ∷ joined_t comma value_t v vs (sign closes ∷ us) = a.left ∙ ap (λ ys. behind ys us) j in
              record {
                first = v;
                more = vs;
                is = peel-sign s e comma l c;
                well = rw j at g.well.1;
                enters = g.enters ∙ ap (λ ys. enter_values u (g.first ∷ ys)) j ∙ ap (λ y. enter_values y (v ∷ vs)) (sym after-now);
                count = let h = ap length j in g.count ∙ omega arith;
                words =
                    g.words ∙ ap (λ ys. key_words (filled k n (arg_numbers u sc (g.first ∷ ys)))) j
                    ∙ ap (λ y. key_words (filled (with_word k n y) (min (n + 1) 5) (arg_numbers (enter_value u g.first) sc (v ∷ vs)))) (sym number-now)
                    ∙ ap (λ y. key_words (filled y (min (n + 1) 5) (arg_numbers (enter_value u g.first) sc (v ∷ vs)))) (sym p)
                    ∙ ap (λ y. key_words (filled k' y (arg_numbers (enter_value u g.first) sc (v ∷ vs)))) (sym q)
                    ∙ ap (λ y. key_words (filled k' n' (arg_numbers y sc (v ∷ vs)))) (sym after-now);
              }

      pub going-falls : length s - e < length s - here
      going-falls =
          bytes-fall s here e (omega (arith, ap length going-word, ap length a.left, the-less comma (lex (drop r.end s)) tt (lex (drop e s)) (sym c)))

-- ── nothing, or values in brackets ──
module _ (s : List ℕ) (at : ℕ) (x : ListAt s at) where
  pub list-empty : bad ≡ the opens (lex (drop at s)) → (w : List ℕ) (sc : Scope) → ArgsAre s w w sc (record { end = at; n = 0; first = record { a = 0; b = 0; c = 0; d = 0 } }) x.what x.left
  unfolding arg_numbers enter_values
  list-empty e w sc = go x.what refl
    where
      go : (vs : List Value) → x.what ≡ vs → ArgsAre s w w sc (record { end = at; n = 0; first = record { a = 0; b = 0; c = 0; d = 0 } }) vs x.left
      go [] j = record { left = x.is ∙ ap (λ ys. list_t value_t ys x.left) j; count = refl; words = refl; after = refl }
      go (v ∷ vs) j = absurd (peel-some opens (x.is ∙ ap (λ ys. list_t value_t ys x.left) j) e)

  module _ (a : ℕ) (e : ok tt (lex (drop a s)) ≡ the opens (lex (drop at s))) where
    unlisted : x.what ≡ [] → ⊥
    unlisted j = false≢true (sym x.over ∙ ap (next opens) (sym (x.is ∙ ap (λ ys. list_t value_t ys x.left) j)) ∙ sign-next s a opens (lex (drop at s)) e)

    values-at : (v : Value) (vs : List Value) → x.what ≡ v ∷ vs → ValuesAt s a
    values-at v vs j = record { first = v; more = vs; left = x.left; is = peel-sign s a opens (x.is ∙ ap (λ ys. list_t value_t ys x.left) j) e; well = rw j at x.well }

    pub list-some : ValuesAt s a
    list-some = go x.what refl
      where
        go : (vs : List Value) → x.what ≡ vs → ValuesAt s a
        go [] j = absurd (unlisted j)
        go (v ∷ vs) j = values-at v vs j

    pub list-is : (w u : List ℕ) (sc : Scope) (r : Option Args) → ((y : ValuesAt s a) → Gives (λ r. ArgsAre s w u sc r (values_of y) y.left) r) → Gives (λ r. ArgsAre s w u sc r x.what x.left) r
    unfolding values-at
    list-is w u sc None k = k list-some
    list-is w u sc (Some r) k = go x.what refl
      where
        go : (vs : List Value) → x.what ≡ vs → ArgsAre s w u sc r vs x.left
        go [] j = absurd (unlisted j)
        go (v ∷ vs) j = k (values-at v vs j)
