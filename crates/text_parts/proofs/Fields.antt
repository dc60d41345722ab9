-- The fields of a part, and names in brackets, read as the code reads them.
-- A timer or value is a word that passes one test; names joined by commas are one, and then more after a comma.
use Prim.Native.Nat.{ℕ, zero, suc, ◌+◌, ◌≤◌, ◌<◌, min}
use native.Mathlib.Omega.{arith}
use mathlib.Core.Bool.{Bool, true, false, cond, ◌||◌}
use mathlib.Core.List.{List, [], ◌∷◌}
use mathlib.Core.Path.{◌≡◌, refl, ap, sym, ◌∙◌}
use lib.ListN.{length}
use Rattle.terms.specs.Names.{Name, bytes, same_name}
use Rattle.terms.specs.Terms.Value.{loc, var}
use Rattle.terms.specs.Letters.{is_small, is_location, is_identifier}
use Rattle.text.specs.Tokens.{Token, number, is_ticks, opens, closes, comma}
use Rattle.text.specs.Syntax.Span.{exactly, forever}
use Rattle.text.specs.Grammar.{Rest, Reader, bind, when, the, a_word, named, next, more, joined, sep_by, bracketed, list_of, a_timer, a_value, Head, head_of, ◌>>◌}
use Rattle.text.specs.Grammar.Rest.{ok, bad}
use Rattle.text.specs.Grammar.Head.{stops, goes, sends, receives, calls, nothing}
use Rattle.text.proofs.Unbounded.{Less, name-less, the-less, word-less, small-less, timer-less, value-less, list-within, sep_by-is}
use Rattle.text_words.specs.Bytes.{mapped, skim}
use Rattle.text_words.specs.Sorts.{is_timer}
use Rattle.text_words.proofs.WordSorts.{identifier-is}
use Rattle.text_parts.specs.Openings.{leaf, single, double, comm_open, open_form, an_opening, field_form, go_form, pair_form, comm_form}
use Rattle.text_parts.specs.Counting.{names_form, names_count, list_count}
use Rattle.text.proofs.Exact.{clash}
use Rattle.text_parts.proofs.Rests.{mapped-mapped, mapped-same, mapped-bind, mapped-give, bind-same, mapped-less, next-yes, next-no}

-- ── a timer, a value: a word that passes a test ──
timer-field : (ts : List Token) → skim a_timer ts ≡ skim (named is_timer) ts
unfolding a_timer is_timer
timer-field ts = go (a_word ts)
  where
    test : (w : Name) (us : List Token) (a b : Bool) → mapped (λ x. tt {0}) (cond a (λ ts. ok forever ts) (when b (exactly (number w))) us) ≡ mapped (λ x. tt {0}) (when (a || b) w us)
    test w us true b = refl
    test w us false true = refl
    test w us false false = refl

    go : (x : Rest Name) → mapped (λ x. tt {0}) (bind x (λ w. cond (same_name w (bytes "inf")) (λ ts. ok forever ts) (when (is_ticks w) (exactly (number w))))) ≡ mapped (λ x. tt {0}) (bind x (λ w. when (same_name w (bytes "inf") || is_ticks w) w))
    go (ok w us) = test w us (same_name w (bytes "inf")) (is_ticks w)
    go bad = refl

value-field : (ts : List Token) → skim a_value ts ≡ skim (named is_identifier) ts
unfolding a_value
value-field ts = go (a_word ts)
  where
    test : (w : Name) (us : List Token) (a b : Bool) → mapped (λ x. tt {0}) (cond a (λ ts. ok (loc w) ts) (when b (var w)) us) ≡ mapped (λ x. tt {0}) (when (b || a) w us)
    test w us true true = refl
    test w us true false = refl
    test w us false true = refl
    test w us false false = refl

    go : (x : Rest Name) → mapped (λ x. tt {0}) (bind x (λ w. cond (is_location w) (λ ts. ok (loc w) ts) (when (is_small w) (var w)))) ≡ mapped (λ x. tt {0}) (bind x (λ w. when (is_identifier w) w))
    go (ok w us) = test w us (is_location w) (is_small w) ∙ ap (λ y. mapped (λ x. tt {0}) (when y w us)) (sym (identifier-is w))
    go bad = refl

-- ── the openings of `go`, `out` and `in`, field by field ──
-- a field read by another reader, with its comma
field : {B : Type 0} (x y : Rest (Unit {0})) (k l : Reader B) → x ≡ y → ((us : List Token) → k us ≡ l us) → bind x (λ u us. bind (the comma us) (λ u. k)) ≡ bind (bind y (λ u. the comma)) (λ u. l)
field x y k l e h = rw e (go y)
  where
    go : (y : Rest (Unit {0})) → bind y (λ u us. bind (the comma us) (λ u. k)) ≡ bind (bind y (λ u. the comma)) (λ u. l)
    go (ok u us) = bind-same (the comma us) _ _ λ u vs. h vs
    go bad = refl

pair-double : (p : Name → Bool) (ts : List Token) → bind (field_form is_timer ts) (λ u us. bind (field_form p us) (λ u vs. ok double vs)) ≡ bind (pair_form p ts) (λ u vs. ok double vs)
pair-double p ts = go (field_form is_timer ts)
  where
    go : (x : Rest (Unit {0})) → bind x (λ u us. bind (field_form p us) (λ u vs. ok double vs)) ≡ bind (bind x (λ u. field_form p)) (λ u vs. ok double vs)
    go (ok u us) = refl
    go bad = refl

pub open-go : (ts : List Token) → open_form goes ts ≡ go_form ts
open-go ts =
    bind-same (the opens ts) _ _ λ u a.
    field (skim a_timer a) (skim (named is_timer) a) _ _ (timer-field a) λ b.
    field (skim a_value b) (skim (named is_identifier) b) _ _ (value-field b) λ c. refl

-- `out` and `in` alike: their third field is read by r
comm-field : {A : Type 0} (r : Reader A) (p : Name → Bool) → ((ts : List Token) → skim r ts ≡ skim (named p) ts) → (ts : List Token) → comm_open r ts ≡ comm_form p ts
comm-field r p h ts =
    bind-same (the opens ts) _ _ λ u a.
    field (skim (named is_small) a) (skim (named is_small) a) _ _ refl λ b.
    field (skim a_timer b) (skim (named is_timer) b) _ _ (timer-field b) (λ c.
    field (skim r c) (skim (named p) c) _ _ (h c) λ d. refl)
    ∙ pair-double p b

pub open-out : (ts : List Token) → open_form sends ts ≡ comm_form is_identifier ts
open-out ts = comm-field a_value is_identifier value-field ts

pub open_in : (ts : List Token) → open_form receives ts ≡ comm_form is_small ts
open_in ts = comm-field (named is_small) is_small (λ ts. refl) ts

-- ── names joined by commas ──
-- readers that read alike do so in lists
module _ {A B : Type 0} (c : ℕ) (r : Reader A) (q : Reader B) (h : (ts : List Token) → skim r ts ≡ skim q ts) where
  joined-alike : (f : ℕ) (ts : List Token) → skim (joined f c r) ts ≡ skim (joined f c q) ts
  unfolding joined
  joined-alike zero ts = refl
  joined-alike (suc f) ts = go (r ts) (q ts) (h ts) (joined-alike f)
    where
      sign-then : (x : Rest (Unit {0})) → ((us : List Token) → skim (joined f c r) us ≡ skim (joined f c q) us) → mapped (λ x. tt {0}) (bind x (λ u. joined f c r)) ≡ mapped (λ x. tt {0}) (bind x (λ u. joined f c q))
      sign-then (ok u us) k = k us
      sign-then bad k = refl

      drop-first : {C : Type 0} (a : C) (x : Rest (List C)) → mapped (λ x. tt {0}) (bind x (λ xs zs. ok (a ∷ xs) zs)) ≡ mapped (λ x. tt {0}) x
      drop-first a (ok xs zs) = refl
      drop-first a bad = refl

      turn : (a : A) (b : B) (us : List Token) (y : Bool) → ((us : List Token) → skim (joined f c r) us ≡ skim (joined f c q) us) → mapped (λ x. tt {0}) (more y a (the c >> joined f c r) us) ≡ mapped (λ x. tt {0}) (more y b (the c >> joined f c q) us)
      turn a b us false k = refl
      turn a b us true k = drop-first a ((the c >> joined f c r) us) ∙ sign-then (the c us) k ∙ sym (drop-first b ((the c >> joined f c q) us))

      go : (x : Rest A) (y : Rest B) → mapped (λ x. tt {0}) x ≡ mapped (λ x. tt {0}) y → ((us : List Token) → skim (joined f c r) us ≡ skim (joined f c q) us) → mapped (λ x. tt {0}) (bind x (λ a us. more (next c us) a (the c >> joined f c r) us)) ≡ mapped (λ x. tt {0}) (bind y (λ a us. more (next c us) a (the c >> joined f c q) us))
      go (ok a us) (ok b vs) e k = let j : us ≡ vs = cc in turn a b us (next c us) k ∙ ap (λ z. mapped (λ x. tt {0}) (more (next c z) b (the c >> joined f c q) z)) j
      go (ok a us) bad e k = clash (sym e)
      go bad (ok b vs) e k = clash e
      go bad bad e k = refl

-- the arguments of a call are identifiers, as far as the form goes
pub values-names : (ts : List Token) → skim (list_of a_value) ts ≡ skim (list_of (named is_identifier)) ts
values-names ts = go (next opens ts) ts
  where
    closing : {A : Type 0} (x : Rest (List A)) → mapped (λ x. tt {0}) (bind x (λ xs vs. bind (the closes vs) (λ u zs. ok xs zs))) ≡ bind (mapped (λ x. tt {0}) x) (λ u vs. bind (the closes vs) (λ u zs. ok tt zs))
    closing x = mapped-bind (λ x. tt) (λ x. tt) x _ _ λ xs vs. mapped-give (λ x. tt) (the closes vs) xs

    inner : (x : Rest (Unit {0})) → mapped (λ x. tt {0}) (bind x (λ u us. bind (sep_by comma a_value us) (λ xs vs. bind (the closes vs) (λ u zs. ok xs zs)))) ≡ mapped (λ x. tt {0}) (bind x (λ u us. bind (sep_by comma (named is_identifier) us) (λ xs vs. bind (the closes vs) (λ u zs. ok xs zs))))
    inner (ok u us) =
        closing (sep_by comma a_value us)
        ∙ ap (λ x. bind x (λ u vs. bind (the closes vs) (λ u zs. ok tt zs))) (joined-alike comma a_value (named is_identifier) value-field (length us) us)
        ∙ sym (closing (sep_by comma (named is_identifier) us))
    inner bad = refl

    go : (y : Bool) (ts : List Token) → mapped (λ x. tt {0}) (bracketed y a_value ts) ≡ mapped (λ x. tt {0}) (bracketed y (named is_identifier) ts)
    go false ts = refl
    go true ts = inner (the opens ts)

-- ── the code's loop over names: n before here, at most 5 ──
abbrev pub From : ℕ → List Name → ℕ
From n xs = min (n + length xs) 5

pub names-first : (x : Rest (List Name)) → mapped (From 0) x ≡ mapped names_count x
names-first x = mapped-same (From 0) names_count x λ xs. omega arith

module _ (p : Name → Bool) (ts : List Token) where
  names-at : names_form p ts ≡ bind (bind (named p ts) (λ a us. more (next comma us) a (the comma >> sep_by comma (named p)) us)) (λ xs vs. bind (the closes vs) (λ u zs. ok xs zs))
  unfolding names_form
  names-at = ap (λ x. bind x (λ xs vs. bind (the closes vs) (λ u zs. ok xs zs))) (sep_by-is comma (named p) (name-less p) ts)

  pub names-none : (n : ℕ) → bad ≡ skim (named p) ts → bad ≡ mapped (From n) (names_form p ts)
  names-none n e = go (named p ts) refl e
    where
      go : (x : Rest Name) → named p ts ≡ x → bad ≡ mapped (λ x. tt {0}) x → bad ≡ mapped (From n) (names_form p ts)
      go (ok w us) g e = clash e
      go bad g e = sym (ap (mapped (From n)) (names-at ∙ ap (λ x. bind (bind x (λ a us. more (next comma us) a (the comma >> sep_by comma (named p)) us)) (λ xs vs. bind (the closes vs) (λ u zs. ok xs zs))) g))

  module _ (n : ℕ) (us : List Token) (e : ok tt us ≡ skim (named p) ts) where
    record Read : Type 0 where
      first : Name
      was : named p ts ≡ ok first us

    read : Read
    read = go (named p ts) refl e
      where
        go : (x : Rest Name) → named p ts ≡ x → ok tt us ≡ mapped (λ x. tt {0}) x → Read
        go (ok w vs) g e = let j : vs ≡ us = cc in record { first = w; was = g ∙ ap (ok w) j }
        go bad g e = clash (sym e)

    after_first : (y : Bool) → next comma us ≡ y → names_form p ts ≡ bind (more y read.first (the comma >> sep_by comma (named p)) us) (λ xs vs. bind (the closes vs) (λ u zs. ok xs zs))
    after_first y g = names-at ∙ ap (λ x. bind (bind x (λ a us. more (next comma us) a (the comma >> sep_by comma (named p)) us)) (λ xs vs. bind (the closes vs) (λ u zs. ok xs zs))) read.was ∙ ap (λ z. bind (more z read.first (the comma >> sep_by comma (named p)) us) (λ xs vs. bind (the closes vs) (λ u zs. ok xs zs))) g

    -- m is one more than n, at most 5
    pub names-last : bad ≡ the comma us → (m : ℕ) → m ≡ min (n + 1) 5 → (x : Rest (Unit {0})) → x ≡ the closes us → mapped (λ u. m) x ≡ mapped (From n) (names_form p ts)
    names-last g m h x k = sym (ap (mapped (From n)) (after_first false (next-no comma us (sym g)) ∙ ap (λ x. bind x (λ u zs. ok (read.first ∷ []) zs)) (sym k)) ∙ go x)
      where
        go : (x : Rest (Unit {0})) → mapped (From n) (bind x (λ u zs. ok (read.first ∷ []) zs)) ≡ mapped (λ u. m) x
        go (ok u zs) = ap (λ m. ok m zs) (sym h)
        go bad = refl

    pub names_more : (vs : List Token) → ok tt vs ≡ the comma us → (m : ℕ) → m ≡ min (n + 1) 5 → mapped (From m) (names_form p vs) ≡ mapped (From n) (names_form p ts)
    unfolding names_form
    names_more vs g m h = sym (ap (mapped (From n)) (after_first true (next-yes comma us (sym g)) ∙ ap (λ x. bind (bind (bind x (λ u. sep_by comma (named p))) (λ xs zs. ok (read.first ∷ xs) zs)) (λ xs vs. bind (the closes vs) (λ u zs. ok xs zs))) (sym g)) ∙ go (sep_by comma (named p) vs))
      where
        last : (xs : List Name) (x : Rest (Unit {0})) → mapped (From n) (bind x (λ u zs. ok (read.first ∷ xs) zs)) ≡ mapped (From m) (bind x (λ u zs. ok xs zs))
        last xs (ok u zs) = let j : min (n + length (read.first ∷ xs)) 5 ≡ min (m + length xs) 5 = omega arith in ap (λ m. ok m zs) j
        last xs bad = refl

        go : (x : Rest (List Name)) → mapped (From n) (bind (bind x (λ xs zs. ok (read.first ∷ xs) zs)) (λ xs vs. bind (the closes vs) (λ u zs. ok xs zs))) ≡ mapped (From m) (bind x (λ xs vs. bind (the closes vs) (λ u zs. ok xs zs)))
        go (ok xs zs) = last xs (the closes zs)
        go bad = refl

    name-falls : length us < length ts
    name-falls = mapped-less (name-less p) (λ x. tt {0}) ts tt us (sym e)

    pub names-fall : (vs : List Token) → ok tt vs ≡ the comma us → length vs < length ts
    names-fall vs g = omega (arith, the-less comma us tt vs (sym g), name-falls)

  -- ── nothing, or names in brackets ──
  pub list-none : bad ≡ the opens ts → ok 0 ts ≡ list_count p ts
  list-none e = sym (ap (λ y. mapped names_count (bracketed y (named p) ts)) (next-no opens ts (sym e)))

  pub list_open : (us : List Token) → ok tt us ≡ the opens ts → mapped names_count (names_form p us) ≡ list_count p ts
  unfolding names_form
  list_open us e =
      sym (ap (λ y. mapped names_count (bracketed y (named p) ts)) (next-yes opens ts (sym e))
      ∙ ap (λ x. mapped names_count (bind x (λ u us. bind (sep_by comma (named p) us) (λ xs vs. bind (the closes vs) (λ u zs. ok xs zs))))) (sym e))

-- ── the arguments of a call, forgotten ──
pub call-skim : (ts : List Token) (x : Rest ℕ) → x ≡ list_count is_identifier ts → mapped (λ n. tt {0}) x ≡ skim (list_of a_value) ts
call-skim ts x e = ap (mapped (λ n. tt)) e ∙ mapped-mapped (λ n. tt) names_count (list_of (named is_identifier) ts) ∙ sym (values-names ts)

-- ── three readers in a row, as the code goes through them ──
module _ {B : Type 0} (x : Rest (Unit {0})) (F G : Reader (Unit {0})) (k : Reader B) where
  abbrev Row : Rest B
  Row = bind x (λ u a. bind (F a) (λ u b. bind (G b) (λ u. k)))

  pub row-1 : bad ≡ x → bad ≡ Row
  row-1 e = rw (← e)

  module _ (a : List Token) (e : ok tt a ≡ x) where
    pub row-2 : bad ≡ F a → bad ≡ Row
    row-2 g = rw (← e, ← g)

    module _ (b : List Token) (g : ok tt b ≡ F a) where
      pub row-3 : bad ≡ G b → bad ≡ Row
      row-3 h = rw (← e, ← g, ← h)

      pub row-end : (c : List Token) → ok tt c ≡ G b → k c ≡ Row
      row-end c h = rw (← e, ← g, ← h)

-- ── openings leave less ──
abbrev Within : {A : Type 0} → Reader A → Type 0
Within {A} r = (ts : List Token) (a : A) (us : List Token) → r ts ≡ ok a us → length us ≤ length ts

then-within : {A B : Type 0} {r : Reader A} → Within r → (k : A → Reader B) → ((a : A) → Within (k a)) → Within (λ ts. bind (r ts) k)
then-within {A} {B} {r} x k y ts b us e = go (r ts) refl e
  where
    go : (z : Rest A) → r ts ≡ z → bind z k ≡ ok b us → length us ≤ length ts
    go (ok a vs) h e = omega (arith, x ts a vs h, y a vs b us e)
    go bad h e = clash e

weak : {A : Type 0} {r : Reader A} → Less r → Within r
weak x ts a us e = omega (arith, x ts a us e)

skim-within : {A : Type 0} {r : Reader A} → Within r → Within (skim r)
skim-within {A} {r} x ts u us e = go (r ts) refl e
  where
    go : (z : Rest A) → r ts ≡ z → mapped (λ x. tt {0}) z ≡ ok u us → length us ≤ length ts
    go (ok a vs) h e = let j : vs ≡ us = cc in omega (arith, x ts a vs h, ap length j)
    go bad h e = clash e

gives : {A : Type 0} (a : A) → Within (λ ts. ok a ts)
gives a ts b us e = let j : ts ≡ us = cc in omega (arith, ap length j)

sign-then : {B : Type 0} (c : ℕ) (k : Reader B) → Within k → Within (λ ts. bind (the c ts) (λ u. k))
sign-then c k x = then-within (weak (the-less c)) (λ u. k) λ u. x

field-then : {A B : Type 0} {r : Reader A} → Less r → (k : Reader B) → Within k → Within (λ ts. bind (skim r ts) (λ u. k))
field-then l k x = then-within (skim-within (weak l)) (λ u. k) λ u. x

open-within : (h : Head) → Within (open_form h)
open-within stops = gives leaf
open-within goes = sign-then opens _ (field-then timer-less _ (sign-then comma _ (field-then value-less _ (sign-then comma _ (gives single)))))
open-within sends = sign-then opens _ (field-then small-less _ (sign-then comma _ (field-then timer-less _ (sign-then comma _ (field-then value-less _ (sign-then comma _ (gives double)))))))
open-within receives = sign-then opens _ (field-then small-less _ (sign-then comma _ (field-then timer-less _ (sign-then comma _ (field-then small-less _ (sign-then comma _ (gives double)))))))
open-within calls = then-within (skim-within list-within) _ λ o. gives leaf
open-within nothing = λ ts a us e. clash e

pub opening-less : Less an_opening
unfolding an_opening
opening-less ts o us e = go (a_word ts) refl e
  where
    go : (z : Rest Name) → a_word ts ≡ z → bind z (λ w. open_form (head_of w)) ≡ ok o us → length us < length ts
    go (ok w vs) h e = omega (arith, word-less ts w vs h, open-within (head_of w) vs o us e)
    go bad h e = clash e

-- ── a part's opening, by its first word ──
pub opening-by : (ts : List Token) (w : Name) (us : List Token) (h : Head) → a_word ts ≡ ok w us → h ≡ head_of w → open_form h us ≡ an_opening ts
unfolding an_opening
opening-by ts w us h e g = ap (λ k. open_form k us) g ∙ sym (ap (λ x. bind x (λ w. open_form (head_of w))) e)

pub opening-none : (ts : List Token) → a_word ts ≡ bad → bad ≡ an_opening ts
unfolding an_opening
opening-none ts e = sym (ap (λ x. bind x (λ w. open_form (head_of w))) e)
