-- The tokens of a tree read back as that tree.
-- By recursion on the tree, with as much depth and number as the tokens themselves give: every form is longer than what it holds.
use Prim.Native.Nat.{ℕ, zero, suc, ◌+◌, ◌*◌, ◌≤◌, ◌<◌}
use native.Mathlib.Omega.{arith}
use mathlib.Core.List.{List, [], ◌∷◌, map}
use mathlib.Core.Bool.{Bool, true, false, ◌||◌, not, false≢true}
use mathlib.Core.Path.{◌≡◌, refl}
use lib.Dec.{eqb}
use borrow.Author.Tests.{eq-eqb}
use lib.ListN.{length}
use Rattle.terms.specs.Names.{Name, bytes, same_name}
use Rattle.terms.specs.Terms.{Value}
use Rattle.terms.specs.Terms.Value.{loc, var}
use Rattle.terms.specs.Characters.Class.{capital, small, digit, bracket, blank, other}
use Rattle.text.specs.Tokens.{Token, opens, closes, right, comma, bar, dot, equals}
use Rattle.text.specs.Tokens.Token.{word, sign}
use Rattle.text.specs.Syntax.{Span, Part, Process, Def, Located, Text}
use Rattle.text.specs.Syntax.Span.{exactly, forever}
use Rattle.text.specs.Syntax.Part.{stop, go, out, inp, call}
use Rattle.text.specs.Syntax.Process.{one, ◌∥◌}
use Rattle.text.specs.Syntax.Def.{define}
use Rattle.text.specs.Syntax.Located.{at}
use Rattle.text.specs.Tree.{timer_of, settle, settle_p, settle_def, settle_at}
use Rattle.text.specs.Grammar.{Reader, named, the, next, joined, sep_by, list_of, a_timer, a_value, head_of, part_of, process_of, process, a_def, a_located, a_network, net_next, text_of, text}
use Rattle.text.specs.Grammar.Rest.{ok}
use Rattle.text.specs.Grammar.Head.{calls}
use Rattle.text.specs.Write.{Printer, name_t, timer_t, value_t, joined_t, list_t, part_t, process_t, def_t, located_t, network_t, text_t, tokens}
use Rattle.text.specs.WellFormed.{Is, WellTimer, WellValue, Each, WellPart, WellProcess, WellDef, WellLocated, NonEmpty, WellText}
use Rattle.terms.specs.Characters.{Class, class_of, is_capital, is_lower}
use Rattle.terms.specs.Rules.{some}
use Rattle.terms.specs.Letters.{member, is_location, is_small, is_identifier, reserved, first_is}
use Rattle.terms.proofs.Letters.{name-form, no_name}
use Rattle.text.proofs.Digits.{digits-ticks, digits_number, digits-not-inf}

eqb_same : (n : ℕ) → eqb n n ≡ true
eqb_same n = eq-eqb n n refl

-- ── names ──
small-not-location : (w : Name) → is_small w ≡ true → is_location w ≡ false
unfolding is_small is_location
small-not-location w e = no_name is_capital w (go w (name-form is_lower w e).first)
  where
    low : (c : Class) → is_lower c ≡ true → is_capital c ≡ false
    low capital e = absurd (false≢true e)
    low small e = refl
    low digit e = refl
    low blank e = refl
    low bracket e = refl
    low other e = refl

    go : (w : Name) → first_is is_lower w ≡ true → first_is is_capital w ≡ false
    go [] e = refl
    go (b ∷ w) e = low (class_of b) e

not-or : (a b : Bool) → not (a || b) ≡ true → (a ≡ false) × (not b ≡ true)
not-or true b e = absurd (false≢true e)
not-or false b e = (refl, e)

identifier-free : (w : Name) → is_identifier w ≡ true → not (member w reserved) ≡ true
unfolding is_identifier
identifier-free w e = (name-form _ w e).free

pub identifier-calls : (w : Name) → is_identifier w ≡ true → head_of w ≡ calls
unfolding head_of member some
identifier-calls w e =
    let f = identifier-free w e in
    let a = not-or (same_name w (bytes "stop")) _ f in
    let b = not-or (same_name w (bytes "go")) _ a.1 in
    let c = not-or (same_name w (bytes "in")) _ b.1 in
    let d = not-or (same_name w (bytes "out")) _ c.1 in
    rw (a.0, b.0, d.0, c.0, e)

-- ── timers and values ──
timer-back : (t : Span) (ts : List Token) → WellTimer (timer_of t) → a_timer (timer_t t ts) ≡ ok t ts
unfolding a_timer same_name
timer-back (exactly n) ts h = rw (digits-not-inf n, digits-ticks n h, digits_number n)
timer-back forever ts h = refl

value-back : (v : Value) (ts : List Token) → WellValue v → a_value (value_t v ts) ≡ ok v ts
unfolding a_value
value-back (loc w) ts h = rw h
value-back (var w) ts h = rw (small-not-location w h, h)

name_back : (p : Name → Bool) (w : Name) (ts : List Token) → Is p w → named p (name_t w ts) ≡ ok w ts
name_back p w ts h = rw h

pub the-back : (c : ℕ) (ts : List Token) → the c (sign c ∷ ts) ≡ ok tt ts
the-back c ts = rw (eqb_same c)

-- ── lists ──
pub each_of : {A B : Type 0} (W : B → Type 0) (f : A → B) (xs : List A) → Each W (map f xs) → Each (λ x. W (f x)) xs
each_of W f [] w = tt
each_of W f (x ∷ xs) w = (w.0, each_of W f xs w.1)

pub some-of : {A B : Type 0} (f : A → B) (xs : List A) → NonEmpty (map f xs) → NonEmpty xs
some-of f [] s = s
some-of f (x ∷ xs) s = tt

-- r reads what pr prints of whatever is well, and that is a token at least
pub record Back {A : Type 0} (W : A → Type 0) (r : Reader A) (pr : Printer A) : Type 0 where
  pub back : (a : A) (ts : List Token) → W a → r (pr a ts) ≡ ok a ts
  pub longer : (a : A) (ts : List Token) → length ts < length (pr a ts)

pub value-longer : (v : Value) (ts : List Token) → length ts < length (value_t v ts)
value-longer (loc w) ts = omega arith
value-longer (var w) ts = omega arith

pub timer-longer : (t : Span) (ts : List Token) → length ts < length (timer_t t ts)
timer-longer (exactly n) ts = omega arith
timer-longer forever ts = omega arith

pub values : Back WellValue a_value value_t
values = record { back = value-back; longer = value-longer }

pub names : (p : Name → Bool) → Back (Is p) (named p) name_t
names p = record { back = name_back p; longer = λ a ts. omega arith }

module _ {A : Type 0} {W : A → Type 0} {r : Reader A} {pr : Printer A} (c : ℕ) (b : Back W r pr) where
  joined-longer : (a : A) (xs : List A) (ts : List Token) → length ts + length xs < length (joined_t c pr a xs ts)
  unfolding joined_t
  joined-longer a [] ts = omega (arith, b.longer a ts)
  joined-longer a (x ∷ xs) ts = omega (arith, b.longer a (sign c ∷ joined_t c pr x xs ts), joined-longer x xs ts)

  joined_back : (f : ℕ) (a : A) (xs : List A) (ts : List Token) → length xs < f → next c ts ≡ false → Each W (a ∷ xs) → joined f c r (joined_t c pr a xs ts) ≡ ok (a ∷ xs) ts
  unfolding joined joined_t
  joined_back zero a xs ts h n w = absurd (omega arith)
  joined_back (suc f) a [] ts h n w = rw (b.back a ts w.0, n)
  joined_back (suc f) a (x ∷ xs) ts h n w = rw (b.back a (sign c ∷ joined_t c pr x xs ts) w.0, eqb_same c, the-back c (joined_t c pr x xs ts), joined_back f x xs ts (omega arith) n w.1)

  sep_by-back : (a : A) (xs : List A) (ts : List Token) → next c ts ≡ false → Each W (a ∷ xs) → sep_by c r (joined_t c pr a xs ts) ≡ ok (a ∷ xs) ts
  sep_by-back a xs ts n w = joined_back (length (joined_t c pr a xs ts)) a xs ts (omega (arith, joined-longer a xs ts)) n w

pub list_back : {A : Type 0} {W : A → Type 0} {r : Reader A} {pr : Printer A} → Back W r pr → (xs : List A) (ts : List Token) → next opens ts ≡ false → Each W xs → list_of r (list_t pr xs ts) ≡ ok xs ts
list_back b [] ts n w = rw n
list_back {r = r} {pr = pr} b (a ∷ xs) ts n w = rw (sep_by-back comma b a xs (sign closes ∷ ts) refl w)

pub list-longer : {A : Type 0} {W : A → Type 0} {r : Reader A} {pr : Printer A} → Back W r pr → (xs : List A) (ts : List Token) → length ts ≤ length (list_t pr xs ts)
list-longer b [] ts = omega arith
list-longer b (a ∷ xs) ts = omega (arith, joined-longer comma b a xs (sign closes ∷ ts))

-- ── parts and processes ──
mutual
  unfolding part_t

  pub part-longer : (a : Part) (ts : List Token) → length ts < length (part_t a ts)
  part-longer stop ts = omega arith
  part-longer (go t v p) ts = omega (arith, timer-longer t (sign comma ∷ value_t v (sign comma ∷ process_t p (sign closes ∷ ts))), value-longer v (sign comma ∷ process_t p (sign closes ∷ ts)), process-longer p (sign closes ∷ ts))
  part-longer (out c t v p q) ts = omega (arith, timer-longer t (sign comma ∷ value_t v (sign comma ∷ process_t p (sign comma ∷ process_t q (sign closes ∷ ts)))), value-longer v (sign comma ∷ process_t p (sign comma ∷ process_t q (sign closes ∷ ts))), process-longer p (sign comma ∷ process_t q (sign closes ∷ ts)), process-longer q (sign closes ∷ ts))
  part-longer (inp c t y p q) ts = omega (arith, timer-longer t (sign comma ∷ word y ∷ sign comma ∷ process_t p (sign comma ∷ process_t q (sign closes ∷ ts))), process-longer p (sign comma ∷ process_t q (sign closes ∷ ts)), process-longer q (sign closes ∷ ts))
  part-longer (call i vs) ts = omega (arith, list-longer values vs ts)

  pub process-longer : (p : Process) (ts : List Token) → length ts < length (process_t p ts)
  process-longer (one a) ts = part-longer a ts
  process-longer (a ∥ p) ts = omega (arith, part-longer a (sign bar ∷ process_t p ts), process-longer p ts)

mutual
  unfolding part_t part_of head_of same_name

  pub part-back : (f : ℕ) (a : Part) (ts : List Token) → 2 * length (part_t a ts) < f → next opens ts ≡ false → WellPart (settle a) → part_of f (part_t a ts) ≡ ok a ts
  part-back zero a ts h n w = absurd (omega arith)
  part-back (suc f) stop ts h n w = refl
  part-back (suc f) (go t v p) ts h n (a, b, c) =
      let z = sign closes ∷ ts in
      let y = sign comma ∷ process_t p z in
      let x = sign comma ∷ value_t v y in
      rw (timer-back t x a, value-back v y b, process-back f p z (omega (arith, timer-longer t x, value-longer v y)) refl refl c)
  part-back (suc f) (out k t v p q) ts h n (a, b, c, d, e) =
      let z = sign closes ∷ ts in
      let y = sign comma ∷ process_t q z in
      let x = sign comma ∷ process_t p y in
      let u = sign comma ∷ value_t v x in
      rw (a, timer-back t u b, value-back v x c, process-back f p y (omega (arith, timer-longer t u, value-longer v x)) refl refl d, process-back f q z (omega (arith, timer-longer t u, value-longer v x, process-longer p y)) refl refl e)
  part-back (suc f) (inp k t m p q) ts h n (a, b, c, d, e) =
      let z = sign closes ∷ ts in
      let y = sign comma ∷ process_t q z in
      let x = sign comma ∷ process_t p y in
      let u = sign comma ∷ word m ∷ x in
      rw (a, timer-back t u b, c, process-back f p y (omega (arith, timer-longer t u)) refl refl d, process-back f q z (omega (arith, timer-longer t u, process-longer p y)) refl refl e)
  part-back (suc f) (call i vs) ts h n (a, b) = rw (identifier-calls i a, list_back values vs ts n b)

  pub process-back : (f : ℕ) (p : Process) (ts : List Token) → 2 * length (process_t p ts) + 1 < f → next opens ts ≡ false → next bar ts ≡ false → WellProcess (settle_p p) → process_of f (process_t p ts) ≡ ok p ts
  process-back zero p ts h n m w = absurd (omega arith)
  process-back (suc f) (one a) ts h n m w = rw (part-back f a ts (omega arith) n w, m)
  process-back (suc f) (a ∥ p) ts h n m w = rw (part-back f a (sign bar ∷ process_t p ts) (omega arith) refl w.0, process-back f p ts (omega (arith, part-longer a (sign bar ∷ process_t p ts))) n m w.1)

process-whole : (p : Process) (ts : List Token) → next opens ts ≡ false → next bar ts ≡ false → WellProcess (settle_p p) → process (process_t p ts) ≡ ok p ts
process-whole p ts n m w = process-back (2 * length (process_t p ts) + 2) p ts (omega arith) n m w

-- ── definitions, located processes, texts ──
def-back : (d : Def) (ts : List Token) → WellDef (settle_def d) → a_def (def_t d ts) ≡ ok d ts
unfolding a_def
def-back (define i us p) ts (a, b, c) =
    let y = sign dot ∷ ts in
    let x = sign equals ∷ process_t p y in
    rw (a, list_back (names is_small) us x refl b, process-whole p y refl refl c)

located-back : (l : Located) (ts : List Token) → WellLocated (settle_at l) → a_located (located_t l ts) ≡ ok l ts
unfolding a_located
located-back (at l p) ts (a, b) = rw (a, process-whole p (sign right ∷ ts) refl refl b)

pub located-longer : (l : Located) (ts : List Token) → length ts < length (located_t l ts)
located-longer (at l p) ts = omega (arith, process-longer p (sign right ∷ ts))

locateds : Back (λ l. WellLocated (settle_at l)) a_located located_t
locateds = record { back = located-back; longer = located-longer }

network-back : (ls : List Located) → NonEmpty ls → Each WellLocated (map settle_at ls) → a_network (network_t ls) ≡ ok ls []
unfolding a_network network_t
network-back [] s w = absurd s
network-back (l ∷ ls) s w = rw (sep_by-back bar locateds l ls (sign dot ∷ []) refl (each_of WellLocated settle_at (l ∷ ls) w))

-- a network begins with a name and `[`, a definition does not
net-next : (ls : List Located) → NonEmpty ls → net_next (network_t ls) ≡ true
unfolding network_t joined_t
net-next [] s = absurd s
net-next (at l p ∷ []) s = refl
net-next (at l p ∷ k ∷ ls) s = refl

def-next : (d : Def) (ts : List Token) → net_next (def_t d ts) ≡ false
def-next (define i [] p) ts = refl
def-next (define i (u ∷ us) p) ts = refl

pub def-longer : (d : Def) (ts : List Token) → length ts < length (def_t d ts)
def-longer (define i us p) ts = omega (arith, list-longer (names is_small) us (sign equals ∷ process_t p (sign dot ∷ ts)), process-longer p (sign dot ∷ ts))

network-longer : (ls : List Located) → 0 < length (network_t ls)
unfolding network_t
network-longer [] = omega arith
network-longer (l ∷ ls) = omega (arith, joined-longer bar locateds l ls (sign dot ∷ []))

text-back : (f : ℕ) (ds : List Def) (ls : List Located) → length (text_t ds ls) ≤ f → Each WellDef (map settle_def ds) → Each WellLocated (map settle_at ls) → NonEmpty ls → text_of f (text_t ds ls) ≡ ok (record { defs = ds; located = ls }) []
unfolding text_of text_t
text-back zero [] ls h d w s = absurd (omega (arith, network-longer ls))
text-back zero (x ∷ ds) ls h d w s = absurd (omega (arith, def-longer x (text_t ds ls)))
text-back (suc f) [] ls h d w s = rw (net-next ls s, network-back ls s w)
text-back (suc f) (x ∷ ds) ls h (e, d) w s = rw (def-next x (text_t ds ls), def-back x (text_t ds ls) e, text-back f ds ls (omega (arith, def-longer x (text_t ds ls))) d w s)

-- the tokens of a tree read back as that tree, with nothing left
pub tokens-back : (t : Text) → WellText t → text (tokens t) ≡ ok t []
tokens-back t w = text-back (length (tokens t)) t.defs t.located (omega arith) w.defs-well w.located-well (some-of settle_at t.located w.some-located)
