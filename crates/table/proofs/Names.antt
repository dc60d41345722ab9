-- A name's letters determine the words that hold it: words below 2^32 with the same letters are the same.
-- By induction on the bytes: the first byte and the stripped rest can be read off a stripped list, since what is cut off is zeros.
use Prim.Native.Nat.{ℕ, ◌/◌, ◌%◌, ◌≤◌, ◌<◌}
use native.Mathlib.Omega.{arith}
use mathlib.Core.List.{List, [], ◌∷◌}
use mathlib.Core.Bool.{Bool, true, false, cond, ◌&&◌, false≢true}
use mathlib.Core.Path.{◌≡◌, refl, ap, sym, ◌∙◌}
use lib.Dec.{eqb, leb}
use lib.ListN.{length, get_or, drop}
use borrow.Author.Tests.{eq-eqb, ne_eqb, eqb-true, eqb-false, le-leb}
use Rattle.terms.specs.Names.{Name, same_name}
use Rattle.terms.proofs.Names.{eqb-eq, name-eq, name-refl, and-inv}
use Rattle.table.specs.declared.Key.{Key}
use Rattle.table.specs.Words.{four_bytes, is_zero, strip, letters}
use Rattle.table.specs.Tests.{key_name}

-- ── a stripped list ──
abbrev cut : Bool → ℕ → List ℕ → List ℕ
cut z b l = cond z [] (b ∷ l)

pub strip-first : (b : ℕ) (l : List ℕ) → get_or (strip (b ∷ l)) 0 0 ≡ b
unfolding strip
strip-first b l = go (strip l)
  where
    zero-first : (t : Bool) → eqb b 0 ≡ t → get_or (cut t b []) 0 0 ≡ b
    zero-first true e = sym (eqb-eq b 0 e)
    zero-first false e = refl

    go : (r : List ℕ) → get_or (cut (is_zero r b) b r) 0 0 ≡ b
    go [] = zero-first (eqb b 0) refl
    go (c ∷ r) = refl

pub strip-rest : (b : ℕ) (l : List ℕ) → drop 1 (strip (b ∷ l)) ≡ strip l
unfolding strip
strip-rest b l = go (strip l)
  where
    none : (t : Bool) → drop 1 (cut t b []) ≡ []
    none true = refl
    none false = refl

    go : (r : List ℕ) → drop 1 (cut (is_zero r b) b r) ≡ r
    go [] = none (eqb b 0)
    go (c ∷ r) = refl

-- lists of one length that strip to the same name are the same
pub strip-injective : (l m : List ℕ) → length l ≡ length m → strip l ≡ strip m → l ≡ m
strip-injective [] [] h e = refl
strip-injective [] (c ∷ m) h e = absurd (omega arith)
strip-injective (b ∷ l) [] h e = absurd (omega arith)
strip-injective (b ∷ l) (c ∷ m) h e =
    let p : b ≡ c = sym (strip-first b l) ∙ ap (λ t. get_or t 0 0) e ∙ strip-first c m in
    let q : l ≡ m = strip-injective l m (omega arith) (sym (strip-rest b l) ∙ ap (drop 1) e ∙ strip-rest c m) in
    rw (p, q)

-- ── four bytes ──
last_byte : (a b : ℕ) → a % 256 ≡ b % 256 → a / 256 ≡ b / 256 → a ≡ b
last_byte a b p q = omega arith

shift-2 : (a : ℕ) → a / 256 / 256 ≡ a / 65_536
shift-2 a = omega arith

shift-3 : (a : ℕ) → a / 65_536 / 256 ≡ a / 16_777_216
shift-3 a = omega arith

top_byte : (a : ℕ) → a < 4_294_967_296 → a / 16_777_216 % 256 ≡ a / 16_777_216
top_byte a h = omega arith

pub four-bytes : (a b : ℕ) → a < 4_294_967_296 → b < 4_294_967_296 → a % 256 ≡ b % 256 → a / 256 % 256 ≡ b / 256 % 256
    → a / 65_536 % 256 ≡ b / 65_536 % 256
    → a / 16_777_216 % 256 ≡ b / 16_777_216 % 256
    → a ≡ b
four-bytes a b h k p q r s =
    let third = last_byte (a / 65_536) (b / 65_536) r (shift-3 a ∙ sym (top_byte a h) ∙ s ∙ top_byte b k ∙ sym (shift-3 b)) in
    let second = last_byte (a / 256) (b / 256) q (shift-2 a ∙ third ∙ sym (shift-2 b)) in
    last_byte a b p second

pub four-bytes-injective : (a b : ℕ) (l m : List ℕ) → a < 4_294_967_296 → b < 4_294_967_296 → four_bytes a l ≡ four_bytes b m → (a ≡ b) × (l ≡ m)
four-bytes-injective a b l m h k e =
    (four-bytes a b h k (ap (λ t. get_or t 0 0) e) (ap (λ t. get_or t 1 0) e) (ap (λ t. get_or t 2 0) e) (ap (λ t. get_or t 3 0) e), ap (drop 4) e)

-- ── names of four words ──
pub record Words (k : Key) : Type 0 where
  pub wa : k.a < 4_294_967_296
  pub wb : k.b < 4_294_967_296
  pub wc : k.c < 4_294_967_296
  pub wd : k.d < 4_294_967_296

pub key-injective : (x y : Key) → Words x → Words y → key_name x ≡ key_name y → x ≡ y
unfolding letters
key-injective x y h k e =
    let p = four-bytes-injective x.a y.a _ _ h.wa k.wa (strip-injective _ _ refl e) in
    let q = four-bytes-injective x.b y.b _ _ h.wb k.wb p.1 in
    let r = four-bytes-injective x.c y.c _ _ h.wc k.wc q.1 in
    let s = four-bytes-injective x.d y.d [] [] h.wd k.wd r.1 in
    all p.0 q.0 r.0 s.0
  where
    all : x.a ≡ y.a → x.b ≡ y.b → x.c ≡ y.c → x.d ≡ y.d → x ≡ y
    all p q r s = λ i. record { a = p i; b = q i; c = r i; d = s i }

pub keys-differ : (x y : Key) → Words x → Words y → (x ≡ y → ⊥) → same_name (key_name x) (key_name y) ≡ false
keys-differ x y h k n = go (same_name (key_name x) (key_name y)) refl
  where
    go : (t : Bool) → same_name (key_name x) (key_name y) ≡ t → t ≡ false
    go true e = absurd (n (key-injective x y h k (name-eq (key_name x) (key_name y) e)))
    go false e = refl

-- the test of the four words is that of the letters
pub keys-same : (x y : Key) → Words x → Words y → (eqb x.a y.a && (eqb x.b y.b && (eqb x.c y.c && eqb x.d y.d))) ≡ same_name (key_name x) (key_name y)
keys-same x y h k = go (eqb x.a y.a && (eqb x.b y.b && (eqb x.c y.c && eqb x.d y.d))) refl
  where
    all : x.a ≡ y.a → x.b ≡ y.b → x.c ≡ y.c → x.d ≡ y.d → x ≡ y
    all p q r s = λ i. record { a = p i; b = q i; c = r i; d = s i }

    go : (t : Bool) → (eqb x.a y.a && (eqb x.b y.b && (eqb x.c y.c && eqb x.d y.d))) ≡ t → t ≡ same_name (key_name x) (key_name y)
    go true e =
        let p = and-inv (eqb x.a y.a) _ e in
        let q = and-inv (eqb x.b y.b) _ p.1 in
        let r = and-inv (eqb x.c y.c) _ q.1 in
        let s : x ≡ y = all (eqb-true x.a y.a p.0) (eqb-true x.b y.b q.0) (eqb-true x.c y.c r.0) (eqb-true x.d y.d r.1) in
        sym (ap (λ z. same_name (key_name z) (key_name y)) s ∙ name-refl (key_name y))
    go false e =
        sym
        (keys-differ x y h k
        (λ s. false≢true
        (sym e ∙ rw (eq-eqb x.a y.a (ap (λ z. z.a) s), eq-eqb x.b y.b (ap (λ z. z.b) s), eq-eqb x.c y.c (ap (λ z. z.c) s), eq-eqb x.d y.d (ap (λ z. z.d) s)) refl)))

-- the first words alone tell two names apart
letters-first : (a b c d a₁ b₁ c₁ d₁ : ℕ) → a < 4_294_967_296 → a₁ < 4_294_967_296 → letters a b c d ≡ letters a₁ b₁ c₁ d₁ → a ≡ a₁
unfolding letters
letters-first a b c d a₁ b₁ c₁ d₁ h k e = (four-bytes-injective a a₁ _ _ h k (strip-injective _ _ refl e)).0

pub first-differs : (a b c d a₁ b₁ c₁ d₁ : ℕ) → a < 4_294_967_296 → a₁ < 4_294_967_296 → (a ≡ a₁ → ⊥)
    → same_name (letters a b c d) (letters a₁ b₁ c₁ d₁) ≡ false
first-differs a b c d a₁ b₁ c₁ d₁ h k n = go (same_name (letters a b c d) (letters a₁ b₁ c₁ d₁)) refl
  where
    go : (t : Bool) → same_name (letters a b c d) (letters a₁ b₁ c₁ d₁) ≡ t → t ≡ false
    go true e = absurd (n (letters-first a b c d a₁ b₁ c₁ d₁ h k (name-eq (letters a b c d) (letters a₁ b₁ c₁ d₁) e)))
    go false e = refl

pub eqb-sym : (a b : ℕ) → eqb a b ≡ eqb b a
eqb-sym a b = go (eqb a b) refl
  where
    go : (t : Bool) → eqb a b ≡ t → t ≡ eqb b a
    go true e = sym (eq-eqb b a (sym (eqb-true a b e)))
    go false e = sym (ne_eqb b a (λ z. eqb-false a b e (sym z)))

pub name-sym : (u v : Name) → same_name u v ≡ same_name v u
unfolding same_name
name-sym [] [] = refl
name-sym [] (b ∷ v) = refl
name-sym (a ∷ u) [] = refl
name-sym (a ∷ u) (b ∷ v) = rw (eqb-sym a b, name-sym u v)

-- ── what strip keeps, and at most 16 letters ──
pub strip-more : (b : ℕ) (l : List ℕ) → (strip l ≡ [] → ⊥) → strip (b ∷ l) ≡ b ∷ strip l
unfolding strip
strip-more b l = go (strip l)
  where
    go : (r : List ℕ) → (r ≡ [] → ⊥) → cond (is_zero r b) [] (b ∷ r) ≡ b ∷ r
    go [] h = absurd (h refl)
    go (c ∷ r) h = refl

strip-length : (l : List ℕ) → length (strip l) ≤ length l
unfolding strip
strip-length [] = omega arith
strip-length (b ∷ l) = go (is_zero (strip l) b) (strip-length l)
  where
    go : (t : Bool) → length (strip l) ≤ length l → length (cond t [] (b ∷ strip l)) ≤ length (b ∷ l)
    go true h = omega arith
    go false h = omega arith

pub short-enough : (k : Key) → leb (length (key_name k)) 16 ≡ true
unfolding letters
short-enough k = le-leb (length (key_name k)) 16 (strip-length _)
