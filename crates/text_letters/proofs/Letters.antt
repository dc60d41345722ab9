-- The letters of a name by its words: all four letters of a word that is not the last one, and of the last one those up to its greatest byte.
-- By the definition of stripping; that a word is not 0 is seen from its letters (the crate `table`, Names).
use Prim.Native.Nat.{ℕ, ◌/◌, ◌%◌, ◌≤◌, ◌<◌}
use native.Mathlib.Omega.{arith}
use mathlib.Core.List.{List, [], ◌∷◌, ◌++◌}
use mathlib.Core.Path.{◌≡◌, refl, ap, sym, ◌∙◌}
use lib.ListN.{get_or}
use borrow.Author.Tests.{ne_eqb}
use Rattle.table.specs.declared.Key.{Key}
use Rattle.table.specs.Words.{four_bytes, strip, letters}
use Rattle.table.specs.Tests.{key_name}
use Rattle.table.proofs.Names.{strip-injective, four-bytes}
use Rattle.table.proofs.Names.{strip-more}

-- ── the last word ──
pub last_none : strip (four_bytes 0 []) ≡ []
unfolding strip
last_none = refl

pub last_one : (x : ℕ) → (x ≡ 0 → ⊥) → x < 256 → strip (four_bytes x []) ≡ (x % 256) ∷ []
unfolding strip
last_one x n h =
    let p : x / 256 % 256 ≡ 0 = omega arith in
    let q : x / 65_536 % 256 ≡ 0 = omega arith in
    let r : x / 16_777_216 % 256 ≡ 0 = omega arith in
    rw (p, q, r, ne_eqb (x % 256) 0 (λ z. n (omega arith)))

pub last-two : (x : ℕ) → 256 ≤ x → x < 65_536 → strip (four_bytes x []) ≡ (x % 256) ∷ (x / 256 % 256) ∷ []
unfolding strip
last-two x n h =
    let q : x / 65_536 % 256 ≡ 0 = omega arith in
    let r : x / 16_777_216 % 256 ≡ 0 = omega arith in
    rw (q, r, ne_eqb (x / 256 % 256) 0 (λ z. omega arith))

pub last-three : (x : ℕ) → 65_536 ≤ x → x < 16_777_216 → strip (four_bytes x []) ≡ (x % 256) ∷ (x / 256 % 256) ∷ (x / 65_536 % 256) ∷ []
unfolding strip
last-three x n h =
    let r : x / 16_777_216 % 256 ≡ 0 = omega arith in
    rw (r, ne_eqb (x / 65_536 % 256) 0 (λ z. omega arith))

pub last-four : (x : ℕ) → 16_777_216 ≤ x → x < 4_294_967_296 → strip (four_bytes x []) ≡ four_bytes x []
unfolding strip
last-four x n h = rw (ne_eqb (x / 16_777_216 % 256) 0 (λ z. omega arith))

-- ── the words before it ──
some : (b : ℕ) (l : List ℕ) → (strip l ≡ [] → ⊥) → strip (b ∷ l) ≡ [] → ⊥
some b l n e = let z : ◌≡◌ {A = ℕ} 0 1 = ap (λ t. size_of t) (sym e ∙ strip-more b l n) in omega arith
  where
    size_of : List ℕ → ℕ
    size_of [] = 0
    size_of (c ∷ r) = 1

-- a word before a name's last one has all its letters
pub four-more : (x : ℕ) (l : List ℕ) → (strip l ≡ [] → ⊥) → strip (four_bytes x l) ≡ four_bytes x (strip l)
four-more x l n =
    let d = some (x / 16_777_216 % 256) l n in
    let c = some (x / 65_536 % 256) _ d in
    let b = some (x / 256 % 256) _ c in
    strip-more (x % 256) _ b
    ∙ ap (λ t. (x % 256) ∷ t) (strip-more (x / 256 % 256) _ c
    ∙ ap (λ t. (x / 256 % 256) ∷ t) (strip-more (x / 65_536 % 256) _ d
    ∙ ap (λ t. (x / 65_536 % 256) ∷ t) (strip-more (x / 16_777_216 % 256) l n)))

-- zeros after a word are no letters
pub four-tail : (x : ℕ) (l m : List ℕ) → strip l ≡ strip m → strip (four_bytes x l) ≡ strip (four_bytes x m)
unfolding strip
four-tail x l m e = rw e

-- ── two words ──
pub two_none : (x : ℕ) → strip (four_bytes x (four_bytes 0 [])) ≡ strip (four_bytes x [])
two_none x = four-tail x (four_bytes 0 []) [] (last_none ∙ (unfold strip in refl))

word_some : (x : ℕ) → (x ≡ 0 → ⊥) → x < 4_294_967_296 → strip (four_bytes x []) ≡ [] → ⊥
word_some x n h e = n (four-bytes x 0 h (omega arith) (at 0) (at 1) (at 2) (at 3))
  where
    all : four_bytes x [] ≡ four_bytes 0 []
    all = strip-injective (four_bytes x []) (four_bytes 0 []) refl (e ∙ sym last_none)

    at : (k : ℕ) → get_or (four_bytes x []) k 0 ≡ get_or (four_bytes 0 []) k 0
    at k = ap (λ t. get_or t k 0) all

pub two-some : (x y : ℕ) → (y ≡ 0 → ⊥) → y < 4_294_967_296 → strip (four_bytes x (four_bytes y [])) ≡ four_bytes x [] ++ strip (four_bytes y [])
two-some x y n h = four-more x (four_bytes y []) (word_some y n h)

-- ── four words ──
pub key-short : (k : Key) → k.c ≡ 0 → k.d ≡ 0 → key_name k ≡ strip (four_bytes k.a (four_bytes k.b []))
unfolding letters
key-short k p q = rw (p, q) (four-tail k.a _ _ (four-tail k.b (four_bytes 0 (four_bytes 0 [])) [] no-letters))
  where
    no-letters : strip (four_bytes 0 (four_bytes 0 [])) ≡ strip []
    no-letters = unfold strip in refl

tail-some : (c d : ℕ) → c < 4_294_967_296 → d < 4_294_967_296 → (c ≡ 0 → d ≡ 0 → ⊥) → strip (four_bytes c (four_bytes d [])) ≡ [] → ⊥
tail-some c d h k n e = n (four-bytes c 0 h (omega arith) (at 0) (at 1) (at 2) (at 3)) (four-bytes d 0 k (omega arith) (at 4) (at 5) (at 6) (at 7))
  where
    all : four_bytes c (four_bytes d []) ≡ four_bytes 0 (four_bytes 0 [])
    all = strip-injective (four_bytes c (four_bytes d [])) (four_bytes 0 (four_bytes 0 [])) refl (e ∙ (unfold strip in refl))

    at : (j : ℕ) → get_or (four_bytes c (four_bytes d [])) j 0 ≡ get_or (four_bytes 0 (four_bytes 0 [])) j 0
    at j = ap (λ t. get_or t j 0) all

pub key-long : (k : Key) → k.c < 4_294_967_296 → k.d < 4_294_967_296 → (k.c ≡ 0 → k.d ≡ 0 → ⊥)
    → key_name k ≡ four_bytes k.a [] ++ (four_bytes k.b [] ++ strip (four_bytes k.c (four_bytes k.d [])))
unfolding letters
key-long k h m n =
    let t = tail-some k.c k.d h m n in
    four-more k.a _ (four-some k.b _ t) ∙ ap (four_bytes k.a) (four-more k.b _ t)
  where
    four-some : (x : ℕ) (l : List ℕ) → (strip l ≡ [] → ⊥) → strip (four_bytes x l) ≡ [] → ⊥
    four-some x l z = some (x % 256) _ (some (x / 256 % 256) _ (some (x / 65_536 % 256) _ (some (x / 16_777_216 % 256) l z)))
