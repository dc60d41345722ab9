-- The form of a name, told by its four words: its first letter, that all its bytes are letters and digits, and the reserved words.
-- By what strip keeps: from the last word that is not zero on down, all bytes.
use Prim.Native.Nat.{ℕ, ◌/◌, ◌%◌, ◌≤◌, ◌<◌}
use native.Mathlib.Omega.{arith}
use mathlib.Core.List.{List, [], ◌∷◌, cons≢nil}
use mathlib.Core.Bool.{Bool, true, false, cond, ◌&&◌, not, false≢true}
use mathlib.Core.Logic.{◌⊎◌, inl, inr}
use mathlib.Core.Path.{◌≡◌, refl, ap, sym, subst, ◌∙◌}
use lib.Dec.{eqb}
use Rattle.terms.specs.Names.{Name, same_name}
use Rattle.terms.specs.Rules.{some}
use Rattle.terms.specs.Same.{every}
use Rattle.terms.specs.Characters.Class.{capital, small, digit, bracket, blank, other}
use Rattle.terms.proofs.Names.{eqb-eq}
use Rattle.terms.specs.Characters.{Class, class_of, alnum, is_alnum}
use Rattle.terms.specs.Letters.{first_is, member, reserved, is_name}
use Rattle.table.specs.declared.Key.{Key}
use Rattle.table_names.specs.declared.Sort.{Sort}
use Rattle.table_names.specs.declared.Sort.TheVariants.{Location, Small, Identifier}
use Rattle.table.specs.Words.{four_bytes, is_zero, strip, letters}
use Rattle.table.specs.Tests.{key_name}
use Rattle.table_names.specs.Tests.{first_of}
use Rattle.table.proofs.ValidBool.{and-false}
use Rattle.table.proofs.Names.{Words, strip-injective, four-bytes-injective, keys-differ, strip-more, short-enough}

-- ── what strip keeps ──
pub strip-keeps : (b : ℕ) (l : List ℕ) → (strip (b ∷ l) ≡ [] → ⊥) → strip (b ∷ l) ≡ b ∷ strip l
unfolding strip
strip-keeps b l = go (is_zero (strip l) b)
  where
    go : (t : Bool) → (cond t [] (b ∷ strip l) ≡ [] → ⊥) → cond t [] (b ∷ strip l) ≡ b ∷ strip l
    go true h = absurd (h refl)
    go false h = refl

-- before more letters a word keeps its four bytes
pub word_more : (a : ℕ) (l : List ℕ) → (strip l ≡ [] → ⊥) → strip (four_bytes a l) ≡ four_bytes a (strip l)
word_more a l h =
    let e₃ = strip-more (a / 16_777_216 % 256) l h in
    let e₂ = strip-more (a / 65_536 % 256) (a / 16_777_216 % 256 ∷ l) (λ e. cons≢nil (sym e₃ ∙ e)) in
    let e₁ = strip-more (a / 256 % 256) (a / 65_536 % 256 ∷ a / 16_777_216 % 256 ∷ l) (λ e. cons≢nil (sym e₂ ∙ e)) in
    strip-more (a % 256) _ (λ e. cons≢nil (sym e₁ ∙ e))
    ∙ ap (λ t. a % 256 ∷ t) (e₁ ∙ ap (λ t. a / 256 % 256 ∷ t) (e₂ ∙ ap (λ t. a / 65_536 % 256 ∷ t) e₃))

-- a word without letters is 0
pub word-empty : (a : ℕ) → a < 4_294_967_296 → strip (four_bytes a []) ≡ [] → a ≡ 0
unfolding strip
word-empty a h e = (four-bytes-injective a 0 [] [] h (omega arith) (strip-injective _ (four_bytes 0 []) refl e)).0

-- ── letters and digits ──
abbrev pub solid : ℕ → Bool
solid a = every is_alnum (strip (four_bytes a []))

abbrev pub full : ℕ → Bool
full a = every is_alnum (four_bytes a [])

-- the bytes after the first are those of the word shifted down
shifted : (a : ℕ) → a < 4_294_967_296 → strip (four_bytes (a / 256) []) ≡ strip (a / 256 % 256 ∷ a / 65_536 % 256 ∷ a / 16_777_216 % 256 ∷ [])
unfolding strip
shifted a h = go (a / 256 / 256 % 256) (a / 256 / 65_536 % 256) (a / 256 / 16_777_216 % 256) (omega arith) (omega arith) (omega arith)
  where
    go : (p q r : ℕ) → p ≡ a / 65_536 % 256 → q ≡ a / 16_777_216 % 256 → r ≡ 0
        → strip (a / 256 % 256 ∷ p ∷ q ∷ r ∷ []) ≡ strip (a / 256 % 256 ∷ a / 65_536 % 256 ∷ a / 16_777_216 % 256 ∷ [])
    go p q r e f g = rw (e, f, g)

pub solid-turn : (a : ℕ) → a < 4_294_967_296 → (a ≡ 0 → ⊥) → solid a ≡ (is_alnum (a % 256) && solid (a / 256))
unfolding every
solid-turn a h n =
    ap (every is_alnum) (strip-keeps (a % 256) (a / 256 % 256 ∷ a / 65_536 % 256 ∷ a / 16_777_216 % 256 ∷ []) (λ e. n (word-empty a h e)))
    ∙ ap (λ t. is_alnum (a % 256) && every is_alnum t) (sym (shifted a h))

pub solid-zero : solid 0 ≡ true
unfolding strip every
solid-zero = refl

-- a word below 2^24 has a zero among its bytes
pub full-low : (a : ℕ) → a < 16_777_216 → full a ≡ false
unfolding every class_of
full-low a h = go (a / 16_777_216 % 256) (omega arith)
  where
    go : (r : ℕ) → r ≡ 0 → (is_alnum (a % 256) && (is_alnum (a / 256 % 256) && (is_alnum (a / 65_536 % 256) && (is_alnum r && true)))) ≡ false
    go r e = rw e (simp and-false)

pub full-high : (a : ℕ) → 16_777_216 ≤ a → a < 4_294_967_296 → solid a ≡ full a
unfolding strip
full-high a h k = ap (every is_alnum) (all (a / 16_777_216 % 256) (omega arith))
  where
    ends : (b : ℕ) → (b ≡ 0 → ⊥) → strip (b ∷ []) ≡ b ∷ []
    ends b n = strip-keeps b [] (go (eqb b 0) refl)
      where
        go : (t : Bool) → eqb b 0 ≡ t → cond t [] (b ∷ []) ≡ [] → ⊥
        go true e z = n (eqb-eq b 0 e)
        go false e z = cons≢nil z

    all : (b : ℕ) → (b ≡ 0 → ⊥)
        → strip (a % 256 ∷ a / 256 % 256 ∷ a / 65_536 % 256 ∷ b ∷ []) ≡ a % 256 ∷ a / 256 % 256 ∷ a / 65_536 % 256 ∷ b ∷ []
    all b n =
        let e₃ = ends b n in
        let e₂ = strip-more (a / 65_536 % 256) (b ∷ []) (λ e. cons≢nil (sym e₃ ∙ e)) in
        let e₁ = strip-more (a / 256 % 256) (a / 65_536 % 256 ∷ b ∷ []) (λ e. cons≢nil (sym e₂ ∙ e)) in
        strip-more (a % 256) (a / 256 % 256 ∷ a / 65_536 % 256 ∷ b ∷ []) (λ e. cons≢nil (sym e₁ ∙ e))
        ∙ ap (λ t. a % 256 ∷ t) (e₁ ∙ ap (λ t. a / 256 % 256 ∷ t) (e₂ ∙ ap (λ t. a / 65_536 % 256 ∷ t) e₃))

four-and : (p q r s t : Bool) → (p && (q && (r && (s && t)))) ≡ ((p && (q && (r && (s && true)))) && t)
four-and false q r s t = refl
four-and true false r s t = refl
four-and true true false s t = refl
four-and true true true false t = refl
four-and true true true true t = refl

-- before more letters a word must be full
solid-more : (a : ℕ) (l : List ℕ) → (strip l ≡ [] → ⊥) → every is_alnum (strip (four_bytes a l)) ≡ (full a && every is_alnum (strip l))
unfolding every
solid-more a l h =
    ap (every is_alnum) (word_more a l h)
    ∙ four-and (is_alnum (a % 256)) (is_alnum (a / 256 % 256)) (is_alnum (a / 65_536 % 256)) (is_alnum (a / 16_777_216 % 256)) (every is_alnum (strip l))

more-letters : (a : ℕ) (l : List ℕ) → (strip l ≡ [] → ⊥) → strip (four_bytes a l) ≡ [] → ⊥
more-letters a l h e = cons≢nil (sym (word_more a l h) ∙ e)

-- by the last word that is not zero
pub solid-4 : (a b c d : ℕ) → d < 4_294_967_296 → (d ≡ 0 → ⊥) → every is_alnum (letters a b c d) ≡ (full a && (full b && (full c && solid d)))
unfolding letters
solid-4 a b c d h n =
    let z : strip (four_bytes d []) ≡ [] → ⊥ = λ e. n (word-empty d h e) in
    let y = more-letters c (four_bytes d []) z in
    let x = more-letters b (four_bytes c (four_bytes d [])) y in
    solid-more a (four_bytes b (four_bytes c (four_bytes d []))) x
    ∙ ap (λ t. full a && t) (solid-more b (four_bytes c (four_bytes d [])) y ∙ ap (λ t. full b && t) (solid-more c (four_bytes d []) z))

pub solid-3 : (a b c : ℕ) → c < 4_294_967_296 → (c ≡ 0 → ⊥) → every is_alnum (letters a b c 0) ≡ (full a && (full b && solid c))
unfolding letters strip
solid-3 a b c h n =
    let z : strip (four_bytes c []) ≡ [] → ⊥ = λ e. n (word-empty c h e) in
    let y = more-letters b (four_bytes c []) z in
    solid-more a (four_bytes b (four_bytes c [])) y ∙ ap (λ t. full a && t) (solid-more b (four_bytes c []) z)

pub solid-2 : (a b : ℕ) → b < 4_294_967_296 → (b ≡ 0 → ⊥) → every is_alnum (letters a b 0 0) ≡ (full a && solid b)
unfolding letters strip
solid-2 a b h n = solid-more a (four_bytes b []) (λ e. n (word-empty b h e))

pub solid-1 : (a : ℕ) → every is_alnum (letters a 0 0 0) ≡ solid a
unfolding letters strip
solid-1 a = refl

-- ── the first letter ──
pub first-is : (p : Class → Bool) → p other ≡ false → (a b c d : ℕ) → first_is p (letters a b c d) ≡ p (class_of (a % 256))
unfolding letters strip class_of
first-is p n a b c d = go (a % 256) (strip (a / 256 % 256 ∷ a / 65_536 % 256 ∷ a / 16_777_216 % 256 ∷ four_bytes b (four_bytes c (four_bytes d []))))
  where
    zeros : (x : ℕ) (t : Bool) → eqb x 0 ≡ t → first_is p (cond t [] (x ∷ [])) ≡ p (class_of x)
    zeros x true e = rw (eqb-eq x 0 e) (sym n)
    zeros x false e = refl

    go : (x : ℕ) (r : List ℕ) → first_is p (cond (is_zero r x) [] (x ∷ r)) ≡ p (class_of x)
    go x [] = zeros x (eqb x 0) refl
    go x (y ∷ r) = refl

-- ── reserved words: each is one word ──
abbrev pub short : ℕ → Key
short n = record { a = n; b = 0; c = 0; d = 0 }

some-none : (u : Name) (x₁ x₂ x₃ x₄ x₅ x₆ : Name) → same_name u x₁ ≡ false → same_name u x₂ ≡ false → same_name u x₃ ≡ false → same_name u x₄ ≡ false
    → same_name u x₅ ≡ false
    → same_name u x₆ ≡ false
    → some (same_name u) (x₁ ∷ x₂ ∷ x₃ ∷ x₄ ∷ x₅ ∷ x₆ ∷ []) ≡ false
unfolding some
some-none u x₁ x₂ x₃ x₄ x₅ x₆ e₁ e₂ e₃ e₄ e₅ e₆ = rw (e₁, e₂, e₃, e₄, e₅, e₆)

pub record Unlike (k : Key) : Type 0 where
  pub no_stop : k ≡ short 1_886_352_499 → ⊥
  pub no-go : k ≡ short 28_519 → ⊥
  pub no-in : k ≡ short 28_265 → ⊥
  pub no-out : k ≡ short 7_632_239 → ⊥
  pub no-inf : k ≡ short 6_712_937 → ⊥
  pub no-S : k ≡ short 83 → ⊥

pub not-reserved : (k : Key) → Words k → Unlike k → member (key_name k) reserved ≡ false
unfolding member some letters strip
not-reserved k h u =
    some-none (key_name k) _ _ _ _ _ _
    (other 1_886_352_499 (omega arith) u.no_stop)
    (other 28_519 (omega arith) u.no-go)
    (other 28_265 (omega arith) u.no-in)
    (other 7_632_239 (omega arith) u.no-out)
    (other 6_712_937 (omega arith) u.no-inf)
    (other 83 (omega arith) u.no-S)
  where
    other : (n : ℕ) → n < 4_294_967_296 → (k ≡ short n → ⊥) → same_name (key_name k) (key_name (short n)) ≡ false
    other n b = keys-differ k (short n) h (record { wa = b; wb = omega arith; wc = omega arith; wd = omega arith })

abbrev test : ℕ → Bool
test n = member (key_name (short n)) reserved

-- each of them, computed
test-S : test 83 ≡ true
unfolding member letters strip same_name some
test-S = refl

test_in : test 28_265 ≡ true
unfolding member letters strip same_name some
test_in = refl

test-go : test 28_519 ≡ true
unfolding member letters strip same_name some
test-go = refl

test-inf : test 6_712_937 ≡ true
unfolding member letters strip same_name some
test-inf = refl

test-out : test 7_632_239 ≡ true
unfolding member letters strip same_name some
test-out = refl

test-stop : test 1_886_352_499 ≡ true
unfolding member letters strip same_name some
test-stop = refl

each-reserved : (n : ℕ) → (n ≡ 83) ⊎ ((n ≡ 28_265) ⊎ ((n ≡ 28_519) ⊎ ((n ≡ 6_712_937) ⊎ ((n ≡ 7_632_239) ⊎ (n ≡ 1_886_352_499))))) → test n ≡ true
each-reserved n (inl e) = ap test e ∙ test-S
each-reserved n (inr (inl e)) = ap test e ∙ test_in
each-reserved n (inr (inr (inl e))) = ap test e ∙ test-go
each-reserved n (inr (inr (inr (inl e)))) = ap test e ∙ test-inf
each-reserved n (inr (inr (inr (inr (inl e))))) = ap test e ∙ test-out
each-reserved n (inr (inr (inr (inr (inr e))))) = ap test e ∙ test-stop

pub reserved-word : (k : Key) → k.b ≡ 0 → k.c ≡ 0 → k.d ≡ 0
    → (k.a ≡ 83) ⊎ ((k.a ≡ 28_265) ⊎ ((k.a ≡ 28_519) ⊎ ((k.a ≡ 6_712_937) ⊎ ((k.a ≡ 7_632_239) ⊎ (k.a ≡ 1_886_352_499)))))
    → member (key_name k) reserved ≡ true
reserved-word k p q r s = rw (p, q, r) (each-reserved k.a s)

-- a key with another first word, or with a second one
module _ (k : Key) (wa : k.a < 4_294_967_296) (wb : k.b < 4_294_967_296) (wc : k.c < 4_294_967_296) (wd : k.d < 4_294_967_296) where
  unlike : ((n : ℕ) → k ≡ short n → ⊥) → member (key_name k) reserved ≡ false
  unlike n =
      not-reserved k (record { wa = wa; wb = wb; wc = wc; wd = wd }) (record { no_stop = n _; no-go = n _; no-in = n _; no-out = n _; no-inf = n _; no-S = n _ })

  pub other-second : (k.b ≡ 0 → ⊥) → member (key_name k) reserved ≡ false
  other-second h = unlike (λ n e. h (ap (λ x. x.b) e))

  pub other-third : (k.c ≡ 0 → ⊥) → member (key_name k) reserved ≡ false
  other-third h = unlike (λ n e. h (ap (λ x. x.c) e))

  pub other-fourth : (k.d ≡ 0 → ⊥) → member (key_name k) reserved ≡ false
  other-fourth h = unlike (λ n e. h (ap (λ x. x.d) e))

  pub other_first : ((k.a ≡ 83) ⊎ ((k.a ≡ 28_265) ⊎ ((k.a ≡ 28_519) ⊎ ((k.a ≡ 6_712_937) ⊎ ((k.a ≡ 7_632_239) ⊎ (k.a ≡ 1_886_352_499))))) → ⊥)
      → member (key_name k) reserved ≡ false
  other_first h =
      let f : (m : ℕ) → k ≡ short m → k.a ≡ m = λ m e. ap (λ x. x.a) e in
      not-reserved k (record { wa = wa; wb = wb; wc = wc; wd = wd })
      (record {
        no-S = λ e. h (inl (f _ e));
        no-in = λ e. h (inr (inl (f _ e)));
        no-go = λ e. h (inr (inr (inl (f _ e))));
        no-inf = λ e. h (inr (inr (inr (inl (f _ e)))));
        no-out = λ e. h (inr (inr (inr (inr (inl (f _ e))))));
        no_stop = λ e. h (inr (inr (inr (inr (inr (f _ e))))));
      })

-- ── the whole form ──
pub no-mark : (s : Sort) → first_of s other ≡ false
no-mark Location = refl
no-mark Small = refl
no-mark Identifier = refl

pub name-is : (s : Sort) (k : Key)
    → is_name (first_of s) (key_name k) ≡ (first_of s (class_of (k.a % 256)) && (every is_alnum (key_name k) && not (member (key_name k) reserved)))
unfolding is_name
name-is s k = rw (first-is (first_of s) (no-mark s) k.a k.b k.c k.d, short-enough k)

-- ── a first letter ──
first-class : (s : Sort) (c : Class) → first_of s c ≡ true → alnum c ≡ true
first-class Location capital e = refl
first-class Location small e = absurd (false≢true e)
first-class Location digit e = refl
first-class Location bracket e = absurd (false≢true e)
first-class Location blank e = absurd (false≢true e)
first-class Location other e = absurd (false≢true e)
first-class Small capital e = absurd (false≢true e)
first-class Small small e = refl
first-class Small digit e = refl
first-class Small bracket e = absurd (false≢true e)
first-class Small blank e = absurd (false≢true e)
first-class Small other e = absurd (false≢true e)
first-class Identifier capital e = refl
first-class Identifier small e = refl
first-class Identifier digit e = refl
first-class Identifier bracket e = absurd (false≢true e)
first-class Identifier blank e = absurd (false≢true e)
first-class Identifier other e = absurd (false≢true e)

pub first-alnum : (s : Sort) (b : ℕ) → first_of s (class_of b) ≡ true → is_alnum b ≡ true
first-alnum s b e = first-class s (class_of b) e

-- of a word that starts with a letter or a digit, the rest decides
starts : (a : ℕ) → is_alnum (a % 256) ≡ true → a ≡ 0 → ⊥
unfolding class_of
starts a e z = false≢true (subst (λ n. is_alnum (n % 256) ≡ true) z e)

pub solid-after : (a : ℕ) → a < 4_294_967_296 → is_alnum (a % 256) ≡ true → solid a ≡ solid (a / 256)
solid-after a h e = solid-turn a h (starts a e) ∙ rw e

pub ruleset whole_form = (name-is, first-alnum)

pub ruleset letters_form = (solid-1, solid-2, solid-3, solid-4, solid-after)

pub ruleset word_form = (full-low, full-high)

pub ruleset reserved_form = (reserved-word, other_first, other-second, other-third, other-fourth)
