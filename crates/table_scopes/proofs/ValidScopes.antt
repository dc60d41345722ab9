-- Scopes as the words of a part have them: how long, what stands at a slot, when an inner process has the scope that it needs, and what comes after a part.
-- By the eight words that hold a scope, of which the first n are in use.
use Prim.Native.Nat.{ℕ, zero, suc, ◌+◌, ◌≤◌, ◌<◌, ◌-◌}
use native.Mathlib.Omega.{arith}
use mathlib.Core.List.{List, [], ◌∷◌, ◌++◌}
use mathlib.Core.Bool.{Bool, true, false, ◌&&◌}
use mathlib.Core.Path.{◌≡◌, refl, ap, ◌∙◌, sym}
use lib.Dec.{eqb, ltb}
use lib.ListN.{length, get_or, take, length-append, length-map}
use lib.Seq.{take-suc}
use borrow.Author.Tests.{ltb-true, ltb-false, le-leb, lt-ltb, le-ltb, eqb-true, eqb-false}
use Rattle.terms.specs.Same.{every}
use Rattle.terms.proofs.Names.{and-inv, and_in}
use Rattle.table.specs.Words.{field, next_at, low_at, scope_at, count_field, locs_in, name_at, at_most8, own_at, names_at, slot_field}
use Rattle.table.specs.Valid.{alike, inner_ok, next_ok, low_ok, index, sort_ok, slot_ok, ref_ok, entered}
use Rattle.table_scopes.specs.Tests.{end_ok, Scoped, slot_named, scope_named}
use Rattle.table.proofs.ValidBool.{and-false, and-true}
use Rattle.table.proofs.ValidLists.{every-all, every-miss, alike_all, alike-miss, alike-uneven, index-hit, index-none, firsts-differ, again-alike}
use native.Mathlib.Numerals.{add-one}
use Rattle.terms.specs.Names.{Name, same_name}
use Rattle.terms.specs.Letters.{is_small, distinct}
use Rattle.table.specs.Tests.{slots}
use Rattle.table.proofs.Rows.{slots_at, slots_length, front_length, front_at, at_most, any-scope, any-length, map_at}

-- ── the eight words ──
pub slots-alike : (w : List ℕ) (p i n : ℕ) → n ≤ 8 → ((k : ℕ) → k < n → field w p (slot_field + k) ≡ field w i (slot_field + k))
    → alike (take n (slots w p)) (take n (slots w i)) ≡ true
slots-alike w p i n h e =
    alike_all (take n (slots w p)) (take n (slots w i)) (front_length w p n h ∙ sym (front_length w i n h))
    (λ k b. let c : k < n = omega (arith, front_length w p n h) in front_at w p n k h c ∙ e k c ∙ sym (front_at w i n k h c))

pub slots-differ : (w : List ℕ) (p i n k : ℕ) → n ≤ 8 → k < n → (field w p (slot_field + k) ≡ field w i (slot_field + k) → ⊥)
    → alike (take n (slots w p)) (take n (slots w i)) ≡ false
slots-differ w p i n k h b z =
    alike-miss (take n (slots w p)) (take n (slots w i)) k (omega (arith, front_length w p n h)) (omega (arith, front_length w i n h))
    (λ e. z (sym (front_at w p n k h b) ∙ e ∙ front_at w i n k h b))

-- ── a scope ──
module _ (w : List ℕ) (i n : ℕ) (s : Scoped w i n) where
  pub count-is : at_most8 (field w i count_field) ≡ n
  count-is = rw (sym s.count, le-leb n 8 s.small)

  pub scope-is : scope_at w i ≡ take n (slots w i)
  scope-is = any-scope w i ∙ ap (λ m. take m (slots w i)) count-is

  pub scope-length : length (scope_at w i) ≡ n
  scope-length = any-length w i ∙ count-is

  pub scope-at : (k : ℕ) → k < n → get_or (scope_at w i) k 0 ≡ field w i (slot_field + k)
  scope-at k b = ap (λ t. get_or t k 0) scope-is ∙ front_at w i n k s.small b

  pub scope-every : (f : ℕ → Bool) → ((k : ℕ) → k < n → f (field w i (slot_field + k)) ≡ true) → every f (scope_at w i) ≡ true
  scope-every f h = every-all f 0 (scope_at w i) (λ k b. let c : k < n = omega (arith, scope-length) in ap f (scope-at k c) ∙ h k c)

  pub scope-miss : (f : ℕ → Bool) (k : ℕ) → k < n → f (field w i (slot_field + k)) ≡ false → every f (scope_at w i) ≡ false
  scope-miss f k b e = every-miss f 0 (scope_at w i) k (omega (arith, scope-length)) (ap f (scope-at k b) ∙ e)

  pub names-length : length (names_at w i) ≡ n
  unfolding names_at
  names-length = length-map (scope_at w i) (name_at w) ∙ scope-length

  pub names-at : (k : ℕ) → k < n → get_or (names_at w i) k [] ≡ name_at w (field w i (slot_field + k))
  unfolding names_at
  names-at k b = map_at (name_at w) (scope_at w i) k (omega (arith, scope-length)) ∙ ap (name_at w) (scope-at k b)

  -- ── the first slot of a name ──
  pub slot-hit : (x : Name) (k : ℕ) → k < n → ((j : ℕ) → j < k → same_name (name_at w (field w i (slot_field + j))) x ≡ false)
      → same_name (name_at w (field w i (slot_field + k))) x ≡ true
      → index (names_at w i) x ≡ k
  slot-hit x k b h e =
      index-hit (names_at w i) x k (omega (arith, names-length)) (λ j c. ap (λ y. same_name y x) (names-at j (omega arith)) ∙ h j c)
      (ap (λ y. same_name y x) (names-at k b) ∙ e)

  pub slot-none : (x : Name) → ((j : ℕ) → j < n → same_name (name_at w (field w i (slot_field + j))) x ≡ false) → index (names_at w i) x ≡ n
  slot-none x h =
      index-none (names_at w i) x (λ j c. let b : j < n = omega (arith, names-length) in ap (λ y. same_name y x) (names-at j b) ∙ h j b)
      ∙ names-length

  -- ── forms, and names that differ ──
  pub slots-named : ((k : ℕ) → k < n → slot_named w i k ≡ true) → scope_named w i ≡ true
  unfolding scope_named sort_ok slot_named
  slots-named g =
      and_in _ _ (every-all is_small [] (names_at w i) (λ k b. let c : k < n = omega (arith, names-length) in ap is_small (names-at k c) ∙ (and-inv (is_small (name_at w (field w i (slot_field + k)))) _ (g k c)).0))
      (firsts-differ (names_at w i) (λ k b. let c : k < n = omega (arith, names-length) in ap (index (names_at w i)) (names-at k c) ∙ eqb-true _ k (and-inv (is_small (name_at w (field w i (slot_field + k)))) _ (g k c)).1))

  pub slots-unnamed : (k : ℕ) → k < n → slot_named w i k ≡ false → scope_named w i ≡ false
  unfolding scope_named sort_ok slot_named
  slots-unnamed k b e = go (is_small (name_at w (field w i (slot_field + k)))) refl e
    where
      at : get_or (names_at w i) k [] ≡ name_at w (field w i (slot_field + k))
      at = names-at k b

      go : (t : Bool) → is_small (name_at w (field w i (slot_field + k))) ≡ t → (t && eqb (index (names_at w i) (name_at w (field w i (slot_field + k)))) k) ≡ false
          → (every is_small (names_at w i) && distinct (names_at w i)) ≡ false
      go false q z = rw (every-miss is_small [] (names_at w i) k (omega (arith, names-length)) (ap is_small at ∙ q))
      go true q z = simp (again-alike (names_at w i) k (omega (arith, names-length)) (λ d. eqb-false _ k z (ap (index (names_at w i)) (sym at) ∙ d)), and-false)

  pub slot-out : (k : ℕ) → n ≤ k → slot_ok (names_at w i) k ≡ false
  unfolding slot_ok
  slot-out k h = rw (le-ltb k (length (names_at w i)) (omega (arith, names-length)))

  pub slot-in : (k : ℕ) → k < n → slot_ok (names_at w i) k ≡ eqb (index (names_at w i) (name_at w (field w i (slot_field + k)))) k
  unfolding slot_ok
  slot-in k h = rw (lt-ltb k (length (names_at w i)) (omega (arith, names-length)), names-at k h)

  -- ── inner processes ──
  pub inner-is : (p : ℕ) → p < i → at_most8 (field w p count_field) ≡ n → inner_ok w i p (scope_at w i) ≡ alike (take n (slots w p)) (take n (slots w i))
  unfolding inner_ok
  inner-is p b e = rw (lt-ltb p i b, any-scope w p, e, scope-is)

  pub inner-uneven : (p : ℕ) → (at_most8 (field w p count_field) ≡ n → ⊥) → inner_ok w i p (scope_at w i) ≡ false
  unfolding inner_ok
  inner-uneven p z = rw (alike-uneven (scope_at w p) (scope_at w i) (λ e. z (sym (any-length w p) ∙ e ∙ scope-length))) (and-false (ltb p i))

  -- ── the scope of an input's P ──
  pub entered-found : (k : ℕ) → k < n → entered w i k ≡ scope_at w i
  unfolding entered
  entered-found k h = rw (lt-ltb k (length (scope_at w i)) (omega (arith, scope-length)))

  entered-new : (k : ℕ) → n ≤ k → entered w i k ≡ take n (slots w i) ++ (own_at i ∷ [])
  unfolding entered
  entered-new k h = rw (le-ltb k (length (scope_at w i)) (omega (arith, scope-length))) (ap (λ t. t ++ (own_at i ∷ [])) scope-is)

  pub bound-uneven : (p k : ℕ) → n ≤ k → (at_most8 (field w p count_field) ≡ n + 1 → ⊥) → inner_ok w i p (entered w i k) ≡ false
  unfolding inner_ok
  bound-uneven p k h z =
      rw (alike-uneven (scope_at w p) (entered w i k) (λ e. z (sym (any-length w p) ∙ e ∙ ap length (entered-new k h) ∙ length-append (take n (slots w i)) (own_at i ∷ []) ∙ ap (λ m. m + 1) (front_length w i n s.small))))
      (and-false (ltb p i))

  alike-last : (xs ys : List ℕ) (a b : ℕ) → length xs ≡ length ys → alike (xs ++ (a ∷ [])) (ys ++ (b ∷ [])) ≡ (alike xs ys && eqb a b)
  unfolding alike
  alike-last [] [] a b e = and-true (eqb a b)
  alike-last [] (y ∷ ys) a b e = absurd (omega arith)
  alike-last (x ∷ xs) [] a b e = absurd (omega arith)
  alike-last (x ∷ xs) (y ∷ ys) a b e = rw (alike-last xs ys a b (omega arith)) (go (eqb x y))
    where
      go : (t : Bool) → (t && (alike xs ys && eqb a b)) ≡ ((t && alike xs ys) && eqb a b)
      go true = refl
      go false = refl

  pub bound-is : (p k : ℕ) → n ≤ k → p < i → at_most8 (field w p count_field) ≡ n + 1
      → inner_ok w i p (entered w i k) ≡ (alike (take n (slots w p)) (take n (slots w i)) && eqb (field w p (slot_field + n)) (own_at i))
  unfolding inner_ok
  bound-is p k h b e =
      rw (lt-ltb p i b)
      (ap (λ t. alike t (entered w i k)) (any-scope w p ∙ ap (λ m. take m (slots w p)) (e ∙ add-one n) ∙ longer)
      ∙ ap (alike (take n (slots w p) ++ (field w p (slot_field + n) ∷ []))) (entered-new k h)
      ∙ alike-last (take n (slots w p)) (take n (slots w i)) (field w p (slot_field + n)) (own_at i) (front_length w p n s.small ∙ sym (front_length w i n s.small)))
    where
      room : n < 8
      room = omega (arith, at_most (field w p count_field))

      longer : take (suc n) (slots w p) ≡ take n (slots w p) ++ (field w p (slot_field + n) ∷ [])
      longer =
          take-suc (slots w p) n 0 (omega (arith, slots_length w p, room)) ∙ ap (λ t. take n (slots w p) ++ (t ∷ [])) (slots_at w p n room)

pub inner-high : (w : List ℕ) (i p : ℕ) (os : List ℕ) → i ≤ p → inner_ok w i p os ≡ false
unfolding inner_ok
inner-high w i p os h = rw (le-ltb p i h)

-- the whole test in one
module _ (w : List ℕ) (i n : ℕ) (s : Scoped w i n) where
  pub bound-all : (p k : ℕ) → n ≤ k
      → inner_ok w i p (entered w i k) ≡ (((ltb p i && eqb (at_most8 (field w p count_field)) (n + 1)) && eqb (field w p (slot_field + n)) (own_at i)) && alike (take n (slots w p)) (take n (slots w i)))
  bound-all p k h = go (ltb p i) (eqb (at_most8 (field w p count_field)) (n + 1)) refl refl
    where
      turn : (a b : Bool) → (a && b) ≡ (b && a)
      turn true true = refl
      turn true false = refl
      turn false true = refl
      turn false false = refl

      go : (x y : Bool) → ltb p i ≡ x → eqb (at_most8 (field w p count_field)) (n + 1) ≡ y
          → inner_ok w i p (entered w i k) ≡ (((x && y) && eqb (field w p (slot_field + n)) (own_at i)) && alike (take n (slots w p)) (take n (slots w i)))
      go false y e f = inner-high w i p (entered w i k) (ltb-false p i e)
      go true false e f = bound-uneven w i n s p k h (eqb-false _ _ f)
      go true true e f = bound-is w i n s p k h (ltb-true p i e) (eqb-true _ _ f) ∙ turn (alike (take n (slots w p)) (take n (slots w i))) (eqb (field w p (slot_field + n)) (own_at i))

-- ── a value's word ──
pub ref-location : (w : List ℕ) (ys : List Name) (v : ℕ) → v < 64 → ref_ok w ys v ≡ ltb v (locs_in w)
unfolding ref_ok
ref-location w ys v h = rw (lt-ltb v 64 h)

pub ref-variable : (w : List ℕ) (ys : List Name) (v : ℕ) → 64 ≤ v → ref_ok w ys v ≡ slot_ok ys (v - 64)
unfolding ref_ok
ref-variable w ys v h = rw (le-ltb v 64 h)

-- ── what comes after a part ──
module _ (w : List ℕ) (i f : ℕ) where
  pub end-last : next_at w i ≡ 0 → end_ok w i f ≡ eqb (low_at w i) f
  unfolding end_ok next_ok low_ok
  end-last e = rw e

  pub end-next : (j : ℕ) → next_at w i ≡ suc j → end_ok w i f ≡ (inner_ok w i j (scope_at w i) && (eqb (suc j) f && eqb (low_at w i) (low_at w j)))
  unfolding end_ok next_ok low_ok
  end-next j e = rw e

  pub end-more : (next_at w i ≡ 0 → ⊥)
      → end_ok w i f ≡ ((eqb (next_at w i) f && inner_ok w i (next_at w i - 1) (scope_at w i)) && eqb (low_at w i) (low_at w (next_at w i - 1)))
  end-more h = go (next_at w i) refl h
    where
      swap : (a b c : Bool) → (a && (b && c)) ≡ ((b && a) && c)
      swap true true c = refl
      swap true false c = refl
      swap false true c = refl
      swap false false c = refl

      go : (x : ℕ) → next_at w i ≡ x → (x ≡ 0 → ⊥) → end_ok w i f ≡ ((eqb x f && inner_ok w i (x - 1) (scope_at w i)) && eqb (low_at w i) (low_at w (x - 1)))
      go zero e z = absurd (z refl)
      go (suc j) e z =
          let d : suc j - 1 ≡ j = omega arith in
          rw d (end-next j e ∙ swap (inner_ok w i j (scope_at w i)) (eqb (suc j) f) (eqb (low_at w i) (low_at w j)))

pub inner_below : (w : List ℕ) (i p : ℕ) (os : List ℕ) → inner_ok w i p os ≡ true → p < i
unfolding inner_ok
inner_below w i p os e = ltb-true p i (and-inv (ltb p i) (alike (scope_at w p) os) e).0

-- ── for the check to find ──
pub ruleset value_laws = (ref-location, ref-variable)

pub ruleset inner_laws = (inner-high, inner-uneven, inner-is)

pub entered-law : (w : List ℕ) (i k : ℕ) → i < 4_096 → field w i count_field ≤ 8 → k < field w i count_field → entered w i k ≡ scope_at w i
entered-law w i k h c b = entered-found w i (field w i count_field) (record { place = h; count = refl; small = c }) k b

pub bound-law : (w : List ℕ) (i p k : ℕ) → i < 4_096 → field w i count_field ≤ 8 → field w i count_field ≤ k
    → inner_ok w i p (entered w i k) ≡ (((ltb p i && eqb (at_most8 (field w p count_field)) (field w i count_field + 1)) && eqb (field w p (slot_field + field w i count_field)) (own_at i)) && alike (take (field w i count_field) (slots w p)) (take (field w i count_field) (slots w i)))
bound-law w i p k h c b = bound-all w i (field w i count_field) (record { place = h; count = refl; small = c }) p k b

pub ruleset bound_laws = (entered-law, bound-law)

pub ruleset end_laws = (end-last, end-more, inner_below)
