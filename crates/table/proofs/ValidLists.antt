-- What a loop that goes through a list has shown when it stops early, and when it does not: one pair of laws for each question asked of a list.
-- By induction on the list.
use Prim.Native.Nat.{ℕ, zero, suc, ◌+◌, ◌-◌, ◌≤◌, ◌<◌}
use native.Mathlib.Omega.{arith}
use mathlib.Core.List.{List, [], ◌∷◌}
use mathlib.Core.Bool.{Bool, true, false, cond, ◌&&◌, ◌||◌, not}
use mathlib.Core.Path.{◌≡◌, refl, ap, sym, ◌∙◌}
use lib.Dec.{eqb}
use lib.ListN.{length, get_or, drop, length-drop}
use lib.Seq.{get_or-drop}
use borrow.Author.Tests.{eq-eqb, ne_eqb, eqb-true, eqb-false}
use Rattle.terms.specs.Names.{Name, same_name}
use Rattle.terms.specs.Rules.{some}
use Rattle.terms.specs.Same.{every}
use Rattle.terms.specs.Letters.{member, distinct}
use Rattle.terms.proofs.Names.{name-refl}
use Rattle.table.specs.Meaning.{list_from}
use Rattle.table.specs.Valid.{below, alike, index}
use Rattle.table.proofs.ValidBool.{and-false}

-- ── every ──
module _ {A : Type 0} (f : A → Bool) (d : A) where
  pub every-all : (xs : List A) → ((k : ℕ) → k < length xs → f (get_or xs k d) ≡ true) → every f xs ≡ true
  unfolding every
  every-all [] h = refl
  every-all (x ∷ xs) h = rw (h 0 (omega arith), every-all xs (λ k b. h (suc k) (omega arith)))

  pub every-miss : (xs : List A) (k : ℕ) → k < length xs → f (get_or xs k d) ≡ false → every f xs ≡ false
  unfolding every
  every-miss [] k b e = absurd (omega arith)
  every-miss (x ∷ xs) zero b e = rw e
  every-miss (x ∷ xs) (suc k) b e = rw (every-miss xs k (omega arith) e) (and-false (f x))

-- ── of each number below n ──
module _ (f : ℕ → Bool) where
  pub below_all : (n : ℕ) → ((k : ℕ) → k < n → f k ≡ true) → below n f ≡ true
  unfolding below
  below_all zero h = refl
  below_all (suc n) h = rw (below_all n (λ k b. h k (omega arith)), h n (omega arith))

  pub below-miss : (n k : ℕ) → k < n → f k ≡ false → below n f ≡ false
  unfolding below
  below-miss zero k b e = absurd (omega arith)
  below-miss (suc n) k b e = go (eqb k n) refl (λ c. below-miss n k c e)
    where
      go : (t : Bool) → eqb k n ≡ t → (k < n → below n f ≡ false) → (below n f && f n) ≡ false
      go true z h = rw (sym (ap f (eqb-true k n z)) ∙ e) (and-false (below n f))
      go false z h = let m = eqb-false k n z in rw (h (omega arith))

-- ── alike ──
pub alike_all : (xs ys : List ℕ) → length xs ≡ length ys → ((k : ℕ) → k < length xs → get_or xs k 0 ≡ get_or ys k 0) → alike xs ys ≡ true
unfolding alike
alike_all [] [] e h = refl
alike_all [] (y ∷ ys) e h = absurd (omega arith)
alike_all (x ∷ xs) [] e h = absurd (omega arith)
alike_all (x ∷ xs) (y ∷ ys) e h = rw (eq-eqb x y (h 0 (omega arith)), alike_all xs ys (omega arith) (λ k b. h (suc k) (omega arith)))

pub alike-miss : (xs ys : List ℕ) (k : ℕ) → k < length xs → k < length ys → (get_or xs k 0 ≡ get_or ys k 0 → ⊥) → alike xs ys ≡ false
unfolding alike
alike-miss [] ys k b c n = absurd (omega arith)
alike-miss (x ∷ xs) [] k b c n = absurd (omega arith)
alike-miss (x ∷ xs) (y ∷ ys) zero b c n = rw (ne_eqb x y n)
alike-miss (x ∷ xs) (y ∷ ys) (suc k) b c n = rw (alike-miss xs ys k (omega arith) (omega arith) n) (and-false (eqb x y))

pub alike-uneven : (xs ys : List ℕ) → (length xs ≡ length ys → ⊥) → alike xs ys ≡ false
unfolding alike
alike-uneven [] [] n = absurd (n refl)
alike-uneven [] (y ∷ ys) n = refl
alike-uneven (x ∷ xs) [] n = refl
alike-uneven (x ∷ xs) (y ∷ ys) n = rw (alike-uneven xs ys (λ e. n (ap suc e))) (and-false (eqb x y))

-- ── the first index of a name ──
pub index-hit : (ys : List Name) (x : Name) (i : ℕ) → i < length ys → ((k : ℕ) → k < i → same_name (get_or ys k []) x ≡ false)
    → same_name (get_or ys i []) x ≡ true
    → index ys x ≡ i
unfolding index
index-hit [] x i b h e = absurd (omega arith)
index-hit (y ∷ ys) x zero b h e = rw e
index-hit (y ∷ ys) x (suc i) b h e = rw (h 0 (omega arith), index-hit ys x i (omega arith) (λ k c. h (suc k) (omega arith)) e)

pub index-none : (ys : List Name) (x : Name) → ((k : ℕ) → k < length ys → same_name (get_or ys k []) x ≡ false) → index ys x ≡ length ys
unfolding index
index-none [] x h = refl
index-none (y ∷ ys) x h = rw (h 0 (omega arith), index-none ys x (λ k c. h (suc k) (omega arith)))

-- ── members ──
pub member-hit : (x : Name) (xs : List Name) (k : ℕ) → k < length xs → same_name x (get_or xs k []) ≡ true → member x xs ≡ true
unfolding member some
member-hit x [] k b e = absurd (omega arith)
member-hit x (y ∷ xs) zero b e = rw e
member-hit x (y ∷ xs) (suc k) b e = rw (member-hit x xs k (omega arith) e) (go (same_name x y))
  where
    go : (t : Bool) → (t || true) ≡ true
    go true = refl
    go false = refl

pub member-none : (x : Name) (xs : List Name) → ((k : ℕ) → k < length xs → same_name x (get_or xs k []) ≡ false) → member x xs ≡ false
unfolding member some
member-none x [] h = refl
member-none x (y ∷ xs) h = rw (h 0 (omega arith), member-none x xs (λ k b. h (suc k) (omega arith)))

-- ── each once ──
pub distinct-all : (xs : List Name) → ((k : ℕ) → k < length xs → member (get_or xs k []) (drop (suc k) xs) ≡ false) → distinct xs ≡ true
unfolding distinct
distinct-all [] h = refl
distinct-all (x ∷ xs) h = rw (h 0 (omega arith), distinct-all xs (λ k b. h (suc k) (omega arith)))

pub distinct-miss : (xs : List Name) (k : ℕ) → k < length xs → member (get_or xs k []) (drop (suc k) xs) ≡ true → distinct xs ≡ false
unfolding distinct
distinct-miss [] k b e = absurd (omega arith)
distinct-miss (x ∷ xs) zero b e = rw e
distinct-miss (x ∷ xs) (suc k) b e = rw (distinct-miss xs k (omega arith) e) (and-false (not (member x xs)))

-- ── f of each number from k on ──
pub list_from-length : {A : Type 0} (k n : ℕ) (f : ℕ → A) → length (list_from k n f) ≡ n
unfolding list_from
list_from-length k zero f = refl
list_from-length k (suc n) f = ap suc (list_from-length (suc k) n f)

pub list_from-at : {A : Type 0} (k n : ℕ) (f : ℕ → A) (j : ℕ) (d : A) → j < n → get_or (list_from k n f) j d ≡ f (k + j)
unfolding list_from
list_from-at k zero f j d b = absurd (omega arith)
list_from-at k (suc n) f zero d b = ap f (omega arith)
list_from-at k (suc n) f (suc j) d b = list_from-at (suc k) n f j d (omega arith) ∙ ap f (omega arith)

-- ── each name is the first of its name exactly if all differ ──
pub index_below : (ys : List Name) (x : Name) (k : ℕ) → k < length ys → same_name (get_or ys k []) x ≡ true → index ys x ≤ k
unfolding index
index_below [] x k b e = absurd (omega arith)
index_below (y ∷ ys) x zero b e = rw e (omega arith)
index_below (y ∷ ys) x (suc k) b e = go (same_name y x) (index_below ys x k (omega arith) e)
  where
    go : (t : Bool) → index ys x ≤ k → cond t 0 (suc (index ys x)) ≤ suc k
    go true h = omega arith
    go false h = omega arith

pub index_same : (ys : List Name) (x : Name) → index ys x < length ys → same_name (get_or ys (index ys x) []) x ≡ true
unfolding index
index_same [] x b = absurd (omega arith)
index_same (y ∷ ys) x b = go (same_name y x) refl b (index_same ys x)
  where
    go : (t : Bool) → same_name y x ≡ t → cond t 0 (suc (index ys x)) < suc (length ys) → (index ys x < length ys → same_name (get_or ys (index ys x) []) x ≡ true)
        → same_name (get_or (y ∷ ys) (cond t 0 (suc (index ys x))) []) x ≡ true
    go true e h k = e
    go false e h k = k (omega arith)

dropped-at : (ys : List Name) (i j : ℕ) → get_or (drop (suc i) ys) j [] ≡ get_or ys (suc i + j) []
dropped-at ys i j = get_or-drop (suc i) ys j []

pub firsts-differ : (ys : List Name) → ((k : ℕ) → k < length ys → index ys (get_or ys k []) ≡ k) → distinct ys ≡ true
firsts-differ ys h =
    distinct-all ys
    (λ k b. member-none (get_or ys k []) (drop (suc k) ys)
    (λ j c. let l : suc k + j < length ys = omega (arith, length-drop (suc k) ys) in other k (suc k + j) b l (omega arith) (dropped-at ys k j)))
  where
    other : (k m : ℕ) → k < length ys → m < length ys → k < m → {z : Name} → z ≡ get_or ys m [] → same_name (get_or ys k []) z ≡ false
    other k m b l d {z} e = go (same_name (get_or ys k []) z) refl
      where
        go : (t : Bool) → same_name (get_or ys k []) z ≡ t → t ≡ false
        go false q = refl
        go true q = absurd (omega (arith, h m l, index_below ys (get_or ys m []) k b (ap (same_name (get_or ys k [])) (sym e) ∙ q)))

pub again-alike : (ys : List Name) (k : ℕ) → k < length ys → (index ys (get_or ys k []) ≡ k → ⊥) → distinct ys ≡ false
again-alike ys k b n =
    let x = get_or ys k [] in
    let i = index ys x in
    let l : i ≤ k = index_below ys x k b (name-refl x) in
    let m : i < k = strict l n in
    let e : same_name (get_or ys i []) x ≡ true = index_same ys x (omega arith) in
    let z : suc i + (k - suc i) ≡ k = omega arith in
    distinct-miss ys i (omega arith)
    (member-hit (get_or ys i []) (drop (suc i) ys) (k - suc i) (omega (arith, length-drop (suc i) ys))
    (ap (same_name (get_or ys i [])) (dropped-at ys i (k - suc i) ∙ ap (λ m. get_or ys m []) z) ∙ e))
  where
    strict : {i k : ℕ} → i ≤ k → (i ≡ k → ⊥) → i < k
    strict l n = omega arith
