-- The names in scopes: where each row passes its other tests, the names in the scope of every row have their form and differ if those of the first row of each
-- process do that is in no other. By induction on the place: P, Q and the next part have the scope of their part, or the name that it binds behind it.
use Prim.Native.Nat.{ℕ, zero, suc, ◌≤◌, ◌<◌}
use native.Mathlib.Omega.{arith}
use mathlib.Core.List.{List, [], ◌∷◌, ◌++◌, map}
use mathlib.Core.Bool.{Bool, true, false, cond, ◌&&◌, ◌||◌, not}
use mathlib.Core.Path.{◌≡◌, refl, ap, ◌∙◌}
use lib.Dec.{eqb, leb, ltb}
use lib.ListN.{length, length-map}
use borrow.Author.Tests.{eqb-true, leb-true, ltb-true, ltb-false, not-true}
use Rattle.terms.specs.Names.{Name, same_name}
use Rattle.terms.specs.Letters.{member, is_small, distinct}
use Rattle.terms.specs.Rules.{some}
use Rattle.terms.specs.Same.{every}
use Rattle.terms.proofs.Names.{and-inv, and_in}
use Rattle.table.specs.declared.Head.{Head}
use Rattle.table.specs.declared.Head.TheVariants.{Stop, Go, Out, In, Call}
use Rattle.table.specs.Words.{last_name, parts_in, name_at, field, head_at, next_at, low_at, own_at, bound_at, scope_at, names_at, count_field, kind_field}
use Rattle.table.specs.Valid.{below, index, sort_ok, entered, head_ok, next_ok, scope_ok, stacked, floor, low_ok, tree_ok, part_ok}
use Rattle.table_scopes.specs.Tests.{scope_named}
use Rattle.table_parts.specs.Tests.{slots_ok, row_ok}
use Rattle.table.proofs.Tests.{below_at, every_append, inner}
use Rattle.table.proofs.Places.{go-fine, out-fine, in-fine}
use Rattle.table.proofs.Fires.{map-append}

-- ── a name behind others that is none of them ──
member-last : (y x : Name) (ys : List Name) → member y ys ≡ false → same_name y x ≡ false → member y (ys ++ (x ∷ [])) ≡ false
unfolding member some
member-last y x [] m e = rw e
member-last y x (z ∷ ys) m e = go (same_name y z) m (λ q. member-last y x ys q e)
  where
    go : (b : Bool) → (b || member y ys) ≡ false → (member y ys ≡ false → member y (ys ++ (x ∷ [])) ≡ false) → (b || member y (ys ++ (x ∷ []))) ≡ false
    go true q k = q
    go false q k = k q

not_in : (b : Bool) → b ≡ false → not b ≡ true
not_in b e = rw e

behind-differ : (ys : List Name) (x : Name) → distinct ys ≡ true → length ys ≤ index ys x → distinct (ys ++ (x ∷ [])) ≡ true
unfolding distinct index member some
behind-differ [] x e h = refl
behind-differ (y ∷ ys) x e h = go (same_name y x) refl h (behind-differ ys x)
  where
    go : (b : Bool) → same_name y x ≡ b → suc (length ys) ≤ cond b 0 (suc (index ys x)) → (distinct ys ≡ true → length ys ≤ index ys x → distinct (ys ++ (x ∷ [])) ≡ true)
        → distinct ((y ∷ ys) ++ (x ∷ [])) ≡ true
    go true q h k = absurd (omega arith)
    go false q h k =
        let d = and-inv (not (member y ys)) _ e in
        and_in _ _ (not_in _ (member-last y x ys (not-true _ d.0) q)) (k d.1 (omega arith))

module _ (w : List ℕ) where
  -- ── a row's tests, with the names in its scope and without ──
  pub part-rows : (i : ℕ) → part_ok w i ≡ (row_ok w i && scope_named w i)
  unfolding part_ok scope_ok row_ok slots_ok scope_named
  part-rows i = go (leb (field w i kind_field) 4) (leb (field w i count_field) 8) (every (λ o. ltb o last_name) (scope_at w i)) (sort_ok is_small (names_at w i)) (head_ok w i (head_at w i) && (next_ok w i (next_at w i) && tree_ok w i))
    where
      go : (a b c d e : Bool) → (a && ((b && (c && d)) && e)) ≡ ((a && ((b && c) && e)) && d)
      go false b c d e = refl
      go true false c d e = refl
      go true true false d e = refl
      go true true true false false = refl
      go true true true false true = refl
      go true true true true false = refl
      go true true true true true = refl

  pub below_rows : (n : ℕ) → below n (part_ok w) ≡ (below n (row_ok w) && below n (scope_named w))
  unfolding below
  below_rows zero = refl
  below_rows (suc n) = rw (below_rows n, part-rows n) (go (below n (row_ok w)) (below n (scope_named w)) (row_ok w n) (scope_named w n))
    where
      go : (a b c d : Bool) → ((a && b) && (c && d)) ≡ ((a && c) && (b && d))
      go false b c d = refl
      go true false false d = refl
      go true false true d = refl
      go true true false d = refl
      go true true true d = refl

  pub record RowFine (i : ℕ) : Type 0 where
    pub few : field w i count_field ≤ 8
    pub head : head_ok w i (head_at w i) ≡ true
    pub next : next_ok w i (next_at w i) ≡ true
    pub tree : tree_ok w i ≡ true

  pub row_fine : (i : ℕ) → row_ok w i ≡ true → RowFine i
  unfolding row_ok slots_ok
  row_fine i e =
      let a = and-inv (leb (field w i kind_field) 4) _ e in
      let b = and-inv (leb (field w i count_field) 8 && every (λ o. ltb o last_name) (scope_at w i)) _ a.1 in
      let s = and-inv (leb (field w i count_field) 8) _ b.0 in
      let c = and-inv (head_ok w i (head_at w i)) _ b.1 in
      let d = and-inv (next_ok w i (next_at w i)) _ c.1 in
      record { few = omega (arith, leb-true (field w i count_field) 8 s.0); head = c.0; next = d.0; tree = d.1 }

  -- ── inner processes ──
  abbrev Named : ℕ → Type 0
  Named i = scope_named w i ≡ true

  same-named : (i p : ℕ) → scope_at w p ≡ scope_at w i → Named i → Named p
  unfolding scope_named names_at
  same-named i p e g = rw e g

  names-count : (i : ℕ) → length (names_at w i) ≡ length (scope_at w i)
  unfolding names_at
  names-count i = length-map (scope_at w i) (name_at w)

  new-named : (i p : ℕ) → names_at w p ≡ names_at w i ++ (bound_at w i ∷ []) → length (names_at w i) ≤ index (names_at w i) (bound_at w i) → is_small (bound_at w i) ≡ true → Named i → Named p
  unfolding scope_named sort_ok every
  new-named i p n l f g =
      let r = and-inv (every is_small (names_at w i)) _ g in
      rw n (and_in _ _ (every_append is_small (names_at w i) (bound_at w i ∷ []) r.0 (and_in _ _ f refl)) (behind-differ (names_at w i) (bound_at w i) r.1 l))

  bound-named : (i p k : ℕ) → scope_at w p ≡ entered w i k → index (names_at w i) (bound_at w i) ≡ k → is_small (bound_at w i) ≡ true → Named i → Named p
  unfolding entered
  bound-named i p k e q f g = go (ltb k (length (scope_at w i))) refl e
    where
      go : (b : Bool) → ltb k (length (scope_at w i)) ≡ b → scope_at w p ≡ cond b (scope_at w i) (scope_at w i ++ (own_at i ∷ [])) → Named p
      go true t e = same-named i p e g
      go false t e =
          new-named i p (unfold names_at bound_at in ap (map (name_at w)) e ∙ map-append (name_at w) (scope_at w i) (own_at i ∷ []))
          (omega (arith, q, ltb-false k (length (scope_at w i)) t, names-count i)) f g

  -- ── from one row to all rows of its process ──
  side : {A : Type 0} (j k : ℕ) → (j < k → A) → (k ≤ j → A) → A
  side {A = A} j k x y = go (ltb j k) refl
    where
      go : (b : Bool) → ltb j k ≡ b → A
      go true e = x (ltb-true j k e)
      go false e = y (ltb-false j k e)

  -- what is shown of the rows from the least place of i up to i
  abbrev Covered : ℕ → Type 0
  Covered i = (low_at w i ≤ i) × (Named i → (m : ℕ) → low_at w i ≤ m → m ≤ i → Named m)

  at_row : (i m : ℕ) → i ≤ m → m ≤ i → Named i → Named m
  at_row i m a b g = let e : m ≡ i = omega arith in rw e g

  abbrev Reached : ℕ → ℕ → Type 0
  Reached i f = (f ≤ i) × (Named i → (m : ℕ) → f ≤ m → m ≤ i → Named m)

  -- a part with its P and its Q
  inner-reach : (i p q : ℕ) → suc p ≡ i → suc q ≡ low_at w p → Covered p → Covered q → (Named i → Named p) → (Named i → Named q) → Reached i (low_at w q)
  inner-reach i p q x y c d f g =
      (omega (arith, c.0, d.0), λ h m a b. side m i (λ l. side m (low_at w p) (λ z. d.1 (g h) m a (omega arith)) (λ z. c.1 (f h) m z (omega arith))) (λ l. at_row i m l b h))

  head-reach : (i : ℕ) (h : Head) → head_ok w i h ≡ true → stacked w i h ≡ true → ((j : ℕ) → j < i → Covered j) → Reached i (floor w i h)
  unfolding stacked floor
  head-reach i Stop o t k = (omega arith, λ g m a b. at_row i m a b g)
  head-reach i (Go u v p) o t k =
      let r = go-fine w i u v p o in
      let c = k p r.first.lesser in
      let z = eqb-true (suc p) i t in
      (omega (arith, c.0, z), λ g m a b. side m i (λ l. c.1 (same-named i p r.first.scope g) m a (omega arith)) (λ l. at_row i m l b g))
  head-reach i (Out d u v p q) o t k =
      let r = out-fine w i d u v p q o in
      let a = and-inv (eqb (suc p) i) _ t in
      inner-reach i p q (eqb-true (suc p) i a.0) (eqb-true (suc q) (low_at w p) a.1) (k p r.first.lesser) (k q r.second.lesser) (same-named i p r.first.scope) (same-named i q r.second.scope)
  head-reach i (In d u s p q) o t k =
      let r = in-fine w i d u s p q o in
      let a = and-inv (eqb (suc p) i) _ t in
      inner-reach i p q (eqb-true (suc p) i a.0) (eqb-true (suc q) (low_at w p) a.1) (k p r.first.lesser) (k q r.second.lesser)
      (bound-named i p s r.first.scope (eqb-true _ s r.slot) r.form) (same-named i q r.second.scope)
  head-reach i (Call d n) o t k = (omega arith, λ g m a b. at_row i m a b g)

  next-reach : (i f n : ℕ) → Reached i f → low_ok w (low_at w i) f n ≡ true → next_ok w i n ≡ true → ((j : ℕ) → j < i → Covered j) → Covered i
  unfolding low_ok next_ok
  next-reach i f zero x e o k = let z = eqb-true (low_at w i) f e in (omega (arith, x.0, z), λ g m a b. x.1 g m (omega (arith, z)) b)
  next-reach i f (suc j) x e o k =
      let b = and-inv (eqb (suc j) f) _ e in
      let r = inner w i j _ o in
      let c = k j r.lesser in
      let y = eqb-true (suc j) f b.0 in
      let z = eqb-true (low_at w i) (low_at w j) b.1 in
      (omega (arith, c.0, z, r.lesser), λ g m a l. side m f (λ h. c.1 (same-named i j r.scope g) m (omega (arith, z)) (omega (arith, y))) (λ h. x.1 g m h l))

  module _ (rows : below (parts_in w) (row_ok w) ≡ true) where
    pub fine-at : (i : ℕ) → i < parts_in w → RowFine i
    fine-at i b = row_fine i (below_at (parts_in w) (row_ok w) rows i b)

    covers : (n i : ℕ) → i < n → i < parts_in w → Covered i
    unfolding tree_ok
    covers zero i h b = absurd (omega arith)
    covers (suc n) i h b =
        let r = fine-at i b in
        let t = and-inv (stacked w i (head_at w i)) _ r.tree in
        let k : (j : ℕ) → j < i → Covered j = λ j l. covers n j (omega arith) (omega arith) in
        next-reach i (floor w i (head_at w i)) (next_at w i) (head-reach i (head_at w i) r.head t.0 k) t.1 r.next k

    -- the rows of the process at i have their names in order if its first row has
    pub covered : (i : ℕ) → i < parts_in w → (low_at w i ≤ i) × (scope_named w i ≡ true → (m : ℕ) → low_at w i ≤ m → m ≤ i → scope_named w m ≡ true)
    covered i b = covers (suc i) i (omega arith) b

    -- one process more
    pub named-from : (i : ℕ) → i < parts_in w → scope_named w i ≡ true → ((m : ℕ) → suc i ≤ m → m < parts_in w → scope_named w m ≡ true) → (m : ℕ) → low_at w i ≤ m → m < parts_in w → scope_named w m ≡ true
    named-from i b g h m a l = side m (suc i) (λ z. (covered i b).1 g m a (omega arith)) (λ z. h m z l)

  -- ── rows with no variable in scope ──
  empty-named : (i : ℕ) → field w i count_field ≡ 0 → scope_named w i ≡ true
  unfolding scope_named sort_ok names_at scope_at every distinct
  empty-named i e = rw e refl

  pub named-all : (f i : ℕ) → i ≤ f → ((k : ℕ) → k < f → field w k count_field ≡ 0) → ((m : ℕ) → i ≤ m → m < parts_in w → scope_named w m ≡ true) → (m : ℕ) → m < parts_in w → scope_named w m ≡ true
  named-all f i h e g m b = side m f (λ z. empty-named m (e m z)) (λ z. g m (omega arith) b)
