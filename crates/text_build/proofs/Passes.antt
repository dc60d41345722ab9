-- Rows that the second pass writes pass the local tests of question 17, each at its place.
-- By induction on the process: what a row says of the rows below it (their scope, their least place) is what these hold.
use Prim.Native.Nat.{ℕ, suc, ◌+◌, ◌-◌, ◌*◌, ◌≤◌, ◌<◌, min}
use native.Mathlib.Omega.{arith}
use mathlib.Core.List.{List, [], ◌∷◌, ◌++◌}
use mathlib.Core.Bool.{Bool, true, false, cond}
use mathlib.Core.Path.{◌≡◌, refl, sym}
use lib.Dec.{eqb, ltb}
use lib.ListN.{length}
use borrow.Author.Tests.{leb-true, ltb-true, ltb-false, lt-ltb, eq-eqb}
use Rattle.terms.specs.Names.{Name}
use Rattle.terms.specs.Letters.{is_small, distinct}
use Rattle.terms.specs.Terms.{Timer, Part, Process}
use Rattle.terms.specs.Terms.Part.{stop, go, out, inp, call}
use Rattle.terms.specs.Terms.Process.{one, ◌∥◌}
use Rattle.terms.specs.Same.{every}
use Rattle.terms.proofs.Names.{and-inv, and_in}
use Rattle.text.specs.Questions.{process_places}
use Rattle.table.specs.declared.Head.{Head}
use Rattle.table.specs.Words.{row_size, last_name, owns_at, locs_in, defs_in, arity_of, low_at, own_at, bound_at, scope_at, names_at, arg_words}
use Rattle.table.specs.Valid.{alike, index, sort_ok, inner_ok, entered, head_ok, next_ok, scope_ok, stacked, floor, low_ok, tree_ok, part_ok}
use Rattle.table.proofs.Tests.{every_append}
use Rattle.table.specs.Size.{size, size_p}
use Rattle.text_build.specs.Rows.{Row, Below, Stands, ids_of, scope_names, head_of, first_place, second_place, entering, timed, chan_known, call_known, part_known, place_known, of_call, args_of}
use Rattle.text_build.proofs.Numbers.{timer-ok, value-ok, args_ok, args_in, names-entered}
use Rattle.text_build.proofs.Places.{PartFit, Fit, size-some, size_p-some, fit-go, fit-out, fit-in, fit-par}
use Rattle.text_build.proofs.Stands.{known-first}
use Rattle.text_build.proofs.Into.{into-differ, into-every}

alike_same : (xs : List ℕ) → alike xs xs ≡ true
unfolding alike
alike_same [] = refl
alike_same (x ∷ xs) = and_in _ _ (eq-eqb x x refl) (alike_same xs)

-- words where a name may stand
abbrev pub InScript : List ℕ → Type 0
InScript os = every (λ o. ltb o last_name) os ≡ true

-- a scope that passes question 17: its names stand in the script, have the form of a variable, and differ
pub record GoodScope (w os : List ℕ) : Type 0 where
  pub inside : InScript os
  pub names : sort_ok is_small (scope_names w os) ≡ true

pub no-scope : (w : List ℕ) → GoodScope w []
unfolding sort_ok every distinct
no-scope w = record { inside = refl; names = refl }

module _ (w : List ℕ) where
  -- ── the first row of a process ──
  pub stands-scope : (p : Process) (i : ℕ) (os : List ℕ) → Stands w p i os → scope_at w i ≡ os
  stands-scope (one a) i os b = b.0.scope
  stands-scope (a ∥ p) i os b = b.0.scope

  stands-low : (p : Process) (i : ℕ) (os : List ℕ) → Stands w p i os → low_at w i ≡ suc i - size_p p
  unfolding size_p
  stands-low (one a) i os b = b.0.low
  stands-low (a ∥ p) i os b = b.0.low

  -- a process below i, with the scope that is wanted
  below-ok : (p : Process) (i j : ℕ) (os : List ℕ) → Stands w p j os → j < i → inner_ok w i j os ≡ true
  unfolding inner_ok
  below-ok p i j os b h = and_in _ _ (lt-ltb j i h) (rw (stands-scope p j os b) (alike_same os))

  in-script : (i : ℕ) (os : List ℕ) (y : Name) → i < 4_096 → InScript os → InScript (entering w i os y)
  unfolding entering own_at every
  in-script i os y h e = go (ltb (index (scope_names w os) y) (length os))
    where
      go : (b : Bool) → InScript (cond b os (os ++ (own_at i ∷ [])))
      go true = e
      go false = every_append (λ o. ltb o last_name) os _ e (and_in _ _ (lt-ltb (owns_at + i * row_size) last_name (omega arith)) refl)

  entered-good : (i : ℕ) (os : List ℕ) (y : Name) → i < 4_096 → bound_at w i ≡ y → is_small y ≡ true → GoodScope w os → GoodScope w (entering w i os y)
  unfolding sort_ok
  entered-good i os y h b f g =
      let r = and-inv (every is_small (scope_names w os)) _ g.names in
      record { inside = in-script i os y h g.inside; names = rw (names-entered w i os y b) (and_in _ _ (into-every is_small (scope_names w os) y r.0 f) (into-differ (scope_names w os) y r.1)) }

  -- the name that an input binds
  bound-small : (c : Name) (t : Timer) (y : Name) (p q : Process) (d : ℕ) (ys : List Name) → PartFit (place_known w) (inp c t y p q) d ys → is_small y ≡ true
  unfolding part_known chan_known
  bound-small c t y p q d ys e =
      let k = and-inv (chan_known w c) _ (known-first w (inp c t y p q) d ys e) in
      (and-inv (timed t) _ k.1).1

  module _ (few : locs_in w ≤ 64) where
    -- ── a row's head ──
    module _ (i : ℕ) (os : List ℕ) (same : scope_at w i ≡ os) where
      names-row : names_at w i ≡ scope_names w os
      unfolding names_at
      names-row = rw same

      head-ok : (a : Part) (d : ℕ) → of_call (head_of w i (scope_names w os) a) (arg_words w i) ≡ of_call (head_of w i (scope_names w os) a) (args_of w (scope_names w os) a) → Below w a i os → size a ≤ suc i → PartFit (place_known w) a d (scope_names w os) → head_ok w i (head_of w i (scope_names w os) a) ≡ true
      unfolding head_ok head_of part_known call_known chan_known size entered entering args_of of_call
      head-ok stop d x b s e = refl
      head-ok (go t v p) d x b s e =
          let z = size_p-some p in
          let r = and-inv _ _ (known-first w (go t v p) d _ e) in
          rw (names-row, same) (and_in _ _ (timer-ok t r.0) (and_in _ _ (value-ok w few _ v r.1) (below-ok p i _ os b (omega arith))))
      head-ok (out c t v p q) d x b s e =
          let z = size_p-some p in
          let k = and-inv (chan_known w c) _ (known-first w (out c t v p q) d _ e) in
          let r = and-inv _ _ k.1 in
          rw (names-row, same)
          (and_in _ _ k.0 (and_in _ _ (timer-ok t r.0) (and_in _ _ (value-ok w few _ v r.1)
          (and_in _ _ (below-ok p i _ os b.0 (omega arith)) (below-ok q i _ os b.1 (omega arith))))))
      head-ok (inp c t y p q) d x b s e =
          let z = size_p-some p in
          let k = and-inv (chan_known w c) _ (known-first w (inp c t y p q) d _ e) in
          let r = and-inv _ _ k.1 in
          rw (names-row, same, b.0)
          (and_in _ _ k.0 (and_in _ _ (timer-ok t r.0) (and_in _ _ r.1 (and_in _ _ (eq-eqb (index (scope_names w os) y) (index (scope_names w os) y) refl)
          (and_in _ _ (below-ok p i _ (entering w i os y) b.1 (omega arith)) (below-ok q i _ os b.2 (omega arith)))))))
      head-ok (call n vs) d x b s e =
          let k = and-inv (call_known w n vs) _ (known-first w (call n vs) d _ e) in
          let h = and-inv (ltb (index (ids_of w) n) (defs_in w)) _ k.0 in
          let g = and-inv (eqb (length vs) (arity_of w (index (ids_of w) n))) _ h.1 in
          let n₄ = leb-true (length vs) 4 g.1 in
          let m : min (length vs) 5 ≡ length vs = omega arith in
          rw (m, names-row, x, args_in w (scope_names w os) vs n₄)
          (and_in _ _ h.0 (and_in _ _ g.0 (args_ok w few (scope_names w os) vs k.1)))

    -- ── where the rows below lie ──
    stacked-ok : (a : Part) (i : ℕ) (os : List ℕ) → Below w a i os → size a ≤ suc i → stacked w i (head_of w i (scope_names w os) a) ≡ true
    unfolding stacked head_of size
    stacked-ok stop i os b s = refl
    stacked-ok (go t v p) i os b s = let z = size_p-some p in eq-eqb (suc (first_place i)) i (omega arith)
    stacked-ok (out c t v p q) i os b s =
        let z = size_p-some p in
        let y = size_p-some q in
        and_in _ _ (eq-eqb (suc (first_place i)) i (omega arith)) (eq-eqb (suc (second_place i p)) (low_at w (first_place i)) (omega (arith, stands-low p (first_place i) os b.0)))
    stacked-ok (inp c t y p q) i os b s =
        let z = size_p-some p in
        let x = size_p-some q in
        and_in _ _ (eq-eqb (suc (first_place i)) i (omega arith)) (eq-eqb (suc (second_place i p)) (low_at w (first_place i)) (omega (arith, stands-low p (first_place i) (entering w i os y) b.1)))
    stacked-ok (call d vs) i os b s = refl

    floor-is : (a : Part) (i : ℕ) (os : List ℕ) → Below w a i os → size a ≤ suc i → floor w i (head_of w i (scope_names w os) a) ≡ suc i - size a
    unfolding floor head_of size
    floor-is stop i os b s = omega arith
    floor-is (go t v p) i os b s = let z = size_p-some p in omega (arith, stands-low p (first_place i) os b)
    floor-is (out c t v p q) i os b s =
        let z = size_p-some p in
        let y = size_p-some q in
        omega (arith, stands-low q (second_place i p) os b.1)
    floor-is (inp c t y p q) i os b s =
        let z = size_p-some p in
        let x = size_p-some q in
        omega (arith, stands-low q (second_place i p) os b.2)
    floor-is (call d vs) i os b s = omega arith

    -- ── one row ──
    -- what is left of a part's test once its head, its scope and its place are known
    row_ok : (i n l : ℕ) (h : Head) (xs os : List ℕ) → Row w i h xs n l os → GoodScope w os → head_ok w i h ≡ true → next_ok w i n ≡ true
        → stacked w i h ≡ true
        → low_ok w l (floor w i h) n ≡ true
        → part_ok w i ≡ true
    unfolding part_ok scope_ok tree_ok
    row_ok i n l h xs os r o a b c d =
        rw (r.head, r.next, r.low, names-row i os r.scope, r.scope)
        (and_in _ _ r.kind (and_in _ _ (and_in _ _ r.few (and_in _ _ o.inside o.names)) (and_in _ _ a (and_in _ _ b (and_in _ _ c d)))))

    -- the first row of a process
    first-ok : (p : Process) (i d : ℕ) (os : List ℕ) → Stands w p i os → size_p p ≤ suc i → Fit (place_known w) p d (scope_names w os) → GoodScope w os → part_ok w i ≡ true
    unfolding size_p next_ok low_ok process_places
    first-ok (one a) i d os b s e o =
        row_ok i _ _ _ _ os b.0 o (head-ok i os b.0.scope a d b.0.args b.1 s e) refl (stacked-ok a i os b.1 s)
        (eq-eqb (suc i - size a) (floor w i (head_of w i (scope_names w os) a)) (sym (floor-is a i os b.1 s)))
    first-ok (a ∥ p) i d os b s e o =
        let x = size-some a in
        let z = size_p-some p in
        let k = fit-par (place_known w) a p d _ e in
        let f = floor-is a i os b.1 (omega arith) in
        row_ok i _ _ _ _ os b.0 o (head-ok i os b.0.scope a d b.0.args b.1 (omega arith) k.0)
        (rw b.0.scope (below-ok p i (i - size a) os b.2 (omega arith)))
        (stacked-ok a i os b.1 (omega arith))
        (and_in _ _ (eq-eqb (suc (i - size a)) (floor w i (head_of w i (scope_names w os) a)) (omega arith))
        (eq-eqb (suc i - (size a + size_p p)) (low_at w (i - size a)) (omega (arith, stands-low p (i - size a) os b.2))))

    -- ── every row ──
    -- the place j lies below k or not
    side : {A : Type 0} (j k : ℕ) → (j < k → A) → (k ≤ j → A) → A
    side {A = A} j k x y = go (ltb j k) refl
      where
        go : (b : Bool) → ltb j k ≡ b → A
        go true e = x (ltb-true j k e)
        go false e = y (ltb-false j k e)

    at_first : (p : Process) (i d : ℕ) (os : List ℕ) → Stands w p i os → size_p p ≤ suc i → Fit (place_known w) p d (scope_names w os) → GoodScope w os → (j : ℕ) → j ≡ i → part_ok w j ≡ true
    at_first p i d os b s e o j q = rw q (first-ok p i d os b s e o)

    mutual
      unfolding size size_p process_places

      -- the rows below the part at i
      inner-pass : (a : Part) (i d : ℕ) (os : List ℕ) → Below w a i os → size a ≤ suc i → i < 4_096 → PartFit (place_known w) a d (scope_names w os) → GoodScope w os
          → (j : ℕ) → suc i ≤ j + size a → j < i → part_ok w j ≡ true
      inner-pass stop i d os b s m e o j h g = absurd (omega arith)
      inner-pass (go t v p) i d os b s m e o j h g = pass p (first_place i) (suc d) os b (omega arith) (omega arith) (fit-go (place_known w) t v p d _ e) o j (omega arith) (omega arith)
      inner-pass (out c t v p q) i d os b s m e o j h g =
          let z = size_p-some q in
          let k = fit-out (place_known w) c t v p q d _ e in
          side j (i - size_p p)
          (λ l. pass q (second_place i p) (suc d) os b.1 (omega arith) (omega arith) k.1 o j (omega arith) (omega arith))
          (λ l. pass p (first_place i) (suc d) os b.0 (omega arith) (omega arith) k.0 o j (omega arith) (omega arith))
      inner-pass (inp c t y p q) i d os b s m e o j h g =
          let z = size_p-some q in
          let k = fit-in (place_known w) c t y p q d _ e in
          side j (i - size_p p)
          (λ l. pass q (second_place i p) (suc d) os b.2 (omega arith) (omega arith) k.1 o j (omega arith) (omega arith))
          (λ l. pass p (first_place i) (suc d) (entering w i os y) b.1 (omega arith) (omega arith) (rw (names-entered w i os y b.0) k.0) (entered-good i os y m b.0 (bound-small c t y p q d _ e) o) j (omega arith) (omega arith))
      inner-pass (call n vs) i d os b s m e o j h g = absurd (omega arith)

      -- the rows of the process at i
      pub pass : (p : Process) (i d : ℕ) (os : List ℕ) → Stands w p i os → size_p p ≤ suc i → i < 4_096 → Fit (place_known w) p d (scope_names w os) → GoodScope w os
          → (j : ℕ) → suc i ≤ j + size_p p → j ≤ i → part_ok w j ≡ true
      pass (one a) i d os b s m e o j h g =
          side j i (λ l. inner-pass a i d os b.1 s m e o j h l) (λ l. at_first (one a) i d os b s e o j (omega arith))
      pass (a ∥ p) i d os b s m e o j h g =
          let x = size-some a in
          let z = size_p-some p in
          let k = fit-par (place_known w) a p d _ e in
          side j (suc (i - size a))
          (λ l. pass p (i - size a) d os b.2 (omega arith) (omega arith) k.1 o j (omega arith) (omega arith))
          (λ l. side j i (λ f. inner-pass a i d os b.1 (omega arith) m k.0 o j (omega arith) f) (λ f. at_first (a ∥ p) i d os b s e o j (omega arith)))
