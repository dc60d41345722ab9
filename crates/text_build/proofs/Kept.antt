-- What stands at a place goes on standing there while other rows are written and names are added to the tables.
-- By induction on the process: its rows are the same words, and its names have the same numbers.
use Prim.Native.Nat.{ℕ, suc, ◌+◌, ◌-◌, ◌*◌, ◌≤◌, ◌<◌}
use native.Mathlib.Omega.{arith}
use mathlib.Core.List.{List, [], ◌∷◌, ◌++◌, map}
use mathlib.Core.Bool.{Bool, true, false, cond}
use mathlib.Core.Path.{◌≡◌, refl, sym, ◌∙◌, ap}
use lib.Dec.{ltb}
use lib.ListN.{length}
use Rattle.terms.specs.Names.{Name}
use Rattle.terms.specs.Terms.{Value, Part, Process}
use Rattle.terms.specs.Terms.Value.{loc, var}
use Rattle.terms.specs.Terms.Part.{stop, go, out, inp, call}
use Rattle.terms.specs.Terms.Process.{one, ◌∥◌}
use Rattle.terms.specs.Same.{every}
use Rattle.terms.proofs.Names.{and-inv}
use Rattle.text.specs.Questions.{process_places}
use Rattle.table.specs.declared.Head.{Head}
use Rattle.table.specs.Words.{row_size, owns_at, parts_at, field, name_at, head_at, next_at, low_at, own_at, bound_at, scope_at, arg_words, count_field, first_field, kind_field, low_field, name_field, next_field, second_field, timer_field, value_field}
use Rattle.table.specs.Valid.{index}
use Rattle.table.specs.Size.{size, size_p}
use Rattle.table.proofs.Fires.{map-append}
use Rattle.text_build.specs.Rows.{Row, Below, Stands, scope_names, value_word, head_of, first_place, second_place, entering, chan_known, of_call, args_of}
use Rattle.text_build.specs.Growth.{value_listed, part_listed, place_listed, Grown, SameRows}
use Rattle.text_build.proofs.Places.{PartFit, Fit, size-some, size_p-some, fit-first, fit-go, fit-out, fit-in, fit-par}
use Rattle.text_build.proofs.Numbers.{names-entered}

module _ (w v : List ℕ) where
  -- ── one row ──
  module _ (i : ℕ) (e : (k : ℕ) → k < row_size → field v i k ≡ field w i k) where
    head-same : head_at v i ≡ head_at w i
    unfolding head_at
    head-same =
        rw (
          e kind_field (omega arith),
          e name_field (omega arith),
          e timer_field (omega arith),
          e value_field (omega arith),
          e first_field (omega arith),
          e second_field (omega arith),
        )

    args-same : arg_words v i ≡ arg_words w i
    args-same = rw (e 17 (omega arith), e 18 (omega arith), e 19 (omega arith), e 20 (omega arith))

    scope-same : scope_at v i ≡ scope_at w i
    unfolding scope_at
    scope-same =
        rw (
          e count_field (omega arith),
          e 9 (omega arith),
          e 10 (omega arith),
          e 11 (omega arith),
          e 12 (omega arith),
          e 13 (omega arith),
          e 14 (omega arith),
          e 15 (omega arith),
          e 16 (omega arith),
        )

    row_same : (h : Head) (xs : List ℕ) (n l : ℕ) (os : List ℕ) → Row w i h xs n l os → Row v i h xs n l os
    unfolding next_at low_at
    row_same h xs n l os r = record {
      kind = rw (e kind_field (omega arith)) r.kind;
      head = head-same ∙ r.head;
      args = ap (of_call h) args-same ∙ r.args;
      next = e next_field (omega arith) ∙ r.next;
      low = e low_field (omega arith) ∙ r.low;
      few = rw (e count_field (omega arith)) r.few;
      scope = scope-same ∙ r.scope;
    }

    -- the name that an input at i binds
    own_same : name_at v (own_at i) ≡ name_at w (own_at i)
    unfolding name_at own_at
    own_same =
        let q₀ : owns_at + i * row_size ≡ parts_at + i * row_size + 17 = omega arith in
        let q₁ : owns_at + i * row_size + 1 ≡ parts_at + i * row_size + 18 = omega arith in
        let q₂ : owns_at + i * row_size + 2 ≡ parts_at + i * row_size + 19 = omega arith in
        let q₃ : owns_at + i * row_size + 3 ≡ parts_at + i * row_size + 20 = omega arith in
        rw (q₁, q₂, q₃, q₀, e 17 (omega arith), e 18 (omega arith), e 19 (omega arith), e 20 (omega arith))

  -- ── the numbers of a part ──
  module _ (g : Grown w v) where
    pub value_same : (ys : List Name) (x : Value) → value_listed w x ≡ true → value_word v ys x ≡ value_word w ys x
    unfolding value_listed value_word
    value_same ys (loc l) e = g.locs l e
    value_same ys (var x) e = refl

    pub values_same : (ys : List Name) (xs : List Value) → every (value_listed w) xs ≡ true → map (value_word v ys) xs ≡ map (value_word w ys) xs
    unfolding every
    values_same ys [] e = refl
    values_same ys (x ∷ xs) e = let r = and-inv (value_listed w x) _ e in rw (value_same ys x r.0, values_same ys xs r.1)

    numbers-same : (a : Part) (i : ℕ) (ys : List Name) → part_listed w a ≡ true → head_of v i ys a ≡ head_of w i ys a
    unfolding head_of part_listed
    numbers-same stop i ys e = refl
    numbers-same (go t x p) i ys e = rw (value_same ys x e)
    numbers-same (out c t x p q) i ys e = let r = and-inv (chan_known w c) _ e in rw (g.chans c r.0, value_same ys x r.1)
    numbers-same (inp c t y p q) i ys e = rw (g.chans c e)
    numbers-same (call d xs) i ys e = rw (g.ids d)

    arguments-same : (a : Part) (ys : List Name) → part_listed w a ≡ true → args_of v ys a ≡ args_of w ys a
    unfolding args_of part_listed
    arguments-same stop ys e = refl
    arguments-same (go t x p) ys e = refl
    arguments-same (out c t x p q) ys e = refl
    arguments-same (inp c t y p q) ys e = refl
    arguments-same (call d xs) ys e = rw (values_same ys xs e)

    listed-first : (a : Part) (d : ℕ) (ys : List Name) → PartFit (place_listed w) a d ys → part_listed w a ≡ true
    unfolding place_listed
    listed-first a d ys e = fit-first (place_listed w) a d ys e

    -- the row of a part
    part-row : (a : Part) (i n l d : ℕ) (os : List ℕ) → SameRows w v i i → scope_names v os ≡ scope_names w os
        → PartFit (place_listed w) a d (scope_names w os)
        → Row w i (head_of w i (scope_names w os) a) (args_of w (scope_names w os) a) n l os
        → Row v i (head_of v i (scope_names v os) a) (args_of v (scope_names v os) a) n l os
    part-row a i n l d os s o e r =
        let f = listed-first a d _ e in
        rw (o, numbers-same a i (scope_names w os) f, arguments-same a (scope_names w os) f) (row_same i (λ k h. s i k (omega arith) (omega arith) h) _ _ n l os r)

    pub entering-same : (i : ℕ) (os : List ℕ) (y : Name) → scope_names v os ≡ scope_names w os → entering v i os y ≡ entering w i os y
    unfolding entering
    entering-same i os y o = rw o

    pub entered-same : (i : ℕ) (os : List ℕ) (y : Name) → name_at v (own_at i) ≡ name_at w (own_at i) → scope_names v os ≡ scope_names w os
        → scope_names v (entering w i os y) ≡ scope_names w (entering w i os y)
    unfolding entering
    entered-same i os y own o = go (ltb (index (scope_names w os) y) (length os))
      where
        go : (b : Bool) → scope_names v (cond b os (os ++ (own_at i ∷ []))) ≡ scope_names w (cond b os (os ++ (own_at i ∷ [])))
        go true = o
        go false = map-append (name_at v) os _ ∙ rw (o, own) (sym (map-append (name_at w) os _))

    bound-is : (i : ℕ) → name_at v (own_at i) ≡ name_at w (own_at i) → bound_at v i ≡ bound_at w i
    unfolding bound_at
    bound-is i own = own

    -- ── what stands goes on standing ──
    mutual
      unfolding size size_p process_places

      -- of the row at i itself only the name that it binds counts
      pub below-kept : (a : Part) (i d : ℕ) (os : List ℕ) → ((j k : ℕ) → suc i - size a ≤ j → j < i → k < row_size → field v j k ≡ field w j k)
          → name_at v (own_at i) ≡ name_at w (own_at i)
          → scope_names v os ≡ scope_names w os
          → PartFit (place_listed w) a d (scope_names w os) → size a ≤ suc i → Below w a i os → Below v a i os
      below-kept stop i d os s r o e z b = b
      below-kept (go t x p) i d os s r o e z b =
          let m = size_p-some p in
          kept p (first_place i) (suc d) os (λ j k l h. s j k (omega arith) (omega arith)) o (fit-go (place_listed w) t x p d _ e) (omega arith) b
      below-kept (out c t x p q) i d os s r o e z b =
          let m = size_p-some q in
          let n = size_p-some p in
          let f = fit-out (place_listed w) c t x p q d _ e in (
            kept p (first_place i) (suc d) os (λ j k l h. s j k (omega arith) (omega arith)) o f.0 (omega arith) b.0,
            kept q (second_place i p) (suc d) os (λ j k l h. s j k (omega arith) (omega arith)) o f.1 (omega arith) b.1,
          )
      below-kept (inp c t y p q) i d os s r o e z b =
          let m = size_p-some q in
          let n = size_p-some p in
          let f = fit-in (place_listed w) c t y p q d _ e in (
            bound-is i r ∙ b.0,
            rw (entering-same i os y o)
                (kept p (first_place i) (suc d) (entering w i os y) (λ j k l h. s j k (omega arith) (omega arith)) (entered-same i os y r o) (rw (names-entered w i os y b.0) f.0) (omega arith) b.1),
            kept q (second_place i p) (suc d) os (λ j k l h. s j k (omega arith) (omega arith)) o f.1 (omega arith) b.2,
          )
      below-kept (call n xs) i d os s r o e z b = b

      pub kept : (p : Process) (i d : ℕ) (os : List ℕ) → SameRows w v (suc i - size_p p) i → scope_names v os ≡ scope_names w os
          → Fit (place_listed w) p d (scope_names w os) → size_p p ≤ suc i → Stands w p i os → Stands v p i os
      kept (one a) i d os s o e z b =
          let m = size-some a in
          (part-row a i _ _ d os (λ j k l h. s j k (omega arith) h) o e b.0, below-kept a i d os (λ j k l h. s j k l (omega arith)) (own_same i (λ k h. s i k (omega arith) (omega arith) h)) o e z b.1)
      kept (a ∥ p) i d os s o e z b =
          let m = size-some a in
          let n = size_p-some p in
          let f = fit-par (place_listed w) a p d _ e in (
            part-row a i _ _ d os (λ j k l h. s j k (omega arith) h) o f.0 b.0,
            below-kept a i d os (λ j k l h. s j k (omega arith) (omega arith)) (own_same i (λ k h. s i k (omega arith) (omega arith) h)) o f.0 (omega arith) b.1,
            kept p (i - size a) d os (λ j k l h. s j k (omega arith) (omega arith)) o f.1 (omega arith) b.2,
          )
