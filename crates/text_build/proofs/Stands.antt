-- Rows that the second pass writes stand for their process: if the process stands at a place, then the place means that process, however deep one looks.
-- By induction on the process: each row's numbers lead back to its names, its P and Q lie where the row says, and the next part below these.
use Prim.Native.Nat.{ℕ, zero, suc, ◌-◌, ◌≤◌, ◌<◌, min}
use native.Mathlib.Omega.{arith}
use mathlib.Core.List.{List}
use mathlib.Core.Bool.{true}
use mathlib.Core.Path.{◌≡◌, refl, ap, ◌∙◌}
use lib.Dec.{eqb, ltb}
use lib.ListN.{length}
use borrow.Author.Tests.{leb-true}
use Rattle.terms.specs.Names.{Name}
use Rattle.terms.specs.Terms.{Timer, Value, Part, Process}
use Rattle.terms.specs.Terms.Part.{stop, go, out, inp, call}
use Rattle.terms.specs.Terms.Process.{one, ◌∥◌}
use Rattle.terms.proofs.Names.{and-inv}
use Rattle.text.specs.Questions.{process_places}
use Rattle.table.specs.declared.Head.{Head}
use Rattle.table.specs.Valid.{index}
use Rattle.table.specs.Words.{locs_in, defs_in, arity_of, bound_at, names_at, arg_words}
use Rattle.table.specs.Meaning.{part_of, joined, deep, process_at}
use Rattle.table.specs.Size.{size, size_p}
use Rattle.text_build.specs.Rows.{Row, Below, ids_of, Stands, scope_names, head_of, first_place, second_place, entering, chan_known, call_known, part_known, place_known, four_words, of_call, args_of}
use Rattle.text_build.proofs.Places.{PartFit, Fit, size-some, size_p-some, fit-first, fit-go, fit-out, fit-in, fit-par}
use Rattle.text_build.proofs.Numbers.{chan-number, id-number, timer-is, value-is, args_are, args_in, names-entered}

module _ (w : List ℕ) where
  -- what a known part asks of the script
  pub known-first : (a : Part) (d : ℕ) (ys : List Name) → PartFit (place_known w) a d ys → part_known w ys a ≡ true
  unfolding place_known
  known-first a d ys e = fit-first (place_known w) a d ys e

  -- ── one part ──
  module _ (few : locs_in w ≤ 64) where
    -- the part of a head, from what its inner places mean
    stop_is : (f : ℕ → Process) (i : ℕ) (ys : List Name) → part_of w f i (head_of w i ys stop) ≡ stop
    unfolding part_of head_of
    stop_is f i ys = refl

    go-is : (f : ℕ → Process) (i : ℕ) (ys : List Name) (t : Timer) (v : Value) (p : Process) → names_at w i ≡ ys → part_known w ys (go t v p) ≡ true
        → f (first_place i) ≡ p → part_of w f i (head_of w i ys (go t v p)) ≡ go t v p
    unfolding part_of head_of part_known
    go-is f i ys t v p o e g = let r = and-inv _ _ e in rw (o, timer-is t r.0, value-is w few ys v r.1, g)

    out-is : (f : ℕ → Process) (i : ℕ) (ys : List Name) (c : Name) (t : Timer) (v : Value) (p q : Process) → names_at w i ≡ ys → part_known w ys (out c t v p q) ≡ true
        → f (first_place i) ≡ p → f (second_place i p) ≡ q → part_of w f i (head_of w i ys (out c t v p q)) ≡ out c t v p q
    unfolding part_of head_of part_known
    out-is f i ys c t v p q o e g h =
        let k = and-inv (chan_known w c) _ e in
        let r = and-inv _ _ k.1 in
        rw (o, chan-number w c k.0, timer-is t r.0, value-is w few ys v r.1, g, h)

    in_is : (f : ℕ → Process) (i : ℕ) (ys : List Name) (c : Name) (t : Timer) (y : Name) (p q : Process) → part_known w ys (inp c t y p q) ≡ true
        → bound_at w i ≡ y → f (first_place i) ≡ p → f (second_place i p) ≡ q → part_of w f i (head_of w i ys (inp c t y p q)) ≡ inp c t y p q
    unfolding part_of head_of part_known
    in_is f i ys c t y p q e n g h =
        let k = and-inv (chan_known w c) _ e in
        let r = and-inv _ _ k.1 in
        rw (chan-number w c k.0, timer-is t r.0, n, g, h)

    call-is : (f : ℕ → Process) (i : ℕ) (ys : List Name) (d : Name) (vs : List Value) → names_at w i ≡ ys → arg_words w i ≡ four_words w ys vs → part_known w ys (call d vs) ≡ true
        → part_of w f i (head_of w i ys (call d vs)) ≡ call d vs
    unfolding part_of head_of part_known call_known
    call-is f i ys d vs o a e =
        let k = and-inv (call_known w d vs) _ e in
        let h = and-inv (ltb (index (ids_of w) d) (defs_in w)) _ k.0 in
        let n = leb-true (length vs) 4 (and-inv (eqb (length vs) (arity_of w (index (ids_of w) d))) _ h.1).1 in
        let m : min (length vs) 5 ≡ length vs = omega arith in
        rw (o, m, id-number w d h.0, a, args_in w ys vs n, args_are w few ys vs k.1)

    -- ── one row ──
    row-means : (i m : ℕ) (h : Head) (xs : List ℕ) (n l : ℕ) (os : List ℕ) → Row w i h xs n l os → deep w (suc m) i ≡ joined (deep w m) (part_of w (deep w m) i h) n
    unfolding deep
    row-means i m h xs n l os r = rw (r.head, r.next)

    row-names : {i : ℕ} {h : Head} {xs : List ℕ} {n l : ℕ} {os : List ℕ} → Row w i h xs n l os → names_at w i ≡ scope_names w os
    unfolding names_at
    row-names r = rw r.scope

    args-at-call : (d : Name) (vs : List Value) (i : ℕ) (os : List ℕ)
        → of_call (head_of w i (scope_names w os) (call d vs)) (arg_words w i) ≡ of_call (head_of w i (scope_names w os) (call d vs)) (args_of w (scope_names w os) (call d vs))
        → arg_words w i ≡ four_words w (scope_names w os) vs
    unfolding of_call head_of args_of
    args-at-call d vs i os e = e

    -- a depth that reaches a place is not 0
    reached : (m j : ℕ) (p : Process) → j < m → ((n : ℕ) → j ≤ n → deep w (suc n) j ≡ p) → deep w m j ≡ p
    reached zero j p h k = absurd (omega arith)
    reached (suc n) j p h k = k n (omega arith)

    -- ── what stands at a place is what the place means, at any depth that reaches it ──
    mutual
      unfolding size size_p joined process_places

      part-means : (a : Part) (i m d : ℕ) (os : List ℕ) → Below w a i os → size a ≤ suc i → PartFit (place_known w) a d (scope_names w os) → i ≤ m
          → {n l : ℕ} → Row w i (head_of w i (scope_names w os) a) (args_of w (scope_names w os) a) n l os → part_of w (deep w m) i (head_of w i (scope_names w os) a) ≡ a
      part-means stop i m d os b s e h o = stop_is (deep w m) i (scope_names w os)
      part-means (go t v p) i m d os b s e h o =
          let z = size_p-some p in
          go-is (deep w m) i (scope_names w os) t v p (row-names o) (known-first (go t v p) d _ e)
          (reached m (first_place i) p (omega arith) (λ n l. means p (first_place i) n (suc d) os b (omega arith) (fit-go (place_known w) t v p d _ e) l))
      part-means (out c t v p q) i m d os b s e h o =
          let z = size_p-some p in
          let y = size_p-some q in
          let k = fit-out (place_known w) c t v p q d _ e in
          out-is (deep w m) i (scope_names w os) c t v p q (row-names o) (known-first (out c t v p q) d _ e)
          (reached m (first_place i) p (omega arith) (λ n l. means p (first_place i) n (suc d) os b.0 (omega arith) k.0 l))
          (reached m (second_place i p) q (omega arith) (λ n l. means q (second_place i p) n (suc d) os b.1 (omega arith) k.1 l))
      part-means (inp c t y p q) i m d os b s e h o =
          let z = size_p-some p in
          let x = size_p-some q in
          let k = fit-in (place_known w) c t y p q d _ e in
          in_is (deep w m) i (scope_names w os) c t y p q (known-first (inp c t y p q) d _ e) b.0
          (reached m (first_place i) p (omega arith) (λ n l. means p (first_place i) n (suc d) (entering w i os y) b.1 (omega arith) (rw (names-entered w i os y b.0) k.0) l))
          (reached m (second_place i p) q (omega arith) (λ n l. means q (second_place i p) n (suc d) os b.2 (omega arith) k.1 l))
      part-means (call i vs) j m d os b s e h o = call-is (deep w m) j (scope_names w os) i vs (row-names o) (args-at-call i vs j os o.args) (known-first (call i vs) d _ e)

      pub means : (p : Process) (i m d : ℕ) (os : List ℕ) → Stands w p i os → size_p p ≤ suc i → Fit (place_known w) p d (scope_names w os) → i ≤ m → deep w (suc m) i ≡ p
      means (one a) i m d os b s e h =
          row-means i m _ _ _ _ os b.0 ∙ ap one (part-means a i m d os b.1 s e h b.0)
      means (a ∥ p) i m d os b s e h =
          let x = size-some a in
          let z = size_p-some p in
          let k = fit-par (place_known w) a p d _ e in
          row-means i m _ _ _ _ os b.0
          ∙ rw (part-means a i m d os b.1 (omega arith) k.0 h b.0, reached m (i - size a) p (omega arith) (λ n l. means p (i - size a) n d os b.2 (omega arith) k.1 l))

    -- the law: a process that stands at a place is what the place means
    pub process-means : (p : Process) (i d : ℕ) (os : List ℕ) → Stands w p i os → size_p p ≤ suc i → Fit (place_known w) p d (scope_names w os) → process_at w i ≡ p
    unfolding process_at
    process-means p i d os b s e = means p i i d os b s e (omega arith)
