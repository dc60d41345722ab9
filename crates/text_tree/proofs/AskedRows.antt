-- A test of every place of a process is a test of every row that the process has, from its first row down, if the two agree at each place and its row.
-- By induction on the process: its places and its rows stand in the same order.
use Prim.Native.Nat.{ℕ, zero, suc, ◌+◌, ◌-◌}
use native.Mathlib.Omega.{arith}
use mathlib.Core.List.{List, [], ◌∷◌, ◌++◌}
use mathlib.Core.Bool.{Bool, true, ◌&&◌, and_assoc, and_comm}
use mathlib.Core.Path.{◌≡◌, refl, ap, sym, ◌∙◌}
use lib.ListN.{length, length-append}
use Rattle.terms.specs.Names.{Name}
use Rattle.terms.specs.Terms.{Part, Process}
use Rattle.terms.specs.Terms.Part.{stop, go, out, inp, call}
use Rattle.terms.specs.Terms.Process.{one, ◌∥◌}
use Rattle.terms.specs.Same.{every}
use Rattle.text.specs.Questions.{Place, into, part_places, process_places}
use Rattle.table.specs.Valid.{below}
use Rattle.table.specs.Size.{size, size_p}
use Rattle.text_build.specs.Rows.{Row, Below, Stands, scope_names, head_of, first_place, second_place, entering, args_of}
use Rattle.text_build.proofs.Places.{PartFit, Fit, here, fit-first, fit-go, fit-out, fit-in, fit-par}
use Rattle.text_build.proofs.Numbers.{names-entered}

-- ── tests of lists ──
pub every-join : {A : Type 0} (f : A → Bool) (xs ys : List A) → every f (xs ++ ys) ≡ (every f xs && every f ys)
unfolding every
every-join f [] ys = refl
every-join f (x ∷ xs) ys = rw (every-join f xs ys) (sym (and_assoc (f x) (every f xs) (every f ys)))

-- ── tests of rows ──
-- g of n rows from i down
unfoldable pub down : (ℕ → Bool) → ℕ → ℕ → Bool
down g i zero = true
down g i (suc n) = g i && down g (i - 1) n

module _ (g : ℕ → Bool) where
  pub down-join : (m n i : ℕ) → down g i (m + n) ≡ (down g i m && down g (i - m) n)
  unfolding down
  down-join zero n i = let e : 0 + n ≡ n = omega arith in let k : i - 0 ≡ i = omega arith in rw (e, k)
  down-join (suc m) n i =
      let e : suc m + n ≡ suc (m + n) = omega arith in
      let k : i - 1 - m ≡ i - suc m = omega arith in
      rw (e, down-join m n (i - 1), k) (sym (and_assoc (g i) (down g (i - 1) m) (down g (i - suc m) n)))

  -- all rows below n
  pub down-all : (n : ℕ) → down g (n - 1) n ≡ below n g
  unfolding down below
  down-all zero = refl
  down-all (suc n) =
      let e : suc n - 1 ≡ n = omega arith in
      rw (e, down-all n) (and_comm (g n) (below n g))

-- ── as many rows as places ──
mutual
  unfolding part_places process_places size size_p

  part_length : (a : Part) (d : ℕ) (ys : List Name) → length (part_places a d ys) ≡ size a
  part_length stop d ys = refl
  part_length (go t v p) d ys = ap suc (process-length p (suc d) ys)
  part_length (out c t v p q) d ys =
      omega (arith, length-append (process_places p (suc d) ys) (process_places q (suc d) ys), process-length p (suc d) ys, process-length q (suc d) ys)
  part_length (inp c t y p q) d ys =
      omega (arith, length-append (process_places p (suc d) (into ys y)) (process_places q (suc d) ys), process-length p (suc d) (into ys y), process-length q (suc d) ys)
  part_length (call i vs) d ys = refl

  pub process-length : (p : Process) (d : ℕ) (ys : List Name) → length (process_places p d ys) ≡ size_p p
  process-length (one a) d ys = part_length a d ys
  process-length (a ∥ p) d ys = omega (arith, length-append (part_places a d ys) (process_places p d ys), part_length a d ys, process-length p d ys)

-- ── places and rows ──
module _ (w : List ℕ) (f h : Place → Bool) (g : ℕ → Bool) where
  -- f and g agree at each place that passes h, and its row
  abbrev pub Agree : Type 0
  Agree = (a : Part) (i n l d : ℕ) (os : List ℕ) → h (here h a d (scope_names w os)) ≡ true → Row w i (head_of w i (scope_names w os) a) (args_of w (scope_names w os) a) n l os
      → f (here f a d (scope_names w os)) ≡ g i

  module _ (agree : Agree) where
    mutual
      unfolding part_places process_places size size_p every down

      part-rows : (a : Part) (i n l d : ℕ) (os : List ℕ) → Row w i (head_of w i (scope_names w os) a) (args_of w (scope_names w os) a) n l os → Below w a i os → PartFit h a d (scope_names w os)
          → every f (part_places a d (scope_names w os)) ≡ down g i (size a)
      part-rows stop i n l d os r b e = rw (agree stop i n l d os (fit-first h stop d _ e) r)
      part-rows (go t v p) i n l d os r b e =
          rw (agree (go t v p) i n l d os (fit-first h (go t v p) d _ e) r, process-rows p (first_place i) (suc d) os b (fit-go h t v p d _ e))
      part-rows (out c t v p q) i n l d os r b e =
          let k = fit-out h c t v p q d _ e in
          rw (
            agree (out c t v p q) i n l d os (fit-first h (out c t v p q) d _ e) r,
            every-join f (process_places p (suc d) (scope_names w os)) (process_places q (suc d) (scope_names w os)),
            process-rows p (first_place i) (suc d) os b.0 k.0,
            process-rows q (second_place i p) (suc d) os b.1 k.1,
            down-join g (size_p p) (size_p q) (first_place i),
          )
      part-rows (inp c t y p q) i n l d os r b e =
          let k = fit-in h c t y p q d _ e in
          let o = names-entered w i os y b.0 in
          let x : every f (process_places p (suc d) (into (scope_names w os) y)) ≡ down g (first_place i) (size_p p)
          = ap (λ ys. every f (process_places p (suc d) ys)) (sym o) ∙ process-rows p (first_place i) (suc d) (entering w i os y) b.1 (rw o k.0) in
          rw (
            agree (inp c t y p q) i n l d os (fit-first h (inp c t y p q) d _ e) r,
            every-join f (process_places p (suc d) (into (scope_names w os) y)) (process_places q (suc d) (scope_names w os)),
            x,
            process-rows q (second_place i p) (suc d) os b.2 k.1,
            down-join g (size_p p) (size_p q) (first_place i),
          )
      part-rows (call x vs) i n l d os r b e = rw (agree (call x vs) i n l d os (fit-first h (call x vs) d _ e) r)

      -- the law: a test of the places of a process that stands at i is a test of its rows
      pub process-rows : (p : Process) (i d : ℕ) (os : List ℕ) → Stands w p i os → Fit h p d (scope_names w os)
          → every f (process_places p d (scope_names w os)) ≡ down g i (size_p p)
      process-rows (one a) i d os b e = part-rows a i _ _ d os b.0 b.1 e
      process-rows (a ∥ p) i d os b e =
          let k = fit-par h a p d _ e in
          rw (
            every-join f (part_places a d (scope_names w os)) (process_places p d (scope_names w os)),
            part-rows a i _ _ d os b.0 b.1 k.0,
            process-rows p (i - size a) d os b.2 k.1,
            down-join g (size a) (size_p p) i,
          )
