-- A test of every place of a process, taken apart: of its first part, and of the processes below it.
-- By the order of the places: a part, then those of its P, then those of its Q, then those of the next part.
use Prim.Native.Nat.{ℕ, suc, ◌≤◌}
use native.Mathlib.Omega.{arith}
use mathlib.Core.List.{List, [], ◌∷◌, ◌++◌}
use mathlib.Core.Bool.{Bool, true}
use mathlib.Core.Path.{◌≡◌, refl}
use Rattle.terms.specs.Names.{Name}
use Rattle.terms.specs.Terms.{Timer, Value, Part, Process}
use Rattle.terms.specs.Terms.Part.{stop, go, out, inp, call}
use Rattle.terms.specs.Terms.Process.{one, ◌∥◌}
use Rattle.terms.specs.Same.{every}
use Rattle.terms.proofs.Names.{and-inv, and_in}
use Rattle.text.specs.Questions.{Place, into, part_places, process_places}
use Rattle.table.specs.Size.{size, size_p}

-- ── sizes ──
mutual
  unfolding size size_p

  pub size-some : (a : Part) → 1 ≤ size a
  size-some stop = omega arith
  size-some (go t v p) = omega arith
  size-some (out c t v p q) = omega arith
  size-some (inp c t y p q) = omega arith
  size-some (call d vs) = omega arith

  pub size_p-some : (p : Process) → 1 ≤ size_p p
  size_p-some (one a) = size-some a
  size_p-some (a ∥ p) = omega (arith, size-some a)

-- ── tests ──
pub every-split : {A : Type 0} (f : A → Bool) (xs ys : List A) → every f (xs ++ ys) ≡ true → (every f xs ≡ true) × (every f ys ≡ true)
unfolding every
every-split f [] ys e = (refl, e)
every-split f (x ∷ xs) ys e =
    let r = and-inv (f x) _ e in
    let s = every-split f xs ys r.1 in
    (and_in (f x) _ r.0 s.0, s.1)

module _ (f : Place → Bool) where
  -- all places of a part or a process pass the test
  abbrev pub PartFit : Part → ℕ → List Name → Type 0
  PartFit a d ys = every f (part_places a d ys) ≡ true

  abbrev pub Fit : Process → ℕ → List Name → Type 0
  Fit p d ys = every f (process_places p d ys) ≡ true

  -- the part at nesting d with the names ys in scope
  abbrev pub here : Part → ℕ → List Name → Place
  here a d ys = record { depth = d; scope = ys; part = a }

  -- the first place of a part is the part itself
  pub fit-first : (a : Part) (d : ℕ) (ys : List Name) → PartFit a d ys → f (here a d ys) ≡ true
  unfolding part_places every
  fit-first stop d ys e = (and-inv (f (here stop d ys)) _ e).0
  fit-first (go t v p) d ys e = (and-inv (f (here (go t v p) d ys)) _ e).0
  fit-first (out c t v p q) d ys e = (and-inv (f (here (out c t v p q) d ys)) _ e).0
  fit-first (inp c t y p q) d ys e = (and-inv (f (here (inp c t y p q) d ys)) _ e).0
  fit-first (call i vs) d ys e = (and-inv (f (here (call i vs) d ys)) _ e).0

  pub fit-go : (t : Timer) (v : Value) (p : Process) (d : ℕ) (ys : List Name) → PartFit (go t v p) d ys → Fit p (suc d) ys
  unfolding part_places every
  fit-go t v p d ys e = (and-inv (f (here (go t v p) d ys)) _ e).1

  pub fit-out : (c : Name) (t : Timer) (v : Value) (p q : Process) (d : ℕ) (ys : List Name) → PartFit (out c t v p q) d ys → Fit p (suc d) ys × Fit q (suc d) ys
  unfolding part_places every
  fit-out c t v p q d ys e = every-split f (process_places p (suc d) ys) _ (and-inv (f (here (out c t v p q) d ys)) _ e).1

  pub fit-in : (c : Name) (t : Timer) (y : Name) (p q : Process) (d : ℕ) (ys : List Name) → PartFit (inp c t y p q) d ys → Fit p (suc d) (into ys y) × Fit q (suc d) ys
  unfolding part_places every
  fit-in c t y p q d ys e = every-split f (process_places p (suc d) (into ys y)) _ (and-inv (f (here (inp c t y p q) d ys)) _ e).1

  pub fit-par : (a : Part) (p : Process) (d : ℕ) (ys : List Name) → Fit (a ∥ p) d ys → PartFit a d ys × Fit p d ys
  unfolding process_places
  fit-par a p d ys e = every-split f (part_places a d ys) _ e
