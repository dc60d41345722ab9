-- Looking a name up: its place among the names of a range is its number among them, if there is one.
-- By induction on how many names there are.
use Prim.Native.Nat.{ℕ, suc, ◌+◌, ◌≤◌, ◌<◌}
use native.Mathlib.Omega.{arith}
use mathlib.Core.Bool.{Bool, true, false, cond}
use mathlib.Core.List.{List, [], ◌∷◌, map}
use mathlib.Core.Path.{◌≡◌, refl, ap, sym, ◌∙◌}
use borrow.Author.Tests.{ltb-true, ltb-false}
use lib.Dec.{ltb}
use lib.ListN.{length}
use Rattle.std.proofs.Common.{not, unwrap_or}
use Rattle.std.specs.Prelude.{Some, None, position}
use Rattle.std.specs.List.{position_or_len, range_with_len}
use Rattle.terms.specs.Names.{Name, same_name}
use Rattle.table.specs.Meaning.{list_from}
use Rattle.table.specs.Valid.{index}
use Rattle.text_build.proofs.Tables.{index-within}
use Rattle.table.proofs.Ranges.{list_from-range}

-- a test of what stands at each number, among the numbers and among what stands there
first-map : {A : Type 0} (t : A → Bool) (f : ℕ → A) (ns : List ℕ) → position_or_len t (map f ns) ≡ position_or_len (λ j. t (f j)) ns
first-map t f [] = refl
first-map t f (n ∷ ns) = ap (λ m. cond (not (t (f n))) (1 + m) 0) (first-map t f ns)

length-map : {A : Type 0} (f : ℕ → A) (ns : List ℕ) → length (map f ns) ≡ length ns
length-map f [] = refl
length-map f (n ∷ ns) = ap suc (length-map f ns)

pub position-from : {A : Type 0} (t : A → Bool) (f : ℕ → A) (k n : ℕ) → position (λ j. t (f j)) (range_with_len k n) ≡ position t (list_from k n f)
position-from t f k n =
    let e = list_from-range k n f in
    let p = first-map t f (range_with_len k n) in
    let l = length-map f (range_with_len k n) in
    rw (e, p, l)

pub index-first : (ys : List Name) (x : Name) → index ys x ≡ position_or_len (λ y. same_name y x) ys
unfolding index
index-first [] x = refl
index-first (y ∷ ys) x = go (same_name y x) (index ys x) _ (index-first ys x)
  where
    go : (b : Bool) (n m : ℕ) → n ≡ m → cond b 0 (suc n) ≡ cond (not b) (1 + m) 0
    go true n m e = refl
    go false n m e = omega arith

-- the number of a name that is there, and of one that is not
there : (b : Bool) (m n i : ℕ) → ltb m n ≡ b → cond b (Some m) None ≡ Some i → (i ≡ m) × (m < n)
there true m n i e h = (cc, ltb-true m n e)
there false m n i e h = absurd cc

absent : (b : Bool) (m n : ℕ) → ltb m n ≡ b → cond b (Some m) None ≡ None → n ≤ m
absent true m n e h = absurd cc
absent false m n e h = ltb-false m n e

either : (b : Bool) (m n : ℕ) → ltb m n ≡ b → m ≤ n → unwrap_or (cond b (Some m) None) n ≡ m
either true m n e h = refl
either false m n e h = let k = ltb-false m n e in omega arith

module _ (ys : List Name) (x : Name) where
  pub number-there : (i : ℕ) → position (λ y. same_name y x) ys ≡ Some i → (i ≡ index ys x) × (i < length ys)
  number-there i h = let e = index-first ys x in let t = there _ _ _ i refl h in (t.0 ∙ sym e, omega arith)

  pub number-absent : position (λ y. same_name y x) ys ≡ None → length ys ≤ index ys x
  number-absent h = let e = index-first ys x in let t = absent _ _ _ refl h in omega arith

  pub number-or : (n : ℕ) → length ys ≡ n → unwrap_or (position (λ y. same_name y x) ys) n ≡ index ys x
  number-or n l = let e = index-first ys x in let h = index-within ys x in rw (← l) (either _ _ _ refl (omega arith) ∙ sym e)
