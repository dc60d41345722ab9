-- Names between brackets, in steps: the signs and names one after the other, then the closing bracket.
-- By the definition of a chain at a list that is taken apart at an index.
use Prim.Native.Nat.{ℕ, ◌+◌, ◌≤◌, ◌<◌}
use native.Mathlib.Omega.{arith}
use native.Mathlib.Numerals.{add-one}
use mathlib.Core.List.{List, [], ◌∷◌, ◌++◌, map}
use mathlib.Core.Path.{◌≡◌, refl, ◌∙◌}
use lib.ListN.{length, get_or, drop, drop_of_length-le}
use lib.Seq.{drop-cons}
use Rattle.terms.specs.Names.{Name}
use Rattle.text_letters.specs.Forms.{chain, listed}

module _ (f : ℕ → Name) (o : List ℕ) where
  pub list-none : length o ≡ 0 → [] ≡ listed (map f o)
  list-none = go o
    where
      go : (l : List ℕ) → length l ≡ 0 → [] ≡ listed (map f l)
      go [] z = unfold listed in refl
      go (x ∷ l) z = absurd (omega arith)

  pub list-some : (length o ≡ 0 → ⊥) → listed (map f o) ≡ chain 40 (map f (drop 0 o))
  list-some = go o
    where
      go : (l : List ℕ) → (length l ≡ 0 → ⊥) → listed (map f l) ≡ chain 40 (map f (drop 0 l))
      go [] z = absurd (z refl)
      go (x ∷ l) z = unfold listed in refl

  pub chain_next : (c k : ℕ) → k < length o → chain c (map f (drop k o)) ≡ (c ∷ []) ++ (f (get_or o k 0) ++ chain 44 (map f (drop (k + 1) o)))
  unfolding chain
  chain_next c k l =
      let e : drop k o ≡ get_or o k 0 ∷ drop (k + 1) o = drop-cons o k 0 l ∙ rw (add-one k) refl in
      rw e

  pub chain-end : (c k : ℕ) → length o ≤ k → chain c (map f (drop k o)) ≡ 41 ∷ []
  unfolding chain
  chain-end c k l = rw (drop_of_length-le o {i = k} l)
