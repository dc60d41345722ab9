-- A valid script is a forest: the process at a place has as many parts as there are places from its least to it. So no table stands for a term that is
-- larger than itself, however it was made. By induction on the place, from where P, Q and the next part lie.
use Prim.Native.Nat.{ℕ, zero, suc, ◌+◌, ◌<◌}
use native.Mathlib.Omega.{arith}
use mathlib.Core.List.{List}
use mathlib.Core.Bool.{true}
use mathlib.Core.Path.{◌≡◌}
use lib.Dec.{eqb}
use borrow.Author.Tests.{eqb-true}
use Rattle.terms.specs.Terms.{Part, Process}
use Rattle.terms.proofs.Names.{and-inv}
use Rattle.table.specs.declared.Head.{Head}
use Rattle.table.specs.declared.Head.TheVariants.{Stop, Go, Out, In, Call}
use Rattle.table.specs.Words.{parts_in, head_at, next_at, low_at}
use Rattle.table.specs.Meaning.{part_of, joined, process_at, part_at}
use Rattle.table.specs.Size.{size, size_p}
use Rattle.table.specs.Valid.{head_ok, next_ok, stacked, floor, low_ok, tree_ok, script_ok}
use Rattle.table.proofs.Tests.{inner, part-fine}
use Rattle.table.proofs.Places.{go-fine, out-fine, in-fine, process-is}

module _ (w : List ℕ) where
  abbrev P : ℕ → Process
  P j = process_at w j

  abbrev part_is : ℕ → Head → Part
  part_is i h = part_of w P i h

  part-size : (i : ℕ) (h : Head) → stacked w i h ≡ true → head_ok w i h ≡ true → ((j : ℕ) → j < i → size_p (P j) + low_at w j ≡ suc j) → size (part_is i h) + floor w i h ≡ suc i
  unfolding stacked floor size part_of
  part-size i Stop e o k = omega arith
  part-size i (Go t v p) e o k = omega (arith, k p (go-fine w i t v p o).first.lesser, eqb-true (suc p) i e)
  part-size i (Out c t v p q) e o k =
      let a = and-inv (eqb (suc p) i) _ e in
      let r = out-fine w i c t v p q o in
      omega (arith, k p r.first.lesser, k q r.second.lesser, eqb-true (suc p) i a.0, eqb-true (suc q) (low_at w p) a.1)
  part-size i (In c t y p q) e o k =
      let a = and-inv (eqb (suc p) i) _ e in
      let r = in-fine w i c t y p q o in
      omega (arith, k p r.first.lesser, k q r.second.lesser, eqb-true (suc p) i a.0, eqb-true (suc q) (low_at w p) a.1)
  part-size i (Call d n) e o k = omega arith

  join-size : (i f : ℕ) (a : Part) (n : ℕ) → size a + f ≡ suc i → low_ok w (low_at w i) f n ≡ true → next_ok w i n ≡ true → ((j : ℕ) → j < i → size_p (P j) + low_at w j ≡ suc j) → size_p (joined P a n) + low_at w i ≡ suc i
  unfolding size_p joined low_ok next_ok
  join-size i f a zero h e o k = omega (arith, eqb-true (low_at w i) f e)
  join-size i f a (suc j) h e o k = let b = and-inv (eqb (suc j) f) _ e in omega (arith, k j (inner w i j _ o).lesser, eqb-true (suc j) f b.0, eqb-true (low_at w i) (low_at w j) b.1)

  module _ (good : script_ok w ≡ true) where
    sizes : (n i : ℕ) → i < n → i < parts_in w → size_p (P i) + low_at w i ≡ suc i
    unfolding tree_ok part_at
    sizes zero i h b = absurd (omega arith)
    sizes (suc n) i h b =
        let r = part-fine w good i b in
        let t = and-inv (stacked w i (head_at w i)) _ r.tree in
        let k : (j : ℕ) → j < i → size_p (P j) + low_at w j ≡ suc j = λ j l. sizes n j (omega arith) (omega arith) in
        rw (process-is w good i b) (join-size i (floor w i (head_at w i)) (part_at w i) (next_at w i) (part-size i (head_at w i) t.0 r.head k) t.1 r.next k)

    pub term-size : (i : ℕ) → i < parts_in w → size_p (process_at w i) + low_at w i ≡ suc i
    term-size i b = sizes (suc i) i (omega arith) b
