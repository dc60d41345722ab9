-- Names and scopes as the words of rows have them: how long a scope is, and what stands at a slot.
-- By the eight words that hold a scope, of which the first n are in use.
use Prim.Native.Nat.{ℕ, zero, suc, ◌+◌, ◌*◌, ◌≤◌, ◌<◌}
use native.Mathlib.Nat.{mul-le-mul}
use native.Mathlib.Omega.{arith}
use mathlib.Core.List.{List, [], ◌∷◌, map}
use mathlib.Core.Bool.{Bool, true, false, cond}
use mathlib.Core.Path.{◌≡◌, refl, ap, ◌∙◌}
use lib.Dec.{leb}
use lib.ListN.{length, get_or, take}
use lib.Seq.{length-take-le, get_or-take}
use borrow.Author.Tests.{leb-true}
use Rattle.terms.specs.Names.{Name}
use Rattle.table.specs.Words.{field, at_most8, scope_at, row_size, count_field, slot_field}
use Rattle.table.specs.Tests.{slots}

-- the distance of a name from the first
pub row_near : (s n j : ℕ) → s ≤ row_size → n ≤ 64 → j < n → j * s ≤ 1_536
row_near s n j h k b = let d : j ≤ 64 = omega arith in mul-le-mul {n₁ = j} {m₁ = s} {n₂ = 64} {m₂ = 24} d h

-- ── the eight words ──
pub slots_at : (w : List ℕ) (i k : ℕ) → k < 8 → get_or (slots w i) k 0 ≡ field w i (slot_field + k)
unfolding slots
slots_at w i zero h = refl
slots_at w i (suc zero) h = refl
slots_at w i (suc (suc zero)) h = refl
slots_at w i (suc (suc (suc zero))) h = refl
slots_at w i (suc (suc (suc (suc zero)))) h = refl
slots_at w i (suc (suc (suc (suc (suc zero))))) h = refl
slots_at w i (suc (suc (suc (suc (suc (suc zero)))))) h = refl
slots_at w i (suc (suc (suc (suc (suc (suc (suc zero))))))) h = refl
slots_at w i (suc (suc (suc (suc (suc (suc (suc (suc k)))))))) h = absurd (omega arith)

pub slots_length : (w : List ℕ) (i : ℕ) → length (slots w i) ≡ 8
unfolding slots
slots_length w i = refl

pub front_length : (w : List ℕ) (i n : ℕ) → n ≤ 8 → length (take n (slots w i)) ≡ n
front_length w i n h = length-take-le n (slots w i) (omega (arith, slots_length w i))

pub front_at : (w : List ℕ) (i n k : ℕ) → n ≤ 8 → k < n → get_or (take n (slots w i)) k 0 ≡ field w i (slot_field + k)
front_at w i n k h b = get_or-take n (slots w i) k 0 b ∙ slots_at w i k (omega arith)

-- ── a scope ──
pub at_most : (n : ℕ) → at_most8 n ≤ 8
at_most n = go (leb n 8) refl
  where
    go : (b : Bool) → leb n 8 ≡ b → cond b n 8 ≤ 8
    go true e = leb-true n 8 e
    go false e = omega arith

pub any-scope : (w : List ℕ) (p : ℕ) → scope_at w p ≡ take (at_most8 (field w p count_field)) (slots w p)
unfolding scope_at slots
any-scope w p = refl

pub any-length : (w : List ℕ) (p : ℕ) → length (scope_at w p) ≡ at_most8 (field w p count_field)
any-length w p = ap length (any-scope w p) ∙ front_length w p (at_most8 (field w p count_field)) (at_most (field w p count_field))

pub map_at : (f : ℕ → Name) (xs : List ℕ) (k : ℕ) → k < length xs → get_or (map f xs) k [] ≡ f (get_or xs k 0)
map_at f [] k b = absurd (omega arith)
map_at f (x ∷ xs) zero b = refl
map_at f (x ∷ xs) (suc k) b = map_at f xs k (omega arith)
