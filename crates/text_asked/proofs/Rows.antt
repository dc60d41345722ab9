-- The tests of questions 5, 6 and 7 at one definition or part, by the head of the part that the code reads; of a definition with over four parameters the
-- script holds four.
use Prim.Native.Nat.{ℕ, zero, suc, ◌+◌, ◌*◌, ◌≤◌, min}
use native.Mathlib.Omega.{arith}
use mathlib.Core.List.{List, [], ◌∷◌}
use mathlib.Core.Bool.{Bool, true, false}
use mathlib.Core.Logic.{◌⊎◌, inl, inr}
use mathlib.Core.Path.{◌≡◌, refl}
use borrow.Author.Tests.{leb-true, leb-false}
use lib.Dec.{leb}
use lib.ListN.{take}
use lib.Seq.{take_all}
use Rattle.std.specs.List.{list_all, range_with_len}
use Rattle.terms.specs.Same.{every}
use Rattle.table.specs.declared.Head.{Head}
use Rattle.table.specs.declared.Head.TheVariants.{Stop, Go, Out, In, Call}
use Rattle.table.specs.Words.{row_size, arity_of, params_at, params_of, first_param, fourth_param, name_size, second_param, third_param}
use Rattle.table.specs.Meaning.{list_from}
use Rattle.table.specs.Tests.{row_name}
use Rattle.table.proofs.ValidDefs.{params-names}
use Rattle.text_tree.specs.Asked.{call_held, in_scope, values_bound}

-- ── 6 ──
pub held-other : (w : List ℕ) (h : Head) → ((d n : ℕ) → h ≡ Call d n → ⊥) → call_held w h ≡ true
unfolding call_held
held-other w Stop n = refl
held-other w (Go t v p) n = refl
held-other w (Out c t v p q) n = refl
held-other w (In c t k p q) n = refl
held-other w (Call d m) n = absurd (n d m refl)

-- ── 7 ──
-- the first m of four, as those below m and 4
pub front-range : (t : ℕ → Bool) (g : ℕ → ℕ) (m n : ℕ) → n ≡ min m 4 → list_all (λ k. t (g k)) (range_with_len 0 n) ≡ every t (take m (g 0 ∷ g 1 ∷ g 2 ∷ g 3 ∷ []))
unfolding every
front-range t g m zero e = let q : m ≡ 0 = omega arith in rw q
front-range t g m (suc zero) e = let q : m ≡ 1 = omega arith in rw q
front-range t g m (suc (suc zero)) e = let q : m ≡ 2 = omega arith in rw q
front-range t g m (suc (suc (suc zero))) e = let q : m ≡ 3 = omega arith in rw q
front-range t g m (suc (suc (suc (suc zero)))) e = rw (take_all m (g 0 ∷ g 1 ∷ g 2 ∷ g 3 ∷ []) (omega arith))
front-range t g m (suc (suc (suc (suc (suc n))))) e = absurd (omega arith)

pub bound-value : (w : List ℕ) (i n v : ℕ) (h : Head) → ((t : ℕ) × (p : ℕ) × (h ≡ Go t v p)) ⊎ ((c : ℕ) × (t : ℕ) × (p : ℕ) × (q : ℕ) × (h ≡ Out c t v p q))
    → in_scope n v ≡ values_bound w i n h
unfolding values_bound
bound-value w i n v h (inl x) = rw x.2
bound-value w i n v h (inr x) = rw x.4

pub bound-other : (w : List ℕ) (i n : ℕ) (h : Head) → ((t v p : ℕ) → h ≡ Go t v p → ⊥) → ((c t v p q : ℕ) → h ≡ Out c t v p q → ⊥) → ((d m : ℕ) → h ≡ Call d m → ⊥)
    → values_bound w i n h ≡ true
unfolding values_bound
bound-other w i n Stop a b c = refl
bound-other w i n (Go t v p) a b c = absurd (a t v p refl)
bound-other w i n (Out d t v p q) a b c = absurd (b d t v p q refl)
bound-other w i n (In d t k p q) a b c = refl
bound-other w i n (Call d m) a b c = absurd (c d m refl)

-- ── 5 ──
-- four parameters, where the script says more
params-four : (w : List ℕ) (d : ℕ) → 4 ≤ arity_of w d → params_of w d ≡ list_from 0 4 (row_name w (first_param + d * row_size) 4)
unfolding params_of params_at row_name list_from
params-four w d h =
    let e₀ : first_param + d * row_size + 0 * name_size ≡ first_param + d * row_size = omega arith in
    let e₁ : first_param + d * row_size + 1 * name_size ≡ second_param + d * row_size = omega arith in
    let e₂ : first_param + d * row_size + 2 * name_size ≡ third_param + d * row_size = omega arith in
    let e₃ : first_param + d * row_size + 3 * name_size ≡ fourth_param + d * row_size = omega arith in
    rw (take_all (arity_of w d) ((first_param + d * row_size) ∷ (second_param + d * row_size) ∷ (third_param + d * row_size) ∷ (fourth_param + d * row_size) ∷ []) h, e₀, e₁, e₂, e₃)

pub params-min : (w : List ℕ) (d n : ℕ) → n ≡ min (arity_of w d) 4 → params_of w d ≡ list_from 0 n (row_name w (first_param + d * row_size) 4)
params-min w d n e = go (leb 4 (arity_of w d)) refl
  where
    go : (b : Bool) → leb 4 (arity_of w d) ≡ b → params_of w d ≡ list_from 0 n (row_name w (first_param + d * row_size) 4)
    go true l = let k = leb-true 4 (arity_of w d) l in let m : n ≡ 4 = omega arith in rw m (params-four w d k)
    go false l = let k = leb-false 4 (arity_of w d) l in params-names w d n (omega arith) (omega arith)
