-- Names that stand at equal distances: what has been shown of each of them, or of a pair, is shown of their list.
-- By the laws of loops, at the list of f of each number below n.
use Prim.Native.Nat.{ℕ, zero, suc, ◌+◌, ◌-◌, ◌%◌, ◌<◌}
use native.Mathlib.Omega.{arith}
use native.Mathlib.Numerals.{add-one}
use mathlib.Core.List.{List, []}
use mathlib.Core.Bool.{Bool, true, false, not, ◌&&◌}
use mathlib.Core.Path.{◌≡◌, refl, ap, ap₂, sym, ◌∙◌}
use lib.Bits.{bit_xor}
use lib.Dec.{eqb}
use lib.ListN.{length, get_or, set, drop, length-drop}
use lib.Seq.{get_or-drop, get_or-set_same, get_or-set_other}
use borrow.Author.Tests.{eqb-true, eqb-false}
use Rattle.terms.specs.Names.{Name, same_name}
use Rattle.std.specs.List.{list_all, list_any, range_with_len}
use Rattle.terms.specs.Rules.{some}
use Rattle.terms.specs.Same.{every}
use Rattle.terms.proofs.Names.{name-eq}
use Rattle.terms.specs.Letters.{member, distinct}
use Rattle.table.specs.Meaning.{list_from}
use Rattle.table.proofs.Ranges.{some-range}
use Rattle.table.proofs.Stores.{drop-from}
use Rattle.table_names.specs.Tests.{Mixed, Noted}
use Rattle.table.proofs.Names.{Words, key-injective}
use Rattle.table.proofs.ValidLists.{every-all, every-miss, member-hit, member-none, distinct-all, distinct-miss, list_from-length, list_from-at}

module _ (n : ℕ) (f : ℕ → Name) where
  row_at : (j : ℕ) → j < n → get_or (list_from 0 n f) j [] ≡ f j
  row_at j b = list_from-at 0 n f j [] b ∙ ap f (omega arith)

  -- ── each ──
  pub rows_all : (g : Name → Bool) → ((j : ℕ) → j < n → g (f j) ≡ true) → every g (list_from 0 n f) ≡ true
  rows_all g h =
      every-all g [] (list_from 0 n f) (λ j b. let c : j < n = omega (arith, list_from-length 0 n f) in ap g (row_at j c) ∙ h j c)

  pub rows-miss : (g : Name → Bool) (j : ℕ) → j < n → g (f j) ≡ false → every g (list_from 0 n f) ≡ false
  rows-miss g j b e = every-miss g [] (list_from 0 n f) j (omega (arith, list_from-length 0 n f)) (ap g (row_at j b) ∙ e)

  -- ── one of those after it ──
  later : (i k : ℕ) → k < length (drop (i + 1) (list_from 0 n f)) → i + 1 + k < n
  later i k b = omega (arith, length-drop (i + 1) (list_from 0 n f), list_from-length 0 n f)

  later-at : (i k : ℕ) → i + 1 + k < n → get_or (drop (i + 1) (list_from 0 n f)) k [] ≡ f (i + 1 + k)
  later-at i k b = get_or-drop (i + 1) (list_from 0 n f) k [] ∙ row_at (i + 1 + k) b

  pub again-hit : (x : Name) (i j : ℕ) → i < j → j < n → same_name x (f j) ≡ true → member x (drop (i + 1) (list_from 0 n f)) ≡ true
  again-hit x i j h b e =
      member-hit x (drop (i + 1) (list_from 0 n f)) (j - (i + 1)) (omega (arith, length-drop (i + 1) (list_from 0 n f), list_from-length 0 n f))
      (ap (same_name x) (later-at i (j - (i + 1)) (omega arith) ∙ ap f (omega arith)) ∙ e)

  pub again-none : (x : Name) (i : ℕ) → ((j : ℕ) → j < n → i < j → same_name x (f j) ≡ false)
      → member x (drop (i + 1) (list_from 0 n f)) ≡ false
  again-none x i h =
      member-none x (drop (i + 1) (list_from 0 n f))
      (λ k b. let c = later i k b in ap (same_name x) (later-at i k c) ∙ h (i + 1 + k) c (omega arith))

  -- ── each once ──
  apart-at : (k : ℕ) → k < n → (t : Bool) → member (f k) (drop (k + 1) (list_from 0 n f)) ≡ t
      → member (get_or (list_from 0 n f) k []) (drop (suc k) (list_from 0 n f)) ≡ t
  apart-at k b t e = ap (λ x. member x (drop (suc k) (list_from 0 n f))) (row_at k b) ∙ ap (λ m. member (f k) (drop m (list_from 0 n f))) (sym (add-one k)) ∙ e

  pub apart-all : ((k : ℕ) → k < n → member (f k) (drop (k + 1) (list_from 0 n f)) ≡ false) → distinct (list_from 0 n f) ≡ true
  apart-all h =
      distinct-all (list_from 0 n f) (λ k b. let c : k < n = omega (arith, list_from-length 0 n f) in apart-at k c false (h k c))

  pub apart-miss : (k : ℕ) → k < n → member (f k) (drop (k + 1) (list_from 0 n f)) ≡ true → distinct (list_from 0 n f) ≡ false
  apart-miss k b e = distinct-miss (list_from 0 n f) k (omega (arith, list_from-length 0 n f)) (apart-at k b true e)

-- ── the same, as the library says it of a range ──
module _ (f : ℕ → Name) where
  pub again-range : (x : Name) (n i : ℕ) → list_any (λ j. same_name x (f j)) (range_with_len (i + 1) (n - (i + 1))) ≡ member x (drop (i + 1) (list_from 0 n f))
  unfolding member
  again-range x n i =
      sym (some-range (same_name x) (i + 1) (n - (i + 1)) f)
      ∙ ap (some (same_name x)) (sym (drop-from 0 n (i + 1) f ∙ ap (λ k. list_from k (n - (i + 1)) f) (omega arith)))

  -- m is where the range ends
  distinct-range : (k n m : ℕ) → k + n ≡ m → list_all (λ i. not (member (f i) (list_from (i + 1) (m - (i + 1)) f))) (range_with_len k n) ≡ distinct (list_from k n f)
  unfolding distinct list_from
  distinct-range k zero m e = refl
  distinct-range k (suc n) m e =
      let d : m - (k + 1) ≡ n = omega arith in
      ap₂ (λ l b. not (member (f k) l) && b) (ap (λ j. list_from (k + 1) j f) d ∙ ap (λ j. list_from j n f) (add-one k)) (distinct-range (k + 1) n m (omega arith) ∙ ap (λ j. distinct (list_from j n f)) (add-one k))

  pub apart-range : (n : ℕ) → list_all (λ i. not (member (f i) (drop (i + 1) (list_from 0 n f)))) (range_with_len 0 n) ≡ distinct (list_from 0 n f)
  apart-range n =
      let p : (i : ℕ) → not (member (f i) (drop (i + 1) (list_from 0 n f))) ≡ not (member (f i) (list_from (i + 1) (n - (i + 1)) f))
      = λ i. ap (λ l. not (member (f i) l)) (drop-from 0 n (i + 1) f ∙ ap (λ k. list_from k (n - (i + 1)) f) (omega arith)) in
      ap (λ g. list_all g (range_with_len 0 n)) (λ t i. p i t) ∙ distinct-range 0 n n (omega arith)

-- ── a number for each name ──
pub mixed-apart : {x y : Name} {m n : ℕ} → Mixed x m → Mixed y n → (n ≡ m → ⊥) → same_name x y ≡ false
mixed-apart {x} {y} {m} {n} p q d = go (same_name x y) refl
  where
    words : {z : Name} {k : ℕ} (h : Mixed z k) → Words h.key
    words h = record { wa = h.small.0; wb = h.small.1; wc = h.small.2; wd = h.small.3 }

    go : (t : Bool) → same_name x y ≡ t → t ≡ false
    go true e =
        let z : p.key ≡ q.key = key-injective p.key q.key (words p) (words q) (p.name ∙ name-eq x y e ∙ sym q.name) in
        absurd (d (q.mix ∙ ap (λ k. bit_xor (bit_xor (bit_xor k.a k.b) k.c) k.d % 1_013) (sym z) ∙ sym p.mix))
    go false e = refl

pub noted_here : (seen : List ℕ) (x : Name) (h : ℕ) → length seen ≡ 1_013 → Mixed x h → Noted (set seen h 1) x
noted_here seen x h n m = record { at = h; mixed = m; one = get_or-set_same seen h 1 0 (omega (arith, m.below)) }

pub noted-still : (seen : List ℕ) (x : Name) (h : ℕ) → length seen ≡ 1_013 → Noted seen x → Noted (set seen h 1) x
noted-still seen x h n m = record { at = m.at; mixed = m.mixed; one = go (eqb m.at h) refl }
  where
    go : (t : Bool) → eqb m.at h ≡ t → get_or (set seen h 1) m.at 0 ≡ 1
    go true e =
        let f = eqb-true m.at h e in
        ap (λ k. get_or (set seen h 1) k 0) f ∙ get_or-set_same seen h 1 0 (omega (arith, m.mixed.below))
    go false e = get_or-set_other seen h m.at 1 0 (eqb-false m.at h e) ∙ m.one
