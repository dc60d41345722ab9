-- Words after a run of stores: those stored, and the others as they were. By induction on the run.
use Prim.Native.Nat.{ℕ, suc, ◌+◌, ◌*◌, ◌≤◌, ◌<◌}
use native.Mathlib.Omega.{arith}
use mathlib.Core.List.{List, [], ◌∷◌, ◌++◌}
use mathlib.Core.Path.{◌≡◌, refl, ap, sym, ◌∙◌}
use lib.ListN.{length, set, length-set}
use lib.Seq.{sets, length-sets}
use Rattle.text_build.specs.Growth.{Frame}
use Rattle.table.proofs.Stores.{set_out, sets-under, sets-past}
use Rattle.table.specs.Words.{row_size, locs_at, parts_at}

-- ── frames ──
pub frame-none : (w : List ℕ) (low i : ℕ) → Frame w w low i
frame-none w low i = record { long = refl; parts = refl; defs = refl; between = λ o h k. refl; under = λ o h k. refl; above = λ o h. refl }

-- one write after the other
pub frame_then : {w v u : List ℕ} {low₁ i₁ low₂ i₂ : ℕ} (low i : ℕ) → Frame w v low₁ i₁ → Frame v u low₂ i₂ → low ≤ low₁ → low ≤ low₂ → i₁ ≤ i → i₂ ≤ i → Frame w u low i
frame_then low i f g a b c d = record {
  long = g.long ∙ f.long;
  parts = g.parts ∙ f.parts;
  defs = g.defs ∙ f.defs;
  between = λ o h k. g.between o h k ∙ f.between o h k;
  under = λ o h k. g.under o h (omega arith) ∙ f.under o h (omega arith);
  above = λ o h. g.above o (omega arith) ∙ f.above o (omega arith);
}

-- some words of the row at i
pub frame_row : (w : List ℕ) (i k : ℕ) (vs : List ℕ) → k + length vs ≤ row_size → Frame w (sets w (parts_at + i * row_size + k) vs) i i
frame_row w i k vs h = record {
  long = length-sets w (parts_at + i * row_size + k) vs;
  parts = sets-under vs w (parts_at + i * row_size + k) 0 (omega arith);
  defs = sets-under vs w (parts_at + i * row_size + k) 3 (omega arith);
  between = λ o a b. sets-under vs w (parts_at + i * row_size + k) o (omega arith);
  under = λ o a b. sets-under vs w (parts_at + i * row_size + k) o (omega arith);
  above = λ o a. sets-past vs w (parts_at + i * row_size + k) o (omega arith);
}

-- words of the tables of names, of their counts, and of the mark of a name too many
pub frame-names : (w : List ℕ) (o : ℕ) (vs : List ℕ) (low i : ℕ) → locs_at ≤ o → o + length vs ≤ parts_at → Frame w (sets w o vs) low i
frame-names w o vs low i a b = record {
  long = length-sets w o vs;
  parts = sets-under vs w o 0 (omega arith);
  defs = sets-under vs w o 3 (omega arith);
  between = λ x h k. sets-under vs w o x (omega arith);
  under = λ x h k. sets-past vs w o x (omega arith);
  above = λ x h. sets-past vs w o x (omega arith);
}

pub frame-count : (w : List ℕ) (at a : ℕ) (low i : ℕ) → at < 8 → (at ≡ 0 → ⊥) → (at ≡ 3 → ⊥) → Frame w (set w at a) low i
frame-count w at a low i h p q = record {
  long = length-set w at a;
  parts = set_out w at 0 a (λ e. p (sym e));
  defs = set_out w at 3 a (λ e. q (sym e));
  between = λ x k l. set_out w at x a (λ e. omega arith);
  under = λ x k l. set_out w at x a (λ e. omega arith);
  above = λ x k. set_out w at x a (λ e. omega arith);
}

-- one run after the other is one run
pub sets-append : (xs ys l : List ℕ) (i n : ℕ) → i + length xs ≡ n → sets (sets l i xs) n ys ≡ sets l i (xs ++ ys)
sets-append [] ys l i n e = let q : n ≡ i = omega arith in ap (λ k. sets l k ys) q
sets-append (x ∷ xs) ys l i n e = sets-append xs ys (set l i x) (suc i) n (omega arith)
