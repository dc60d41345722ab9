-- The first words of a list are written, and the others stay: zeros in front of a script; and a script put back as it was.
use Prim.Native.Nat.{ℕ, ◌+◌, ◌-◌, ◌*◌, ◌≤◌, ◌<◌}
use native.Mathlib.Omega.{arith}
use mathlib.Core.Bool.{Bool, true, false}
use mathlib.Core.List.{List, ◌++◌}
use mathlib.Core.Path.{◌≡◌, refl, ap, ◌∙◌}
use lib.Dec.{ltb}
use lib.ListN.{length, take, drop, replicate, length-replicate, get_or-replicate, length-append, length-drop, get_or-append}
use lib.Seq.{length-take-le, get_or-take, ext_get_or, get_or-append-add}
use Rattle.std.proofs.lemmas.List.{get_or-drop}
use borrow.Author.Tests.{ltb-true, ltb-false}
use Rattle.table.specs.Words.{row_size, parts_at, script_words, word}
use Rattle.text_tree.specs.Pass.{Blank}

-- v is w with the words of f in front, m of them
pub record Front (m : ℕ) (f : ℕ → ℕ) (w v : List ℕ) : Type 0 where
  pub front : (o : ℕ) → o < m → word v o ≡ f o
  pub rest : (o : ℕ) → m ≤ o → word v o ≡ word w o
  pub size : length v ≡ length w

-- the words in front are written over by xs
pub front_over : (m : ℕ) (f : ℕ → ℕ) (w xs : List ℕ) → length xs ≡ m → m ≤ length w → ((o : ℕ) → o < m → word xs o ≡ f o) → Front m f w (xs ++ drop m w)
front_over m f w xs e b g = record {
  front = λ o h. get_or-append xs (drop m w) 0 o (omega arith) ∙ g o h;
  rest = λ o h.
      let z : o ≡ length xs + (o - m) = omega arith in
      let y : m + (o - m) ≡ o = omega arith in
      ap (word (xs ++ drop m w)) z ∙ get_or-append-add xs (drop m w) (o - m) 0 ∙ get_or-drop m w (o - m) 0 ∙ ap (word w) y;
  size = length-append xs (drop m w) ∙ omega (arith, length-drop m w);
}

-- by zeros, and by the first words of another list
pub front_zeros : (m : ℕ) (w xs : List ℕ) → xs ≡ replicate (length (take m w)) 0 → m ≤ length w → Front m (λ o. 0) w (xs ++ drop m w)
front_zeros m w xs e b =
    let l = length-take-le m w b in
    front_over m (λ o. 0) w xs (ap length e ∙ length-replicate {A = ℕ} (length (take m w)) 0 ∙ l) b (λ o h. ap (λ x. word x o) e ∙ get_or-replicate (length (take m w)) o 0 0 (omega (arith, l)))

pub front_copy : (m : ℕ) (u w xs : List ℕ) → xs ≡ take m u → m ≤ length u → m ≤ length w → Front m (word u) w (xs ++ drop m w)
front_copy m u w xs e a b =
    front_over m (word u) w xs (ap length e ∙ length-take-le m u a) b (λ o h. ap (λ x. word x o) e ∙ get_or-take m u o 0 h)

-- ── zeros ──
pub front-blank : (m n : ℕ) (w v : List ℕ) → length w ≡ script_words → parts_at + n * row_size ≤ m → Front m (λ o. 0) w v → Blank v n
front-blank m n w v e b p = record { long = p.size ∙ e; none = λ o h. p.front o (omega arith) }

-- ── put back ──
pub back-again : (m : ℕ) (w v k₀ k x : List ℕ) → Front m (word w) k₀ k → ((o : ℕ) → m ≤ o → word v o ≡ word w o) → length v ≡ length w → Front m (word k) v x → x ≡ w
back-again m w v k₀ k x a b c d = ext_get_or 0 x w (d.size ∙ c) (λ o h. go o (ltb o m) refl)
  where
    go : (o : ℕ) (t : Bool) → ltb o m ≡ t → word x o ≡ word w o
    go o true q = let h = ltb-true o m q in d.front o h ∙ a.front o h
    go o false q = let h = ltb-false o m q in d.rest o h ∙ b o h
