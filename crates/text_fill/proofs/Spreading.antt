-- Elements gathered in an array, one after the other.
use Prim.Native.Nat.{ℕ, ◌+◌, ◌≤◌, ◌<◌, min}
use native.Mathlib.Omega.{arith}
use native.Mathlib.Numerals.{add-one}
use mathlib.Core.Bool.{Bool, true, false, cond}
use mathlib.Core.List.{List, [], ◌∷◌, ◌++◌, append_assoc, append-nil}
use mathlib.Core.Path.{◌≡◌, refl, ap, ◌∙◌}
use borrow.Author.Tests.{lt-ltb, le-ltb, ltb-true, ltb-false}
use lib.Dec.{ltb}
use lib.ListN.{length, take, set, length-set, length-append}
use lib.Seq.{take-suc-set}
use Rattle.text_fill.specs.Spread.{spread, Spread}

module _ {A : Type 0} where
  pub spread-here : (out : List A) (n : ℕ) (x : A) → n < length out → Spread out (set out n x) n (n + 1) (x ∷ [])
  unfolding spread
  spread-here out n x h = record { after = rw (lt-ltb n (length out) h); count = omega arith }

  pub spread-full : (out : List A) (n : ℕ) (x : A) → n ≤ length out → length out ≤ n → Spread out out n n (x ∷ [])
  unfolding spread
  spread-full out n x h k = record { after = rw (le-ltb n (length out) k); count = omega arith }

  pub spread-length : (xs out : List A) (n : ℕ) → length (spread out n xs) ≡ length out
  unfolding spread
  spread-length [] out n = refl
  spread-length (x ∷ xs) out n = go (ltb n (length out)) (spread-length xs (set out n x) (n + 1))
    where
      go : (b : Bool) → length (spread (set out n x) (n + 1) xs) ≡ length (set out n x) → length (cond b (spread (set out n x) (n + 1) xs) out) ≡ length out
      go true e = e ∙ length-set out n x
      go false e = refl

  -- nothing goes into a full array
  spread-over : (xs out : List A) (n : ℕ) → length out ≤ n → spread out n xs ≡ out
  unfolding spread
  spread-over [] out n h = refl
  spread-over (x ∷ xs) out n h = rw (le-ltb n (length out) h)

  spread-append : (xs ys out : List A) (n : ℕ) → n ≤ length out → spread (spread out n xs) (min (n + length xs) (length out)) ys ≡ spread out n (xs ++ ys)
  unfolding spread
  spread-append [] ys out n h = let e : min (n + 0) (length out) ≡ n = omega arith in rw e
  spread-append (x ∷ xs) ys out n h = go (ltb n (length out)) refl (λ f. spread-append xs ys (set out n x) (n + 1) f)
    where
      go : (b : Bool) → ltb n (length out) ≡ b → (n + 1 ≤ length (set out n x) → spread (spread (set out n x) (n + 1) xs) (min (n + 1 + length xs) (length (set out n x))) ys ≡ spread (set out n x) (n + 1) (xs ++ ys)) → spread (cond b (spread (set out n x) (n + 1) xs) out) (min (n + length (x ∷ xs)) (length out)) ys ≡ cond b (spread (set out n x) (n + 1) (xs ++ ys)) out
      go true e f =
          let k = ltb-true n (length out) e in
          let l = length-set out n x in
          let m : min (n + length (x ∷ xs)) (length out) ≡ min (n + 1 + length xs) (length (set out n x)) = omega arith in
          ap (λ q. spread (spread (set out n x) (n + 1) xs) q ys) m ∙ f (omega arith)
      go false e f = let k = ltb-false n (length out) e in spread-over ys out (min (n + length (x ∷ xs)) (length out)) (omega arith)

  -- one run after the other is one run
  pub spread-then : {out u v : List A} {n m r : ℕ} {xs ys : List A} → n ≤ length out → Spread out u n m xs → Spread u v m r ys → Spread out v n r (xs ++ ys)
  spread-then {out} {u} {v} {n} {m} {r} {xs} {ys} h f g =
      let l : length u ≡ length out = ap length f.after ∙ spread-length xs out n in
      record {
        after = g.after ∙ ap (λ z. spread z m ys) f.after ∙ ap (λ z. spread (spread out n xs) z ys) f.count ∙ spread-append xs ys out n h;
        count = g.count ∙ let k = f.count in let q = length-append xs ys in omega arith;
      }

  pub spread_none : (out : List A) (n : ℕ) → n ≤ length out → Spread out out n n []
  unfolding spread
  spread_none out n h = record { after = refl; count = omega arith }

  pub spread-within : {out v : List A} {n r : ℕ} {xs : List A} → Spread out v n r xs → r ≤ length v
  spread-within {out} {v} {n} {r} {xs} f = let l : length v ≡ length out = ap length f.after ∙ spread-length xs out n in let k = f.count in omega arith

  -- with space for all, they stand there
  all-spread : (xs out : List A) (n : ℕ) → n + length xs ≤ length out → take (n + length xs) (spread out n xs) ≡ take n out ++ xs
  unfolding spread
  all-spread [] out n h = let e : n + 0 ≡ n = omega arith in rw (e, append-nil)
  all-spread (x ∷ xs) out n h =
      let l = length-set out n x in
      let e : n + length (x ∷ xs) ≡ n + 1 + length xs = omega arith in
      rw (lt-ltb n (length out) (omega arith), e) (all-spread xs (set out n x) (n + 1) (omega arith) ∙ ap (λ z. z ++ xs) (ap (λ m. take m (set out n x)) (add-one n) ∙ take-suc-set out n x (omega arith)) ∙ append_assoc (take n out) (x ∷ []) xs)

  pub spread-all : {out v : List A} {r : ℕ} {xs : List A} → length xs ≤ length out → Spread out v 0 r xs → (take r v ≡ xs) × (r ≡ length xs)
  spread-all {out} {v} {r} {xs} h f =
      let e : r ≡ 0 + length xs = f.count ∙ omega arith in
      (ap (λ z. take r z) f.after ∙ ap (λ z. take z (spread out 0 xs)) e ∙ all-spread xs out 0 (omega arith), e ∙ omega arith)
