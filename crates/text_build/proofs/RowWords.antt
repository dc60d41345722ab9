-- The words of a row after a write, and what a row written by `row_of` holds once its Q, its next part and its least place are set.
-- By where the words lie, and by computing the head of each kind.
use Prim.Native.Nat.{ℕ, ◌+◌, ◌-◌, ◌*◌, ◌≤◌, ◌<◌}
use native.Mathlib.Omega.{arith}
use mathlib.Core.List.{List, [], ◌∷◌, ◌++◌}
use mathlib.Core.Bool.{Bool, true, false, cond}
use mathlib.Core.Path.{◌≡◌, refl, ap, sym, ◌∙◌}
use borrow.Author.Tests.{ltb-true, ltb-false, le-leb}
use lib.Dec.{eqb, leb, ltb}
use lib.ListN.{length, get_or, take}
use lib.Seq.{sets, get_or-append-add}
use Rattle.table.specs.declared.Head.{Head}
use Rattle.table.specs.declared.Head.TheVariants.{Stop, Go, Out, In, Call}
use Rattle.table.specs.Words.{row_size, parts_at, word, field, head_at, next_at, low_at, scope_at, arg_words, count_field, first_field, kind_field, low_field, name_field, next_field, second_field, timer_field, value_field}
use Rattle.text_build.specs.declared.Scope.{Scope}
use Rattle.text_build.specs.Growth.{Frame}
use Rattle.text_build.specs.Rows.{Row, of_call}
use Rattle.text_build.specs.Put.{offsets}
use Rattle.table.proofs.Stores.{sets-under, sets-past, sets-in}

-- the row at i holds the words r
abbrev pub RowIs : List ℕ → ℕ → List ℕ → Type 0
RowIs w i r = (k : ℕ) → k < row_size → field w i k ≡ get_or r k 0

-- j lies below k or not
pub side : {A : Type 0} (j k : ℕ) → (j < k → A) → (k ≤ j → A) → A
side {A = A} j k x y = go (ltb j k) refl
  where
    go : (b : Bool) → ltb j k ≡ b → A
    go true e = x (ltb-true j k e)
    go false e = y (ltb-false j k e)

-- some words of the row are written
pub row-after : (w : List ℕ) (i : ℕ) (r : List ℕ) (k : ℕ) (vs : List ℕ) → RowIs w i r → length r ≡ row_size → k + length vs ≤ row_size → parts_at + i * row_size + row_size ≤ length w
    → RowIs (sets w (parts_at + i * row_size + k) vs) i (sets r k vs)
row-after w i r k vs e n h b j l =
    side j k
    (λ u. sets-under vs w (parts_at + i * row_size + k) (parts_at + i * row_size + j) (omega arith) ∙ e j l ∙ sym (sets-under vs r k j u))
    (λ u. side j (k + length vs)
    (λ z.
    let p : parts_at + i * row_size + j ≡ parts_at + i * row_size + k + (j - k) = omega arith in
    let q : j ≡ k + (j - k) = omega arith in
    ap (word (sets w (parts_at + i * row_size + k) vs)) p ∙ sets-in vs w (parts_at + i * row_size + k) (j - k) (omega arith) (omega arith)
    ∙ sym (ap (word (sets r k vs)) q ∙ sets-in vs r k (j - k) (omega arith) (omega arith)))
    (λ z. sets-past vs w (parts_at + i * row_size + k) (parts_at + i * row_size + j) (omega arith) ∙ e j l ∙ sym (sets-past vs r k j z)))

-- a whole row
pub row_new : (w : List ℕ) (i : ℕ) (r : List ℕ) → length r ≡ row_size → parts_at + i * row_size + row_size ≤ length w → RowIs (sets w (parts_at + i * row_size + kind_field) r) i r
row_new w i r n b j l =
    let p : parts_at + i * row_size + j ≡ parts_at + i * row_size + kind_field + j = omega arith in
    ap (word (sets w (parts_at + i * row_size + kind_field) r)) p ∙ sets-in r w (parts_at + i * row_size + kind_field) j (omega arith) (omega arith)

-- rows below are written
pub row_kept : (w v : List ℕ) (low j i : ℕ) (r : List ℕ) → Frame w v low j → j < i → RowIs w i r → RowIs v i r
row_kept w v low j i r f h e k l = f.above (parts_at + i * row_size + k) (omega arith) ∙ e k l

-- ── what a row holds ──
pub record Eight (sc : Scope) : Type 0 where
  pub few : sc.n ≤ 8
  pub slots : length sc.at ≡ 8

-- a row of the kind k with its Q, next part and least place
abbrev pub full : ℕ → ℕ → ℕ → ℕ → ℕ → ℕ → ℕ → ℕ → Scope → List ℕ → List ℕ
full k c t v p q n l sc xs = k ∷ c ∷ t ∷ v ∷ p ∷ q ∷ n ∷ l ∷ sc.n ∷ (sc.at ++ (xs ++ (0 ∷ 0 ∷ 0 ∷ [])))

eight-of : (xs : List ℕ) → length xs ≡ 8 → (ys : List ℕ)
    → (get_or (xs ++ ys) 0 0 ∷ get_or (xs ++ ys) 1 0 ∷ get_or (xs ++ ys) 2 0 ∷ get_or (xs ++ ys) 3 0 ∷ get_or (xs ++ ys) 4 0 ∷ get_or (xs ++ ys) 5 0 ∷ get_or (xs ++ ys) 6 0 ∷ get_or (xs ++ ys) 7 0 ∷ []) ≡ xs
eight-of [] h ys = absurd (omega arith)
eight-of (a ∷ []) h ys = absurd (omega arith)
eight-of (a ∷ b ∷ []) h ys = absurd (omega arith)
eight-of (a ∷ b ∷ c ∷ []) h ys = absurd (omega arith)
eight-of (a ∷ b ∷ c ∷ d ∷ []) h ys = absurd (omega arith)
eight-of (a ∷ b ∷ c ∷ d ∷ e ∷ []) h ys = absurd (omega arith)
eight-of (a ∷ b ∷ c ∷ d ∷ e ∷ f ∷ []) h ys = absurd (omega arith)
eight-of (a ∷ b ∷ c ∷ d ∷ e ∷ f ∷ g ∷ []) h ys = absurd (omega arith)
eight-of (a ∷ b ∷ c ∷ d ∷ e ∷ f ∷ g ∷ z ∷ []) h ys = refl
eight-of (a ∷ b ∷ c ∷ d ∷ e ∷ f ∷ g ∷ z ∷ y ∷ xs) h ys = absurd (omega arith)

-- what follows eight words
pub past-eight : (xs : List ℕ) → length xs ≡ 8 → (ys : List ℕ) (k : ℕ) → get_or (xs ++ ys) (8 + k) 0 ≡ get_or ys k 0
past-eight xs h ys k = ap (λ m. get_or (xs ++ ys) (m + k) 0) (sym h) ∙ get_or-append-add xs ys k 0

-- the head of a row, by its kind
unfoldable pub head_by : ℕ → ℕ → ℕ → ℕ → ℕ → ℕ → Head
head_by k c t v p q =
    cond (eqb k 1) (Go t v p) (cond (eqb k 2) (Out c t v p q) (cond (eqb k 3) (In c t v p q)
    (cond (eqb k 4) (Call c v) Stop)))

module _ (w : List ℕ) (i k c t v p q n l : ℕ) (sc : Scope) (x₀ x₁ x₂ x₃ : ℕ) (e : RowIs w i (full k c t v p q n l sc (x₀ ∷ x₁ ∷ x₂ ∷ x₃ ∷ []))) (m : Eight sc) where
  -- the words from 17 on
  abbrev rest : List ℕ
  rest = x₀ ∷ x₁ ∷ x₂ ∷ x₃ ∷ 0 ∷ 0 ∷ 0 ∷ []

  pub tail₀ : field w i 17 ≡ x₀
  tail₀ = e 17 (omega arith) ∙ past-eight sc.at m.slots rest 0

  pub tail₁ : field w i 18 ≡ x₁
  tail₁ = e 18 (omega arith) ∙ past-eight sc.at m.slots rest 1

  pub tail₂ : field w i 19 ≡ x₂
  tail₂ = e 19 (omega arith) ∙ past-eight sc.at m.slots rest 2

  pub tail₃ : field w i 20 ≡ x₃
  tail₃ = e 20 (omega arith) ∙ past-eight sc.at m.slots rest 3

  scope-is : scope_at w i ≡ offsets sc
  unfolding scope_at
  scope-is =
      rw (e count_field (omega arith), e 9 (omega arith), e 10 (omega arith), e 11 (omega arith), e 12 (omega arith), e 13 (omega arith), e 14 (omega arith), e 15 (omega arith), e 16 (omega arith), le-leb sc.n 8 m.few)
      (ap (take sc.n) (eight-of sc.at m.slots rest))

  args-hold : arg_words w i ≡ x₀ ∷ x₁ ∷ x₂ ∷ x₃ ∷ []
  args-hold = rw (tail₀, tail₁, tail₂, tail₃)

  pub row-holds : leb k 4 ≡ true → {xs : List ℕ} → of_call (head_by k c t v p q) (x₀ ∷ x₁ ∷ x₂ ∷ x₃ ∷ []) ≡ of_call (head_by k c t v p q) xs
      → Row w i (head_by k c t v p q) xs n l (offsets sc)
  unfolding head_at head_by next_at low_at
  row-holds small a = record {
    kind = rw (e kind_field (omega arith)) small;
    head = rw (e kind_field (omega arith), e name_field (omega arith), e timer_field (omega arith), e value_field (omega arith), e first_field (omega arith), e second_field (omega arith));
    args = ap (of_call (head_by k c t v p q)) args-hold ∙ a;
    next = e next_field (omega arith);
    low = e low_field (omega arith);
    few = rw (e count_field (omega arith)) (le-leb sc.n 8 m.few);
    scope = scope-is;
  }
