-- The first elements of two lists: the arguments of two calls, and the parameters of two definitions.
-- By induction on how many there are; of four words each is named.
use Prim.Native.Nat.{ℕ, zero, suc, ◌+◌, ◌*◌, ◌≤◌, ◌<◌}
use native.Mathlib.Omega.{arith}
use mathlib.Core.List.{List, [], ◌∷◌, map}
use mathlib.Core.Bool.{true}
use mathlib.Core.Path.{◌≡◌, refl, ap, sym, ◌∙◌}
use lib.ListN.{length, get_or, take, length-map}
use lib.Seq.{get_or-take, length-take-le}
use Rattle.table.specs.Words.{row_size, name_at, arity_of, params_at, params_of, field, names_at, arg_words, first_param, fourth_param, name_size, second_param, third_param, arg_field, kind_field}
use Rattle.table.specs.Valid.{ref_ok}
use Rattle.table.proofs.Tests.{every-get_or}
use Rattle.text_process.specs.Values.{value_seen}
use Rattle.calls_alike.specs.Pieces.{ArgsOk, args_seen}

module _ {A : Type 0} (f g : ℕ → A) where
  pub fronts-same : (xs ys : List ℕ) (n : ℕ) → n ≤ length xs → n ≤ length ys → ((m : ℕ) → m < n → f (get_or xs m 0) ≡ g (get_or ys m 0)) → map f (take n xs) ≡ map g (take n ys)
  fronts-same xs ys zero h k e = refl
  fronts-same [] ys (suc n) h k e = absurd (omega arith)
  fronts-same (x ∷ xs) [] (suc n) h k e = absurd (omega arith)
  fronts-same (x ∷ xs) (y ∷ ys) (suc n) h k e = rw (e kind_field (omega arith), fronts-same xs ys n (omega arith) (omega arith) (λ m l. e (suc m) (omega arith)))

  pub fronts-at : (xs ys : List ℕ) (n m : ℕ) → m < n → n ≤ length xs → n ≤ length ys → map f (take n xs) ≡ map g (take n ys) → f (get_or xs m 0) ≡ g (get_or ys m 0)
  fronts-at xs ys zero m l h k e = absurd (omega arith)
  fronts-at [] ys (suc n) m l h k e = absurd (omega arith)
  fronts-at (x ∷ xs) [] (suc n) m l h k e = absurd (omega arith)
  fronts-at (x ∷ xs) (y ∷ ys) (suc n) zero l h k e = cc
  fronts-at (x ∷ xs) (y ∷ ys) (suc n) (suc m) l h k e = fronts-at xs ys n m (omega arith) (omega arith) (omega arith) (cc)

  pub fronts-long : (xs ys : List ℕ) (m n : ℕ) → m ≤ length xs → n ≤ length ys → map f (take m xs) ≡ map g (take n ys) → m ≡ n
  fronts-long xs ys m n h k e =
      sym (length-map (take m xs) f ∙ length-take-le m xs h) ∙ ap length e ∙ (length-map (take n ys) g ∙ length-take-le n ys k)

-- ── arguments ──
arg-word : (w : List ℕ) (i m : ℕ) → m < 4 → get_or (arg_words w i) m 0 ≡ field w i (arg_field + m)
arg-word w i zero h = refl
arg-word w i (suc zero) h = refl
arg-word w i (suc (suc zero)) h = refl
arg-word w i (suc (suc (suc zero))) h = refl
arg-word w i (suc (suc (suc (suc m)))) h = absurd (omega arith)

pub arg-ok : (w : List ℕ) (i n m : ℕ) → n ≤ 4 → ArgsOk w i n → m < n → ref_ok w (names_at w i) (field w i (arg_field + m)) ≡ true
arg-ok w i n m h e l =
    let r = every-get_or (ref_ok w (names_at w i)) (take n (arg_words w i)) 0 m e (omega (arith, length-take-le n (arg_words w i) h)) in
    let q : get_or (take n (arg_words w i)) m 0 ≡ field w i (arg_field + m) = get_or-take n (arg_words w i) m 0 l ∙ arg-word w i m (omega arith) in
    rw q at r

module _ (w : List ℕ) (i : ℕ) (vs v : List ℕ) (j : ℕ) (us : List ℕ) (n : ℕ) (h : n ≤ 4) where
  pub args-same : ((m : ℕ) → m < n → value_seen w i vs (field w i (arg_field + m)) ≡ value_seen v j us (field v j (arg_field + m))) → args_seen w i vs n ≡ args_seen v j us n
  unfolding args_seen
  args-same e =
      fronts-same (value_seen w i vs) (value_seen v j us) (arg_words w i) (arg_words v j) n h h
      (λ m l. ap (value_seen w i vs) (arg-word w i m (omega arith)) ∙ e m l ∙ sym (ap (value_seen v j us) (arg-word v j m (omega arith))))

  pub args-at : args_seen w i vs n ≡ args_seen v j us n → (m : ℕ) → m < n → value_seen w i vs (field w i (arg_field + m)) ≡ value_seen v j us (field v j (arg_field + m))
  unfolding args_seen
  args-at e m l =
      sym (ap (value_seen w i vs) (arg-word w i m (omega arith)))
      ∙ fronts-at (value_seen w i vs) (value_seen v j us) (arg_words w i) (arg_words v j) n m l h h e
      ∙ ap (value_seen v j us) (arg-word v j m (omega arith))

pub args-long : (w : List ℕ) (i : ℕ) (vs v : List ℕ) (j : ℕ) (us : List ℕ) (m n : ℕ) → m ≤ 4 → n ≤ 4 → args_seen w i vs m ≡ args_seen v j us n → m ≡ n
unfolding args_seen
args-long w i vs v j us m n h k e = fronts-long (value_seen w i vs) (value_seen v j us) (arg_words w i) (arg_words v j) m n h k e

-- ── parameters ──
abbrev param_words : ℕ → List ℕ
param_words d = (first_param + d * row_size) ∷ (second_param + d * row_size) ∷ (third_param + d * row_size) ∷ (fourth_param + d * row_size) ∷ []

param-word : (d m : ℕ) → m < 4 → get_or (param_words d) m 0 ≡ first_param + d * row_size + m * name_size
param-word d zero h = omega arith
param-word d (suc zero) h = omega arith
param-word d (suc (suc zero)) h = omega arith
param-word d (suc (suc (suc zero))) h = omega arith
param-word d (suc (suc (suc (suc m)))) h = absurd (omega arith)

module _ (w : List ℕ) (d : ℕ) (v : List ℕ) (e : ℕ) where
  params_are : (w : List ℕ) (d n : ℕ) → arity_of w d ≡ n → params_of w d ≡ map (name_at w) (take n (param_words d))
  params_are w d n q = unfold params_of params_at in rw q

  pub params_same : (n : ℕ) → n ≤ 4 → arity_of w d ≡ n → arity_of v e ≡ n → ((m : ℕ) → m < n → name_at w (first_param + d * row_size + m * name_size) ≡ name_at v (first_param + e * row_size + m * name_size)) → params_of w d ≡ params_of v e
  params_same n h p q f =
      params_are w d n p
      ∙ fronts-same (name_at w) (name_at v) (param_words d) (param_words e) n h h
      (λ m l. ap (name_at w) (param-word d m (omega arith)) ∙ f m l ∙ sym (ap (name_at v) (param-word e m (omega arith))))
      ∙ sym (params_are v e n q)

  pub params-at : (n : ℕ) → n ≤ 4 → arity_of w d ≡ n → arity_of v e ≡ n → (m : ℕ) → m < n → params_of w d ≡ params_of v e → name_at w (first_param + d * row_size + m * name_size) ≡ name_at v (first_param + e * row_size + m * name_size)
  params-at n h p q m l f =
      sym (ap (name_at w) (param-word d m (omega arith)))
      ∙ fronts-at (name_at w) (name_at v) (param_words d) (param_words e) n m l h h (sym (params_are w d n p) ∙ f ∙ params_are v e n q)
      ∙ ap (name_at v) (param-word e m (omega arith))

  pub params-long : arity_of w d ≤ 4 → arity_of v e ≤ 4 → params_of w d ≡ params_of v e → arity_of w d ≡ arity_of v e
  unfolding params_of params_at
  params-long h k f = fronts-long (name_at w) (name_at v) (param_words d) (param_words e) (arity_of w d) (arity_of v e) h k f
