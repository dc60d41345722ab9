-- The scope of a definition's body: its parameters, each name once, by first place. It reads only the words of the definitions, so it stays as it is
-- while rows and names are written. By induction on the number of parameters.
use Prim.Native.Nat.{ℕ, zero, suc, ◌+◌, ◌*◌, ◌≤◌, ◌<◌}
use native.Mathlib.Omega.{arith}
use mathlib.Core.List.{List, [], ◌∷◌, ◌++◌, append-nil, append_assoc}
use mathlib.Core.Bool.{Bool, true, false, cond}
use mathlib.Core.Path.{◌≡◌, refl, ap, sym, ◌∙◌}
use borrow.Author.Tests.{lt-ltb}
use lib.Dec.{ltb}
use lib.ListN.{length, set, take, length-set, length-map}
use lib.Seq.{length-take-le, take-suc-set}
use Rattle.terms.specs.Names.{Name}
use Rattle.terms.specs.Same.{every}
use Rattle.terms.proofs.Names.{and_in}
use Rattle.terms.specs.Letters.{member, distinct}
use Rattle.text.specs.WellFormed.{Each}
use Rattle.text.specs.Questions.{into, firsts}
use Rattle.table.specs.Words.{row_size, last_name, locs_at, word, name_at, arity_of, params_at, defs_at, first_param, fourth_param, name_size, second_param, third_param}
use Rattle.table.specs.Meaning.{list_from}
use Rattle.table.specs.Tests.{row_name}
use Rattle.table.specs.Valid.{index}
use Rattle.table.proofs.ValidDefs.{params-names}
use Rattle.table.proofs.Fires.{map-append}
use Rattle.text_build.specs.declared.Scope.{Scope}
use Rattle.text_build.specs.Rows.{scope_names}
use Rattle.text_build.specs.Put.{offsets}
use Rattle.text_build.proofs.RowWords.{Eight}
use Rattle.text_build.proofs.Entering.{Settled}
use Rattle.text_build.proofs.Entering.Clear.{param}
use Rattle.text_build.proofs.Numbers.{member-index}
use Rattle.text_build.proofs.Passes.{InScript}
use Rattle.text_tree.specs.Pass.{no_scope, enter_at, params_from, param_scope}
use Rattle.text_build.proofs.Into.{differ-none}
use Rattle.text_tree.proofs.Heads.{name-same, HeadStands, Between}

-- ── names that stand among the definitions' words ──
abbrev pub AmongHeads : List ℕ → Type 0
AmongHeads os = Each (λ o. (8 ≤ o) × (o + 4 ≤ locs_at)) os

pub among-settled : (os : List ℕ) (i : ℕ) → AmongHeads os → Settled i os
among-settled [] i a = tt
among-settled (o ∷ os) i a = (param a.0.0 a.0.1, among-settled os i a.1)

pub among-within : (os : List ℕ) → AmongHeads os → InScript os
unfolding every
among-within [] a = refl
among-within (o ∷ os) a = let h = a.0.1 in and_in _ _ (lt-ltb o last_name (omega arith)) (among-within os a.1)

pub among_same : (w v : List ℕ) (os : List ℕ) → Between w v → AmongHeads os → scope_names v os ≡ scope_names w os
among_same w v [] e a = refl
among_same w v (o ∷ os) e a =
    let l = a.0.0 in
    let h = a.0.1 in
    rw (name-same w v o (λ x p q. e x (omega arith) (omega arith)), among_same w v os e a.1)

among-snoc : (os : List ℕ) (o : ℕ) → 8 ≤ o → o + 4 ≤ locs_at → AmongHeads os → AmongHeads (os ++ (o ∷ []))
among-snoc [] o l h a = ((l, h), tt)
among-snoc (x ∷ os) o l h a = (a.0, among-snoc os o l h a.1)

-- ── a scope of at most j names among the definitions' words ──
pub record Scoped (w : List ℕ) (sc : Scope) (j : ℕ) (ys : List Name) : Type 0 where
  pub few : sc.n ≤ j
  pub slots : length sc.at ≡ 8
  pub among : AmongHeads (offsets sc)
  pub names : scope_names w (offsets sc) ≡ ys

pub none-scoped : (w : List ℕ) → Scoped w no_scope 0 []
none-scoped w = record { few = omega arith; slots = refl; among = tt; names = refl }

-- one parameter
module _ (w : List ℕ) (sc : Scope) (j : ℕ) (ys : List Name) (o : ℕ) (s : Scoped w sc j ys) (h : j < 8) (l : 8 ≤ o) (u : o + 4 ≤ locs_at) where
  count-is : length (offsets sc) ≡ sc.n
  count-is = let f = s.few in let g = s.slots in length-take-le sc.n sc.at (omega arith)

  abbrev one_more : Scope
  one_more = record { n = sc.n + 1; at = set sc.at sc.n o }

  more-offsets : offsets one_more ≡ offsets sc ++ (o ∷ [])
  more-offsets =
      let q : sc.n + 1 ≡ suc sc.n = omega arith in
      let f = s.few in
      let g = s.slots in
      rw q (take-suc-set sc.at sc.n o (omega arith))

  member_is : member (name_at w o) ys ≡ ltb (index (scope_names w (offsets sc)) (name_at w o)) sc.n
  member_is = rw (← s.names) (member-index (scope_names w (offsets sc)) (name_at w o) ∙ ap (ltb (index (scope_names w (offsets sc)) (name_at w o))) (length-map (offsets sc) (name_at w) ∙ count-is))

  pub enter-scoped : Scoped w (enter_at w sc o) (suc j) (into ys (name_at w o))
  unfolding enter_at
  enter-scoped = rw member_is (go (ltb (index (scope_names w (offsets sc)) (name_at w o)) sc.n))
    where
      go : (b : Bool) → Scoped w (cond b sc one_more) (suc j) (cond b ys (ys ++ (name_at w o ∷ [])))
      go true = let f = s.few in record { few = omega arith; slots = s.slots; among = s.among; names = s.names }
      go false = let f = s.few in record {
        few = omega arith;
        slots = length-set sc.at sc.n o ∙ s.slots;
        among = rw more-offsets (among-snoc (offsets sc) o l u s.among);
        names = ap (scope_names w) more-offsets ∙ map-append (name_at w) (offsets sc) (o ∷ []) ∙ ap (λ z. z ++ (name_at w o ∷ [])) s.names;
      }

  -- a name that is not among them goes behind them
  enter-new : member (name_at w o) ys ≡ false → offsets (enter_at w sc o) ≡ offsets sc ++ (o ∷ [])
  unfolding enter_at
  enter-new e = rw (sym member_is ∙ e) more-offsets

  enter-same : (v : List ℕ) → Between w v → enter_at v sc o ≡ enter_at w sc o
  unfolding enter_at
  enter-same v e = rw (name-same w v o (λ x p q. e x (omega arith) (omega arith)), among_same w v (offsets sc) e s.among)

-- ── all parameters ──
module _ (w : List ℕ) (k : ℕ) (c : k < 32) where
  pub params-scoped : (m j : ℕ) (sc : Scope) (ys : List Name) → Scoped w sc j ys → j + m ≤ 4
      → Scoped w (params_from w k j m sc) (j + m) (firsts ys (list_from j m (row_name w (first_param + k * row_size) 4)))
  unfolding params_from firsts list_from row_name
  params-scoped zero j sc ys s h = let e : j + 0 ≡ j = omega arith in rw e s
  params-scoped (suc m) j sc ys s h =
      let e : j + 1 ≡ suc j = omega arith in
      let f : j + suc m ≡ suc j + m = omega arith in
      rw (e, f) (params-scoped m (suc j) _ _ (enter-scoped w sc j ys (first_param + k * row_size + j * name_size) s (omega arith) (omega arith) (omega arith)) (omega arith))

  params_same : (v : List ℕ) → Between w v → (m j : ℕ) (sc : Scope) (ys : List Name) → Scoped w sc j ys → j + m ≤ 4 → params_from v k j m sc ≡ params_from w k j m sc
  unfolding params_from
  params_same v e zero j sc ys s h = refl
  params_same v e (suc m) j sc ys s h =
      let q : j + 1 ≡ suc j = omega arith in
      rw (enter-same w sc j ys (first_param + k * row_size + j * name_size) s (omega arith) (omega arith) (omega arith) v e, q)
      (params_same v e m (suc j) _ _ (enter-scoped w sc j ys (first_param + k * row_size + j * name_size) s (omega arith) (omega arith) (omega arith)) (omega arith))

  first-at : first_param + k * row_size + 0 * name_size ≡ first_param + k * row_size
  first-at = omega arith

  second_at : first_param + k * row_size + 1 * name_size ≡ second_param + k * row_size
  second_at = omega arith

  third_at : first_param + k * row_size + 2 * name_size ≡ third_param + k * row_size
  third_at = omega arith

  fourth-at : first_param + k * row_size + 3 * name_size ≡ fourth_param + k * row_size
  fourth-at = omega arith

  -- different parameters: none is left out
  abbrev spread : ℕ → ℕ → List ℕ
  spread j m = list_from j m (λ q. first_param + k * row_size + q * name_size)

  params-apart : (m j : ℕ) (sc : Scope) (ys : List Name) → Scoped w sc j ys → j + m ≤ 4 → distinct (ys ++ list_from j m (row_name w (first_param + k * row_size) 4)) ≡ true
      → offsets (params_from w k j m sc) ≡ offsets sc ++ spread j m
  unfolding params_from list_from row_name
  params-apart zero j sc ys s h e = sym (append-nil (offsets sc))
  params-apart (suc m) j sc ys s h e =
      let o : ℕ = first_param + k * row_size + j * name_size in
      let q : j + 1 ≡ suc j = omega arith in
      let n : member (name_at w o) ys ≡ false = differ-none ys (name_at w o) _ e in
      let i : into ys (name_at w o) ≡ ys ++ (name_at w o ∷ []) = rw n in
      let r = params-apart m (suc j) (enter_at w sc o) (into ys (name_at w o)) (enter-scoped w sc j ys o s (omega arith) (omega arith) (omega arith)) (omega arith)
      (rw (i, append_assoc ys (name_at w o ∷ []) (list_from (suc j) m (row_name w (first_param + k * row_size) 4))) e) in
      ap (λ x. offsets (params_from w k x m (enter_at w sc o))) q ∙ r
      ∙ ap (λ l. l ++ spread (suc j) m) (enter-new w sc j ys o s (omega arith) (omega arith) (omega arith) n) ∙ append_assoc (offsets sc) (o ∷ []) (spread (suc j) m)

  spread-is : (a : ℕ) → a ≤ 4 → spread 0 a ≡ take a ((first_param + k * row_size) ∷ (second_param + k * row_size) ∷ (third_param + k * row_size) ∷ (fourth_param + k * row_size) ∷ [])
  unfolding list_from
  spread-is zero h = refl
  spread-is (suc zero) h = rw (first-at)
  spread-is (suc (suc zero)) h = rw (first-at, second_at)
  spread-is (suc (suc (suc zero))) h = rw (first-at, second_at, third_at)
  spread-is (suc (suc (suc (suc zero)))) h = rw (first-at, second_at, third_at, fourth-at)
  spread-is (suc (suc (suc (suc (suc a))))) h = absurd (omega arith)

-- ── the body's scope ──
module _ (w : List ℕ) (x : Name) (us : List Name) (k i : ℕ) (c : k < 32) (few : length us ≤ 4) (h : HeadStands w x us k i) where
  pub param-scope : Scoped w (param_scope w k) 4 (firsts [] us)
  unfolding param_scope
  param-scope =
      let s = params-scoped w k c (length us) 0 no_scope [] (none-scoped w) (omega arith) in
      let e : list_from 0 (length us) (row_name w (first_param + k * row_size) 4) ≡ us = sym (params-names w k (length us) (sym h.arity) few) ∙ h.params in
      let q : 0 + length us ≡ length us = omega arith in
      let r : Scoped w (params_from w k 0 (length us) no_scope) (length us) (firsts [] us) = rw (e, q) at s in
      rw h.arity (record { few = let f = r.few in omega arith; slots = r.slots; among = r.among; names = r.names })

  pub param-eight : Eight (param_scope w k)
  param-eight = let s = param-scope in let f = s.few in record { few = omega arith; slots = s.slots }

  pub param-settled : Settled i (offsets (param_scope w k))
  param-settled = among-settled (offsets (param_scope w k)) i param-scope.among

  pub param-same : (v : List ℕ) → Between w v → param_scope v k ≡ param_scope w k
  unfolding param_scope arity_of
  param-same v e =
      let a : word w (defs_at + k * row_size) ≡ length us = h.arity in
      let b : word v (defs_at + k * row_size) ≡ length us = e (defs_at + k * row_size) (omega arith) (omega arith) ∙ a in
      rw (a, b) (params_same w k c v e (length us) 0 no_scope [] (none-scoped w) (omega arith))

  -- different parameters: the scope is where they stand
  pub param-offsets : distinct us ≡ true → offsets (param_scope w k) ≡ params_at w k
  unfolding param_scope params_at
  param-offsets d =
      let e : list_from 0 (length us) (row_name w (first_param + k * row_size) 4) ≡ us = sym (params-names w k (length us) (sym h.arity) few) ∙ h.params in
      rw h.arity (params-apart w k c (length us) 0 no_scope [] (none-scoped w) (omega arith) (rw e d) ∙ spread-is w k c (length us) few)
