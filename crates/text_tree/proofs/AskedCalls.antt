-- Question 6 over the script: a call's row names a held definition with as many parameters exactly if the text defines its identifier so.
-- Where identifiers distinct, the first definition of a name is the only one; a row's number of arguments stops at 5, and no definition has over 4 parameters.
use Prim.Native.Nat.{ℕ, suc, ◌+◌, ◌-◌, ◌≤◌, min}
use native.Mathlib.Omega.{arith}
use mathlib.Core.List.{List, [], ◌∷◌, map}
use mathlib.Core.Bool.{Bool, true, false, cond, ◌&&◌, ◌||◌, not, or-false, true≢false}
use mathlib.Core.Path.{◌≡◌, refl, ap, sym, ◌∙◌}
use lib.Dec.{eqb, ltb}
use lib.ListN.{length}
use borrow.Author.Tests.{eqb-true, eqb-false, eq-eqb, ne_eqb, ltb-true, ltb-false, lt-ltb, le-ltb, not-true}
use Rattle.terms.specs.Names.{Name, same_name}
use Rattle.terms.specs.Terms.{Value, Def}
use Rattle.terms.specs.Terms.Part.{stop, go, out, inp, call}
use Rattle.terms.specs.Terms.Def.{define}
use Rattle.terms.specs.Rules.{some}
use Rattle.terms.proofs.Names.{and-inv, name-eq}
use Rattle.terms.specs.Letters.{member, distinct}
use Rattle.text.specs.Tree.{Tree}
use Rattle.text.specs.Questions.{params, identifier, most, parameter_count, definition_count, defined_once, is_for, call_met, calls_met}
use Rattle.table.specs.Words.{defs_in, arity_of, head_at}
use Rattle.table.specs.Valid.{index}
use Rattle.table.specs.Size.{size_p}
use Rattle.text_build.specs.Rows.{ids_of, head_of}
use Rattle.text_build.specs.Growth.{place_listed}
use Rattle.table.proofs.Names.{name-sym}
use Rattle.text_tree.specs.Pass.{top}
use Rattle.text_tree.specs.Asked.{call_held, calls_held}
use Rattle.text_tree.proofs.Whole.{DefsStand, Whole}
use Rattle.text_tree.proofs.AskedRows.{Agree}
use Rattle.text_tree.proofs.AskedPlaces.{all_listed, places-rows}
use Rattle.text_tree.proofs.AskedApart.{ids-are}

-- ── numbers ──
-- n arguments, of which at most 5 are counted, are as many as m parameters
capped_same : (n m : ℕ) → m ≤ 4 → eqb m n ≡ eqb (min n 5) m
capped_same n m h = go (eqb m n) refl
  where
    go : (b : Bool) → eqb m n ≡ b → b ≡ eqb (min n 5) m
    go true e = sym (eq-eqb (min n 5) m (omega (arith, eqb-true m n e)))
    go false e = sym (ne_eqb (min n 5) m (λ k. eqb-false m n e (omega arith)))

pub shifted : (k m n : ℕ) → ltb m n ≡ ltb (k + m) (k + n)
shifted k m n = go (ltb m n) refl
  where
    go : (b : Bool) → ltb m n ≡ b → b ≡ ltb (k + m) (k + n)
    go true e = sym (lt-ltb (k + m) (k + n) (omega (arith, ltb-true m n e)))
    go false e = sym (le-ltb (k + m) (k + n) (omega (arith, ltb-false m n e)))

-- ── one call ──
module _ (x : Name) (vs : List Value) where
  -- no definition of that name
  none-for : (ds : List Def) → member x (map identifier ds) ≡ false → some (is_for x vs) ds ≡ false
  unfolding member some
  none-for [] e = refl
  none-for (define y us p ∷ ds) e = go (same_name x y) e (λ k. none-for ds k)
    where
      go : (b : Bool) → (b || member x (map identifier ds)) ≡ false → (member x (map identifier ds) ≡ false → some (is_for x vs) ds ≡ false)
          → ((b && eqb (length us) (length vs)) || some (is_for x vs) ds) ≡ false
      go true k r = absurd (true≢false k)
      go false k r = r k

  module _ (w : List ℕ) where
    -- the number j is that of a held definition, of n, with as many parameters
    abbrev held_as : ℕ → ℕ → ℕ → Bool
    held_as n j d = ltb j n && eqb (min (length vs) 5) (arity_of w d)

    for-is : (ds : List Def) (k i : ℕ) → DefsStand w ds k i → most (λ d. length (params d)) ds ≤ 4 → distinct (map identifier ds) ≡ true
        → some (is_for x vs) ds ≡ held_as (length ds) (index (map identifier ds) x) (k + index (map identifier ds) x)
    unfolding some most distinct index
    for-is [] k i s m e = refl
    for-is (define y us p ∷ ds) k i s m e =
        let r = and-inv (not (member y (map identifier ds))) _ e in
        rw (name-sym x y) (go (same_name y x) refl (not-true _ r.0) (for-is ds (k + 1) (i - size_p p) s.1 (omega arith) r.1))
      where
        -- its number among the rest
        j : ℕ
        j = index (map identifier ds) x

        go : (b : Bool) → same_name y x ≡ b → member y (map identifier ds) ≡ false → some (is_for x vs) ds ≡ held_as (length ds) j (k + 1 + j)
            → ((b && eqb (length us) (length vs)) || some (is_for x vs) ds) ≡ held_as (suc (length ds)) (cond b 0 (suc j)) (k + cond b 0 (suc j))
        go true q n h =
            let z : k + 0 ≡ k = omega arith in
            let l : length us ≤ 4 = omega arith in
            rw (none-for ds (ap (λ u. member u (map identifier ds)) (sym (name-eq y x q)) ∙ n), or-false (eqb (length us) (length vs)), lt-ltb 0 (suc (length ds)) (omega arith), z, s.0.arity)
            (capped_same (length vs) (length us) l)
        go false q n h =
            let z : k + 1 + j ≡ k + suc j = omega arith in
            let a : 1 + j ≡ suc j = omega arith in
            let b : 1 + length ds ≡ suc (length ds) = omega arith in
            h ∙ rw (shifted 1 j (length ds), z, a, b)

-- ── all calls ──
module _ (t : Tree) (w : List ℕ) (s : Whole t w) (m : parameter_count t ≤ 4) (e : defined_once t.defs ≡ true) where
  pub call-is : (x : Name) (vs : List Value) → some (is_for x vs) t.defs ≡ (ltb (index (ids_of w) x) (defs_in w) && eqb (min (length vs) 5) (arity_of w (index (ids_of w) x)))
  unfolding parameter_count definition_count defined_once
  call-is x vs =
      for-is x vs w t.defs 0 (top t) s.bodies m (and-inv (distinct (map identifier t.defs)) _ e).0
      ∙ rw (← ids-are t w s, ← s.defs)
      (ap (λ d. held_as x vs w (defs_in w) (index (ids_of w) x) d) (omega arith))

  calls-agree : Agree w (call_met t.defs) (place_listed w) (λ i. call_held w (head_at w i))
  unfolding call_met call_held head_of
  calls-agree stop i n l d os h r = rw r.head
  calls-agree (go u v p) i n l d os h r = rw r.head
  calls-agree (out c u v p q) i n l d os h r = rw r.head
  calls-agree (inp c u y p q) i n l d os h r = rw r.head
  calls-agree (call x vs) i n l d os h r = rw r.head (call-is x vs)

  pub calls_is : calls_met t ≡ calls_held w
  unfolding calls_met calls_held
  calls_is = places-rows w (call_met t.defs) (place_listed w) (λ i. call_held w (head_at w i)) calls-agree t s (all_listed t w s)
