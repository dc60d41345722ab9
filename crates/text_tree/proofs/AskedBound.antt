-- Question 7 over the script: the values of a row are locations or slots in scope exactly if each variable of its part is bound.
-- A location's number is below 64, since the table of locations holds no more; a variable's slot is below the number of names in scope exactly if its name is among them.
use Prim.Native.Nat.{ℕ, ◌+◌, ◌≤◌, min}
use native.Mathlib.Omega.{arith}
use mathlib.Core.List.{List, [], ◌∷◌, map}
use mathlib.Core.Bool.{Bool, true, false, ◌&&◌, ◌||◌, and-true, false≢true}
use mathlib.Core.Path.{◌≡◌, refl, ap, sym, ◌∙◌}
use lib.Dec.{eqb}
use lib.ListN.{length, length-map, take}
use borrow.Author.Tests.{ltb-true, lt-ltb, eqb-true}
use Rattle.terms.specs.Names.{Name, same_name}
use Rattle.terms.specs.Terms.{Value, Def}
use Rattle.terms.specs.Terms.Value.{loc, var}
use Rattle.terms.specs.Terms.Part.{stop, go, out, inp, call}
use Rattle.terms.specs.Terms.Def.{define}
use Rattle.terms.specs.Rules.{some}
use Rattle.terms.specs.Same.{every}
use Rattle.terms.proofs.Names.{and-inv, and_in}
use Rattle.text.specs.Tree.{Tree}
use Rattle.text.specs.Questions.{Place, params, most, parameter_count, is_for, call_met, calls_met, bound_in, bound_at, bound, places}
use Rattle.table.specs.declared.Head.{Head}
use Rattle.table.specs.Words.{locs_in, field, head_at, scope_at, name_at, count_field}
use Rattle.table.specs.Valid.{index}
use Rattle.table.proofs.Rows.{any-length}
use Rattle.text_build.specs.Rows.{Row, locs_of, scope_names, value_word, four_words, head_of, chan_known, of_call, args_of}
use Rattle.text_build.specs.Growth.{loc_listed, value_listed, part_listed, place_listed}
use Rattle.text_build.proofs.Numbers.{member-index, args_in}
use Rattle.text_tree.specs.Asked.{in_scope, values_bound, all_bound}
use Rattle.text_tree.proofs.Whole.{Whole}
use Rattle.text_tree.proofs.AskedRows.{Agree}
use Rattle.text_tree.proofs.AskedPlaces.{all_listed, places-rows}
use Rattle.text_tree.proofs.AskedCalls.{shifted}

-- two tests of a list, at each element
pub every-both : {A : Type 0} (f g : A → Bool) (xs : List A) → every f xs ≡ true → every g xs ≡ true → every (λ x. f x && g x) xs ≡ true
unfolding every
every-both f g [] p q = refl
every-both f g (x ∷ xs) p q =
    let a = and-inv (f x) _ p in
    let b = and-inv (g x) _ q in
    and_in _ _ (and_in _ _ a.0 b.0) (every-both f g xs a.1 b.1)

-- a call that a definition meets has as many arguments as it has parameters, at most 4
pub few-met : (x : Name) (vs : List Value) (ds : List Def) → most (λ d. length (params d)) ds ≤ 4 → some (is_for x vs) ds ≡ true → length vs ≤ 4
unfolding some most
few-met x vs [] m e = absurd (false≢true e)
few-met x vs (define y us p ∷ ds) m e = go (same_name x y && eqb (length us) (length vs)) refl e (λ k. few-met x vs ds (omega arith) k)
  where
    go : (b : Bool) → (same_name x y && eqb (length us) (length vs)) ≡ b → (b || some (is_for x vs) ds) ≡ true → (some (is_for x vs) ds ≡ true → length vs ≤ 4) → length vs ≤ 4
    go true q k r = omega (arith, eqb-true (length us) (length vs) (and-inv (same_name x y) _ q).1)
    go false q k r = r k

module _ (w : List ℕ) (few : locs_in w ≤ 64) where
  -- how many names a row has in scope
  row_count : (i n l : ℕ) (h : Head) (xs os : List ℕ) → Row w i h xs n l os → field w i count_field ≡ length (scope_names w os)
  row_count i n l h xs os r =
      let e : length (scope_at w i) ≡ field w i count_field = any-length w i ∙ rw r.few in
      sym e ∙ ap length r.scope ∙ sym (length-map os (name_at w))

  module _ (ys : List Name) where
    value-bound : (v : Value) → value_listed w v ≡ true → bound_in ys v ≡ in_scope (length ys) (value_word w ys v)
    unfolding value_listed loc_listed value_word in_scope
    value-bound (loc l) e = sym (lt-ltb (index (locs_of w) l) (64 + length ys) (omega (arith, ltb-true (index (locs_of w) l) (locs_in w) e)))
    value-bound (var x) e = member-index ys x ∙ shifted 64 (index ys x) (length ys)

    values-bound : (vs : List Value) → every (value_listed w) vs ≡ true → every (bound_in ys) vs ≡ every (in_scope (length ys)) (map (value_word w ys) vs)
    unfolding every
    values-bound [] e = refl
    values-bound (v ∷ vs) e = let r = and-inv (value_listed w v) _ e in rw (value-bound v r.0, values-bound vs r.1)

    -- the arguments of a call that a row holds
    args-bound : (vs : List Value) → length vs ≤ 4 → every (value_listed w) vs ≡ true
        → every (bound_in ys) vs ≡ every (in_scope (length ys)) (take (min (length vs) 5) (four_words w ys vs))
    args-bound vs n e =
        let m : min (length vs) 5 ≡ length vs = omega arith in
        values-bound vs e ∙ rw (m, args_in w ys vs n)

    one-bound : (v : Value) → value_listed w v ≡ true → every (bound_in ys) (v ∷ []) ≡ in_scope (length ys) (value_word w ys v)
    unfolding every
    one-bound v e = and-true (bound_in ys v) ∙ value-bound v e

module _ (t : Tree) (w : List ℕ) (s : Whole t w) (m : parameter_count t ≤ 4) where
  -- what is known of a place before question 7
  abbrev met : Place → Bool
  met x = place_listed w x && call_met t.defs x

  bound-agree : Agree w bound_at met (λ i. values_bound w i (field w i count_field) (head_at w i))
  unfolding bound_at values_bound head_of args_of of_call place_listed part_listed call_met every parameter_count
  bound-agree stop i n l d os h r = rw r.head
  bound-agree (go u v p) i n l d os h r =
      rw (r.head, row_count w s.making.locs i n l _ _ os r) (one-bound w s.making.locs (scope_names w os) v (and-inv (value_listed w v) _ h).0)
  bound-agree (out c u v p q) i n l d os h r =
      rw (r.head, row_count w s.making.locs i n l _ _ os r)
      (one-bound w s.making.locs (scope_names w os) v (and-inv (chan_known w c) _ (and-inv (chan_known w c && value_listed w v) _ h).0).1)
  bound-agree (inp c u y p q) i n l d os h r = rw r.head
  bound-agree (call x vs) i n l d os h r =
      let k = and-inv (every (value_listed w) vs) _ h in
      rw (r.head, r.args, row_count w s.making.locs i n l _ _ os r)
      (args-bound w s.making.locs (scope_names w os) vs (few-met x vs t.defs m k.1) k.0)

  pub bound-is : calls_met t ≡ true → bound t ≡ all_bound w
  unfolding calls_met bound all_bound
  bound-is e = places-rows w bound_at met (λ i. values_bound w i (field w i count_field) (head_at w i)) bound-agree t s (every-both (place_listed w) (call_met t.defs) (places t) (all_listed t w s) e)
