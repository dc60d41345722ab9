-- The numbers of names stand for the names: an index below the length leads back to its name, for names in scope and for names that a script holds.
-- By induction on the list of names; a value's word by the two sorts of values.
use Prim.Native.Nat.{ℕ, suc, ◌+◌, ◌-◌, ◌≤◌, ◌<◌}
use native.Mathlib.Omega.{arith}
use mathlib.Core.List.{List, [], ◌∷◌, ◌++◌, map}
use mathlib.Core.Bool.{Bool, true, false, cond, ◌||◌}
use mathlib.Core.Path.{◌≡◌, refl, ap, sym, ◌∙◌}
use lib.Dec.{ltb}
use lib.ListN.{length, get_or, take, length-map}
use borrow.Author.Tests.{ltb-true, lt-ltb, le-ltb, leb-true, le-leb, eq-eqb, ltb-false}
use Rattle.terms.specs.Names.{Name, same_name}
use Rattle.terms.specs.Terms.{Timer, Value}
use Rattle.terms.specs.Terms.Timer.{ticks, inf}
use Rattle.terms.specs.Terms.Value.{loc, var}
use Rattle.terms.specs.Same.{every}
use Rattle.terms.specs.Clock.{ticks_of}
use Rattle.terms.proofs.Names.{and-inv, and_in, name-eq}
use Rattle.terms.specs.Letters.{member}
use Rattle.terms.specs.Rules.{some}
use Rattle.text.specs.Questions.{into}
use Rattle.table.specs.Words.{locs_in, chans_in, defs_in, name_at, loc_name, chan_name, def_name, own_at, bound_at}
use Rattle.table.specs.Meaning.{list_from, value_of, values_of}
use Rattle.table.specs.Valid.{index, timer_ok, slot_ok, ref_ok}
use Rattle.table.proofs.Tests.{length-list_from, get_or-list_from}
use Rattle.table.proofs.Fires.{map-append}
use Rattle.table.proofs.Names.{name-sym}
use Rattle.text_build.specs.Rows.{locs_of, chans_of, ids_of, scope_names, timer_word, value_word, four_words, entering, timed, value_known, chan_known}

-- ── the first index of a name ──
pub index_at : (ys : List Name) (x : Name) → index ys x < length ys → get_or ys (index ys x) [] ≡ x
unfolding index
index_at [] x h = absurd (omega arith)
index_at (y ∷ ys) x h = go (same_name y x) refl h (λ k. index_at ys x k)
  where
    go : (b : Bool) → same_name y x ≡ b → cond b 0 (suc (index ys x)) < length (y ∷ ys) → (index ys x < length ys → get_or ys (index ys x) [] ≡ x) → get_or (y ∷ ys) (cond b 0 (suc (index ys x))) [] ≡ x
    go true e k r = name-eq y x e
    go false e k r = r (omega arith)

-- a name is among others exactly if its index is below their number
pub member-index : (ys : List Name) (x : Name) → member x ys ≡ ltb (index ys x) (length ys)
unfolding member some index
member-index [] x = refl
member-index (y ∷ ys) x = rw (name-sym x y, member-index ys x) (go (same_name y x))
  where
    go : (b : Bool) → (b || ltb (index ys x) (length ys)) ≡ ltb (cond b 0 (suc (index ys x))) (length (y ∷ ys))
    go true = sym (lt-ltb 0 (length (y ∷ ys)) (omega arith))
    go false = deeper (ltb (index ys x) (length ys)) refl
      where
        deeper : (b : Bool) → ltb (index ys x) (length ys) ≡ b → b ≡ ltb (suc (index ys x)) (length (y ∷ ys))
        deeper true e = sym (lt-ltb (suc (index ys x)) (length (y ∷ ys)) (omega (arith, ltb-true (index ys x) (length ys) e)))
        deeper false e = sym (le-ltb (suc (index ys x)) (length (y ∷ ys)) (omega (arith, ltb-false (index ys x) (length ys) e)))

-- ── names that a script holds ──
numbered : (f : ℕ → Name) (n : ℕ) (x : Name) → ltb (index (list_from 0 n f) x) n ≡ true → f (index (list_from 0 n f) x) ≡ x
numbered f n x e =
    let h = ltb-true (index (list_from 0 n f) x) n e in
    ap f (omega arith) ∙ sym (get_or-list_from f [] 0 n (index (list_from 0 n f) x) h) ∙ index_at (list_from 0 n f) x (rw (length-list_from f 0 n) h)

module _ (w : List ℕ) where
  pub loc-number : (l : Name) → ltb (index (locs_of w) l) (locs_in w) ≡ true → loc_name w (index (locs_of w) l) ≡ l
  unfolding locs_of
  loc-number l e = numbered (loc_name w) (locs_in w) l e

  pub chan-number : (c : Name) → chan_known w c ≡ true → chan_name w (index (chans_of w) c) ≡ c
  unfolding chans_of chan_known
  chan-number c e = numbered (chan_name w) (chans_in w) c e

  pub id-number : (d : Name) → ltb (index (ids_of w) d) (defs_in w) ≡ true → def_name w (index (ids_of w) d) ≡ d
  unfolding ids_of
  id-number d e = numbered (def_name w) (defs_in w) d e

-- ── timers ──
pub timer-is : (t : Timer) → timed t ≡ true → ticks_of (timer_word t) ≡ t
unfolding timed timer_word ticks_of
timer-is (ticks n) e = rw e
timer-is inf e = refl

pub timer-ok : (t : Timer) → timed t ≡ true → timer_ok (timer_word t) ≡ true
unfolding timed timer_word timer_ok
timer-ok (ticks n) e = le-leb n 1_000_001 (omega (arith, leb-true n 1_000_000 e))
timer-ok inf e = refl

-- ── values ──
module _ (w : List ℕ) (few : locs_in w ≤ 64) (ys : List Name) where
  pub value-is : (v : Value) → value_known w ys v ≡ true → value_of w ys (value_word w ys v) ≡ v
  unfolding value_known value_word value_of
  value-is (loc l) e =
      let h = ltb-true _ (locs_in w) e in
      rw (lt-ltb (index (locs_of w) l) 64 (omega arith)) (ap loc (loc-number w l e))
  value-is (var x) e =
      let h = ltb-true (index ys x) (length ys) e in
      let k : 64 + index ys x - 64 ≡ index ys x = omega arith in
      rw (le-ltb (64 + index ys x) 64 (omega arith), k) (ap var (index_at ys x h))

  pub value-ok : (v : Value) → value_known w ys v ≡ true → ref_ok w ys (value_word w ys v) ≡ true
  unfolding value_known value_word ref_ok slot_ok
  value-ok (loc l) e =
      let h = ltb-true _ (locs_in w) e in
      rw (lt-ltb (index (locs_of w) l) 64 (omega arith)) e
  value-ok (var x) e =
      let h = ltb-true (index ys x) (length ys) e in
      let k : 64 + index ys x - 64 ≡ index ys x = omega arith in
      rw (le-ltb (64 + index ys x) 64 (omega arith), k) (and_in _ _ e (rw (index_at ys x h) (eq-eqb (index ys x) (index ys x) refl)))

  -- the arguments of a call, at most four
  pub args_are : (vs : List Value) → every (value_known w ys) vs ≡ true → values_of w ys (map (value_word w ys) vs) ≡ vs
  unfolding values_of every
  args_are [] e = refl
  args_are (v ∷ vs) e = let r = and-inv (value_known w ys v) _ e in rw (value-is v r.0, args_are vs r.1)

  pub args_ok : (vs : List Value) → every (value_known w ys) vs ≡ true → every (ref_ok w ys) (map (value_word w ys) vs) ≡ true
  unfolding every
  args_ok [] e = refl
  args_ok (v ∷ vs) e = let r = and-inv (value_known w ys v) _ e in and_in _ _ (value-ok v r.0) (args_ok vs r.1)

four-of : (xs : List ℕ) → length xs ≤ 4 → take (length xs) (get_or xs 0 0 ∷ get_or xs 1 0 ∷ get_or xs 2 0 ∷ get_or xs 3 0 ∷ []) ≡ xs
four-of [] h = refl
four-of (a ∷ []) h = refl
four-of (a ∷ b ∷ []) h = refl
four-of (a ∷ b ∷ c ∷ []) h = refl
four-of (a ∷ b ∷ c ∷ d ∷ []) h = refl
four-of (a ∷ b ∷ c ∷ d ∷ e ∷ xs) h = absurd (omega arith)

module _ (w : List ℕ) (ys : List Name) (vs : List Value) (h : length vs ≤ 4) where
  pub args_in : take (length vs) (four_words w ys vs) ≡ map (value_word w ys) vs
  args_in =
      let e = length-map vs (value_word w ys) in
      ap (λ n. take n (four_words w ys vs)) (sym e) ∙ four-of (map (value_word w ys) vs) (omega arith)

-- ── the scope of an input's P ──
pub names-entered : (w : List ℕ) (i : ℕ) (os : List ℕ) (y : Name) → bound_at w i ≡ y → scope_names w (entering w i os y) ≡ into (scope_names w os) y
unfolding entering bound_at
names-entered w i os y e =
    let k : member y (scope_names w os) ≡ ltb (index (scope_names w os) y) (length os) = member-index (scope_names w os) y ∙ ap (ltb (index (scope_names w os) y)) (length-map os (name_at w)) in
    rw k (go (ltb (index (scope_names w os) y) (length os)))
  where
    go : (b : Bool) → scope_names w (cond b os (os ++ (own_at i ∷ []))) ≡ cond b (scope_names w os) (scope_names w os ++ (y ∷ []))
    go true = refl
    go false = map-append (name_at w) os (own_at i ∷ []) ∙ ap (λ n. scope_names w os ++ (n ∷ [])) e
