-- Some slots with values: all of them are a component's values, none of them is no substitution, and an input's slot emptied is its name hidden.
-- Idea: an environment of slots looks a name up at its first index, and an input enters its name there (the crate `table`, Scopes).
use Prim.Native.Nat.{ℕ, zero, suc, ◌+◌, ◌-◌, ◌*◌, ◌≤◌, ◌<◌}
use native.Mathlib.Omega.{arith}
use mathlib.Core.List.{List, [], ◌∷◌, ◌++◌, map}
use mathlib.Core.Bool.{Bool, true, false, cond}
use mathlib.Core.Path.{◌≡◌, refl, ap, sym, ◌∙◌, fun_ext}
use lib.Dec.{ltb}
use lib.ListN.{length, get_or, set, replicate, length-map, length-take}
use lib.Seq.{get_or-take}
use borrow.Author.Tests.{ltb-true, lt-ltb, le-ltb, eqb-true}
use Rattle.terms.specs.Names.{Name, same_name}
use Rattle.terms.specs.Same.{every}
use Rattle.terms.specs.Substitution.{Held, env, hide, held, sub_v}
use Rattle.terms.specs.Substitution.Held.{unset}
use Rattle.terms.proofs.Names.{and-inv, name-eq, name-refl}
use Rattle.terms.proofs.Substitution.{empty}
use Rattle.table.specs.Words.{locs_at, name_at, loc_name, field, own_at, bound_at, at_most8, scope_at, names_at, name_size, count_field, slot_field}
use Rattle.table.specs.Meaning.{value_of, env_at}
use Rattle.table.specs.Valid.{index, slot_ok, ref_ok, entered}
use Rattle.table.proofs.Scopes.{enter, enter-is, index-enter}
use Rattle.table.proofs.Fires.{scope-length, names-length, map-append, get_d_map}
use Rattle.text_process.specs.Forms.{value_text}
use Rattle.text_process.specs.Values.{shown, holds, some_at, value_seen}

-- ── all slots with values, and none ──
all-at : (w : List ℕ) (ys : List Name) (vs : List ℕ) (x : Name) → every (λ v. ltb v 64) vs ≡ true → holds ys (map (shown w) vs) x ≡ env ys (map (loc_name w) vs) x
unfolding holds env every shown
all-at w [] vs x e = refl
all-at w (y ∷ ys) [] x e = refl
all-at w (y ∷ ys) (v ∷ vs) x e = let r = and-inv (ltb v 64) _ e in rw (r.0, all-at w ys vs x r.1)

pub all_shown : (w : List ℕ) (i : ℕ) (vs : List ℕ) → every (λ v. ltb v 64) vs ≡ true → some_at w i vs ≡ env_at w i vs
unfolding some_at env_at
all_shown w i vs e = fun_ext (λ x. all-at w (names_at w i) vs x e)

none-at : (w : List ℕ) (ys : List Name) (n : ℕ) (x : Name) → holds ys (map (shown w) (replicate n 64)) x ≡ unset
unfolding holds shown
none-at w [] n x = refl
none-at w (y ∷ ys) zero x = refl
none-at w (y ∷ ys) (suc n) x = rw (none-at w ys n x) (go (same_name y x))
  where
    go : (b : Bool) → cond b unset unset ≡ unset
    go true = refl
    go false = refl

pub none-shown : (w : List ℕ) (i : ℕ) → some_at w i (replicate 8 64) ≡ empty
unfolding some_at empty
none-shown w i = fun_ext (λ x. none-at w (names_at w i) 8 x)

-- ── the slot of an input, emptied ──
hidden_at : (ys : List Name) (hs : List Held) (y x : Name) → index ys y < length hs → hide y (holds ys hs) x ≡ holds (enter ys y) (set hs (index ys y) unset) x
unfolding hide holds enter index
hidden_at [] [] y x h = absurd (omega arith)
hidden_at [] (v ∷ hs) y x h = refl
hidden_at (z ∷ ys) [] y x h = absurd (omega arith)
hidden_at (z ∷ ys) (v ∷ hs) y x h = go (same_name z y) refl h (λ i. hidden_at ys hs y x i)
  where
    other : (b c : Bool) → same_name y x ≡ b → same_name z x ≡ c → same_name z y ≡ false
        → cond b unset (holds ys hs x) ≡ holds (enter ys y) (set hs (index ys y) unset) x
        → cond b unset (cond c v (holds ys hs x)) ≡ cond c v (holds (enter ys y) (set hs (index ys y) unset) x)
    other true true p q n k = let m : same_name z y ≡ true = rw (name-eq z x q, name-eq y x p) (name-refl x) in let f : false ≡ true = cc in cc
    other true false p q n k = k
    other false true p q n k = refl
    other false false p q n k = k

    same : (b : Bool) (f : Held) → cond b unset (cond b v f) ≡ cond b unset f
    same true f = refl
    same false f = refl

    go : (b : Bool) → same_name z y ≡ b → cond b 0 (suc (index ys y)) < length (v ∷ hs)
        → (index ys y < length hs → hide y (holds ys hs) x ≡ holds (enter ys y) (set hs (index ys y) unset) x)
        → hide y (holds (z ∷ ys) (v ∷ hs)) x ≡ holds (cond b (z ∷ ys) (z ∷ enter ys y)) (set (v ∷ hs) (cond b 0 (suc (index ys y))) unset) x
    go true e i k = let q : same_name z x ≡ same_name y x = rw (name-eq z y e) in rw q (same (same_name y x) (holds ys hs x))
    go false e i k = other (same_name y x) (same_name z x) refl refl e (k (omega arith))

map-set : {A B : Type 0} (f : A → B) (xs : List A) (k : ℕ) (y : A) → map f (set xs k y) ≡ set (map f xs) k (f y)
map-set f [] k y = refl
map-set f (x ∷ xs) zero y = refl
map-set f (x ∷ xs) (suc k) y = rw (map-set f xs k y)

-- the names in scope in the P of the input at i
pub entered-names : (w : List ℕ) (i k : ℕ) → index (names_at w i) (bound_at w i) ≡ k → map (name_at w) (entered w i k) ≡ enter (names_at w i) (bound_at w i)
unfolding entered names_at bound_at
entered-names w i k e =
    map-cond (ltb k (length (scope_at w i)))
    ∙ rw (← e, ← length-map (scope_at w i) (name_at w)) (enter-is (map (name_at w) (scope_at w i)) (name_at w (own_at i)))
  where
    map-cond : (b : Bool) → map (name_at w) (cond b (scope_at w i) (scope_at w i ++ (own_at i ∷ []))) ≡ cond b (map (name_at w) (scope_at w i)) (map (name_at w) (scope_at w i) ++ (name_at w (own_at i) ∷ []))
    map-cond true = refl
    map-cond false = map-append (name_at w) (scope_at w i) (own_at i ∷ [])

pub hidden : (w : List ℕ) (i k p : ℕ) (vs : List ℕ) → index (names_at w i) (bound_at w i) ≡ k → scope_at w p ≡ entered w i k → length vs ≡ 8
    → hide (bound_at w i) (some_at w i vs) ≡ some_at w p (set vs k 64)
unfolding some_at names_at
hidden w i k p vs s e n =
    let names : names_at w p ≡ enter (names_at w i) (bound_at w i) = ap (map (name_at w)) e ∙ entered-names w i k s in
    let few : length (enter (names_at w i) (bound_at w i)) ≤ 8 = rw (← names) (omega (arith, names-length w p, scope-length w p)) in
    fun_ext (λ x. hidden_at (names_at w i) (map (shown w) vs) (bound_at w i) x (omega (arith, index-enter (names_at w i) (bound_at w i), length-map vs (shown w))))
    ∙ ap (λ z. holds (enter (names_at w i) (bound_at w i)) (set (map (shown w) vs) z unset)) s
    ∙ ap (holds (enter (names_at w i) (bound_at w i))) (sym (map-set (shown w) vs k 64 ∙ (unfold shown in refl)))
    ∙ ap (λ z. holds z (map (shown w) (set vs k 64))) (sym names)

-- a place with the same scope
pub same-values : (w : List ℕ) (i p : ℕ) (vs : List ℕ) → scope_at w p ≡ scope_at w i → some_at w p vs ≡ some_at w i vs
unfolding some_at names_at
same-values w i p vs e = rw e

-- ── a variable: what its slot holds, or its own name ──
holds-slot : (ys : List Name) (hs : List Held) (x : Name) → index ys x < length ys → length ys ≤ length hs → holds ys hs x ≡ get_or hs (index ys x) unset
unfolding holds index
holds-slot [] hs x h k = absurd (omega arith)
holds-slot (y ∷ ys) [] x h k = absurd (omega arith)
holds-slot (y ∷ ys) (v ∷ hs) x h k = go (same_name y x) h (λ i. holds-slot ys hs x i (omega arith))
  where
    go : (b : Bool) → cond b 0 (suc (index ys x)) < length (y ∷ ys) → (index ys x < length ys → holds ys hs x ≡ get_or hs (index ys x) unset) → cond b v (holds ys hs x) ≡ get_or (v ∷ hs) (cond b 0 (suc (index ys x))) unset
    go true h k = refl
    go false h k = k (omega arith)

nth-field : (w : List ℕ) (i k : ℕ) → k < 8
    → get_or (field w i 9 ∷ field w i 10 ∷ field w i 11 ∷ field w i 12 ∷ field w i 13 ∷ field w i 14 ∷ field w i 15 ∷ field w i 16 ∷ []) k 0 ≡ field w i (slot_field + k)
nth-field w i zero h = refl
nth-field w i (suc zero) h = refl
nth-field w i (suc (suc zero)) h = refl
nth-field w i (suc (suc (suc zero))) h = refl
nth-field w i (suc (suc (suc (suc zero)))) h = refl
nth-field w i (suc (suc (suc (suc (suc zero))))) h = refl
nth-field w i (suc (suc (suc (suc (suc (suc zero)))))) h = refl
nth-field w i (suc (suc (suc (suc (suc (suc (suc zero))))))) h = refl
nth-field w i (suc (suc (suc (suc (suc (suc (suc (suc k)))))))) h = absurd (omega arith)

scope-field : (w : List ℕ) (i k : ℕ) → k < length (scope_at w i) → get_or (scope_at w i) k 0 ≡ field w i (slot_field + k)
scope-field w i k h = unfold scope_at in get_or-take _ _ k 0 few ∙ nth-field w i k (omega (arith, scope-length w i))
  where
    few : k < at_most8 (field w i count_field)
    few = unfold scope_at in omega (arith, simp length-take at h)

-- a name in scope, by the word that says where it stands
pub name-field : (w : List ℕ) (i k : ℕ) → k < length (names_at w i) → get_or (names_at w i) k [] ≡ name_at w (field w i (slot_field + k))
unfolding names_at
name-field w i k h =
    let l : k < length (scope_at w i) = omega (arith, length-map (scope_at w i) (name_at w)) in
    get_d_map (name_at w) (scope_at w i) k 0 [] l ∙ ap (name_at w) (scope-field w i k l)

module _ (w : List ℕ) (i : ℕ) (vs : List ℕ) (n : length vs ≡ 8) where
  -- what a value is written as
  abbrev written : ℕ → List ℕ
  written v = value_text (value_seen w i vs v)

  pub location-written : (v : ℕ) → v < 64 → name_at w (locs_at + v * name_size) ≡ written v
  location-written v h = unfold loc_name value_of value_text sub_v in rw (lt-ltb v 64 h)

  pub record Slot (v : ℕ) : Type 0 where
    pub few : v - 64 < length (names_at w i)
    pub first : index (names_at w i) (get_or (names_at w i) (v - 64) []) ≡ v - 64

  pub slot : (v : ℕ) → 64 ≤ v → ref_ok w (names_at w i) v ≡ true → Slot v
  unfolding ref_ok slot_ok
  slot v h e =
      let f : slot_ok (names_at w i) (v - 64) ≡ true = rw (le-ltb v 64 h) at e in
      let a = and-inv (ltb (v - 64) (length (names_at w i))) _ f in
      record { few = ltb-true _ _ a.0; first = eqb-true _ _ a.1 }

  pub slot_held : (v : ℕ) → Slot v → some_at w i vs (get_or (names_at w i) (v - 64) []) ≡ shown w (get_or vs (v - 64) 0)
  unfolding some_at
  slot_held v s =
      let l : length (names_at w i) ≤ length (map (shown w) vs) = omega (arith, length-map vs (shown w), names-length w i, scope-length w i) in
      holds-slot (names_at w i) (map (shown w) vs) (get_or (names_at w i) (v - 64) []) (omega (arith, s.few, s.first)) l
      ∙ ap (λ k. get_or (map (shown w) vs) k unset) s.first
      ∙ get_d_map (shown w) vs (v - 64) 0 unset (omega (arith, s.few, names-length w i, scope-length w i))

  variable-is : (v : ℕ) → 64 ≤ v → written v ≡ value_text (held (some_at w i vs (get_or (names_at w i) (v - 64) [])) (get_or (names_at w i) (v - 64) []))
  variable-is v h = unfold value_of sub_v in rw (le-ltb v 64 h)

  pub value_written : (v : ℕ) → 64 ≤ v → ref_ok w (names_at w i) v ≡ true → get_or vs (v - 64) 0 < 64 → name_at w (locs_at + get_or vs (v - 64) 0 * 4) ≡ written v
  value_written v h e k =
      sym (variable-is v h ∙ rw (slot_held v (slot v h e)) (unfold shown held value_text loc_name in rw (lt-ltb (get_or vs (v - 64) 0) 64 k)))

  pub name-written : (v : ℕ) → 64 ≤ v → ref_ok w (names_at w i) v ≡ true → 64 ≤ get_or vs (v - 64) 0 → name_at w (field w i (slot_field + (v - 64))) ≡ written v
  name-written v h e k =
      let s = slot v h e in
      sym (variable-is v h ∙ rw (slot_held v s) (unfold shown held value_text in rw (le-ltb (get_or vs (v - 64) 0) 64 k)) ∙ name-field w i (v - 64) s.few)

  pub slot-few : (v : ℕ) → 64 ≤ v → ref_ok w (names_at w i) v ≡ true → v - 64 < 8
  slot-few v h e = omega (arith, (slot v h e).few, names-length w i, scope-length w i)
