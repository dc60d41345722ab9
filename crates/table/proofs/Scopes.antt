-- Setting a slot is putting a value in, shadowing included; a variable's value is in its slot.
-- Idea: the environment of a scope looks a name up at its first index, and an input enters its name there.
use Prim.Native.Nat.{suc, ◌≤◌, ◌<◌}
use native.Mathlib.Omega.{arith}
use mathlib.Core.List.{List, [], ◌∷◌, ◌++◌}
use mathlib.Core.Bool.{Bool, true, false, cond}
use mathlib.Core.Path.{◌≡◌, refl, ap, ◌∙◌, fun_ext}
use lib.Dec.{ltb}
use lib.ListN.{length, get_or, set}
use borrow.Author.Tests.{lt-ltb, le-ltb, ltb-true, ltb-false}
use Rattle.terms.specs.Names.{Name, same_name}
use Rattle.terms.specs.Terms.{Process}
use Rattle.terms.specs.Substitution.{Held, just, env, hide, sub_p}
use Rattle.terms.specs.Substitution.Held.{unset, is}
use Rattle.terms.proofs.Names.{name-eq, name-refl}
use Rattle.terms.proofs.Substitution.{else, both, twice_p}
use Rattle.table.specs.Valid.{index}

-- the scope of the P of an input that binds x
unfoldable pub enter : List Name → Name → List Name
enter [] x = x ∷ []
enter (y ∷ ys) x = cond (same_name y x) (y ∷ ys) (y ∷ enter ys x)

pub enter-is : (ys : List Name) (x : Name) → cond (ltb (index ys x) (length ys)) ys (ys ++ (x ∷ [])) ≡ enter ys x
unfolding enter index
enter-is [] x = refl
enter-is (y ∷ ys) x = go (same_name y x) (ltb (index ys x) (length ys)) refl (enter-is ys x)
  where
    go : (b t : Bool) → ltb (index ys x) (length ys) ≡ t → cond t ys (ys ++ (x ∷ [])) ≡ enter ys x
        → cond (ltb (cond b 0 (suc (index ys x))) (length (y ∷ ys))) (y ∷ ys) (y ∷ (ys ++ (x ∷ []))) ≡ cond b (y ∷ ys) (y ∷ enter ys x)
    go true t q h = rw (lt-ltb 0 (length (y ∷ ys)) (omega arith))
    go false true q h = rw (lt-ltb (suc (index ys x)) (length (y ∷ ys)) (omega (arith, ltb-true (index ys x) (length ys) q))) (ap (λ z. y ∷ z) h)
    go false false q h = rw (le-ltb (suc (index ys x)) (length (y ∷ ys)) (omega (arith, ltb-false (index ys x) (length ys) q))) (ap (λ z. y ∷ z) h)

-- ── an input that receives: its slot is set ──
pub received-at : (ys vs : List Name) (y v x : Name) → index ys y < length vs → both (hide y (env ys vs)) (just y v) x ≡ env (enter ys y) (set vs (index ys y) v) x
unfolding both hide just env enter index else
received-at [] [] y v x h = absurd (omega arith)
received-at [] (w ∷ vs) y v x h = go (same_name y x)
  where
    go : (b : Bool) → else (cond b unset unset) (cond b (is v) unset) ≡ cond b (is v) unset
    go true = refl
    go false = refl
received-at (z ∷ ys) [] y v x h = absurd (omega arith)
received-at (z ∷ ys) (w ∷ vs) y v x h = go (same_name z y) refl h (λ i. received-at ys vs y v x i)
  where
    other : (b c : Bool) → same_name y x ≡ b → same_name z x ≡ c → same_name z y ≡ false
        → else (cond b unset (env ys vs x)) (cond b (is v) unset) ≡ env (enter ys y) (set vs (index ys y) v) x
        → else (cond b unset (cond c (is w) (env ys vs x))) (cond b (is v) unset) ≡ cond c (is w) (env (enter ys y) (set vs (index ys y) v) x)
    other true true p q n k = let m : same_name z y ≡ true = rw (name-eq z x q, name-eq y x p) (name-refl x) in let f : false ≡ true = cc in cc
    other true false p q n k = k
    other false true p q n k = refl
    other false false p q n k = k

    same : (b : Bool) (f : Held) → else (cond b unset (cond b (is w) f)) (cond b (is v) unset) ≡ cond b (is v) f
    same true f = refl
    same false f = twin f
      where
        twin : (f : Held) → else f unset ≡ f
        twin unset = refl
        twin (is l) = refl

    go : (b : Bool) → same_name z y ≡ b → cond b 0 (suc (index ys y)) < length (w ∷ vs)
        → (index ys y < length vs → both (hide y (env ys vs)) (just y v) x ≡ env (enter ys y) (set vs (index ys y) v) x)
        → both (hide y (env (z ∷ ys) (w ∷ vs))) (just y v) x ≡ env (cond b (z ∷ ys) (z ∷ enter ys y)) (set (w ∷ vs) (cond b 0 (suc (index ys y))) v) x
    go true e i k = let q : same_name z x ≡ same_name y x = rw (name-eq z y e) in rw q (same (same_name y x) (env ys vs x))
    go false e i k = other (same_name y x) (same_name z x) refl refl e (k (omega arith))

-- updating the environment is substitution: what the rules make of an input's P is P with the slot set
pub received : (p : Process) (ys vs : List Name) (y v : Name) → index ys y < length vs
    → sub_p (sub_p p (hide y (env ys vs))) (just y v) ≡ sub_p p (env (enter ys y) (set vs (index ys y) v))
received p ys vs y v h = twice_p p (hide y (env ys vs)) (just y v) ∙ ap (sub_p p) (fun_ext (λ x. received-at ys vs y v x h))

-- ── a variable's value is in its slot ──
pub slotted : (ys vs : List Name) (x : Name) → index ys x < length ys → length ys ≤ length vs → env ys vs x ≡ is (get_or vs (index ys x) [])
unfolding env index
slotted [] vs x h k = absurd (omega arith)
slotted (y ∷ ys) [] x h k = absurd (omega arith)
slotted (y ∷ ys) (v ∷ vs) x h k = go (same_name y x) h (λ i. slotted ys vs x i (omega arith))
  where
    go : (b : Bool) → cond b 0 (suc (index ys x)) < length (y ∷ ys) → (index ys x < length ys → env ys vs x ≡ is (get_or vs (index ys x) [])) → cond b (is v) (env ys vs x) ≡ is (get_or (v ∷ vs) (cond b 0 (suc (index ys x))) [])
    go true h k = refl
    go false h k = k (omega arith)

pub index-enter : (ys : List Name) (y : Name) → index ys y < length (enter ys y)
unfolding index enter
index-enter [] y = omega arith
index-enter (z ∷ ys) y = go (same_name z y) (index-enter ys y)
  where
    go : (b : Bool) → index ys y < length (enter ys y) → cond b 0 (suc (index ys y)) < length (cond b (z ∷ ys) (z ∷ enter ys y))
    go true h = omega arith
    go false h = omega arith
