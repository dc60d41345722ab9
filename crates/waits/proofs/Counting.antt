-- Question 18 of several actions at once: so many communications more are still at most 1,000,000. And what is kept after actions one after another.
-- By induction on the actions.
use Prim.Native.Nat.{ℕ, suc, ◌+◌, ◌≤◌}
use native.Mathlib.Omega.{arith}
use mathlib.Core.List.{List, [], ◌∷◌, ◌++◌}
use mathlib.Core.Bool.{Bool, true, false, ◌&&◌}
use mathlib.Core.Path.{◌≡◌, refl, ap, sym, ◌∙◌}
use lib.Dec.{leb, ltb}
use lib.ListN.{length}
use borrow.Author.Tests.{ltb-true, ltb-false, le-leb, lt-leb}
use Rattle.terms.specs.Rules.{Action}
use Rattle.terms.specs.Rules.Action.{single, pair}
use Rattle.waits.specs.Waits.{Tally, act_tally, acts_tally, countable, messages}

-- a full count, or one communication more
pub countable-is : (xs : List Action) (n : ℕ) → n ≤ 1_000_000 → countable xs n ≡ leb (n + messages xs) 1_000_000
unfolding countable messages
countable-is [] n h = sym (le-leb (n + 0) 1_000_000 (omega arith))
countable-is (single k p ∷ xs) n h = countable-is xs n h
countable-is (pair p q ∷ xs) n h = go (ltb n 1_000_000) refl (countable-is xs (suc n))
  where
    go : (b : Bool) → ltb n 1_000_000 ≡ b → (suc n ≤ 1_000_000 → countable xs (suc n) ≡ leb (suc n + messages xs) 1_000_000) → (b && countable xs (suc n)) ≡ leb (n + suc (messages xs)) 1_000_000
    go true e k =
        let z : suc n + messages xs ≡ n + suc (messages xs) = omega arith in
        k (omega (arith, ltb-true n 1_000_000 e)) ∙ ap (λ m. leb m 1_000_000) z
    go false e k = sym (lt-leb (n + suc (messages xs)) 1_000_000 (omega (arith, ltb-false n 1_000_000 e)))

-- there are no more communications than actions
pub messages-few : (xs : List Action) → messages xs ≤ length xs
unfolding messages
messages-few [] = omega arith
messages-few (single k p ∷ xs) = omega (arith, messages-few xs)
messages-few (pair p q ∷ xs) = omega (arith, messages-few xs)

pub messages-append : (xs ys : List Action) → messages (xs ++ ys) ≡ messages xs + messages ys
unfolding messages
messages-append [] ys = omega arith
messages-append (single k p ∷ xs) ys = messages-append xs ys
messages-append (pair p q ∷ xs) ys = omega (arith, messages-append xs ys)

pub acts-append : (xs ys : List Action) (t : Tally) → acts_tally (xs ++ ys) t ≡ acts_tally ys (acts_tally xs t)
unfolding acts_tally
acts-append [] ys t = refl
acts-append (a ∷ xs) ys t = acts-append xs ys (act_tally a t)
