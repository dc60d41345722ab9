-- Sums and largest numbers that stop at a limit k: stopping on the way and stopping at the end give the same.
-- By `omega`, a few of its cases at a time.
use Prim.Native.Nat.{ℕ, ◌+◌, min, max}
use native.Mathlib.Omega.{arith}
use mathlib.Core.Path.{◌≡◌, sym, ap, ◌∙◌}

both-stop : (k a b : ℕ) → min (min a k + min b k) k ≡ min (a + b) k
both-stop k a b = omega arith

one-stops : (k a b : ℕ) → min (a + min b k) k ≡ min (a + b) k
one-stops k a b = omega arith

pub sum-on : (k a x y : ℕ) → min (min (a + min x k) k + min y k) k ≡ min (a + min (x + y) k) k
sum-on k a x y =
    let c : a + min x k + y ≡ y + a + min x k = omega arith in
    let d : y + a + x ≡ a + (x + y) = omega arith in
    both-stop k (a + min x k) y ∙ ap (λ n. min n k) c ∙ one-stops k (y + a) x ∙ ap (λ n. min n k) d ∙ sym (one-stops k a (x + y))

min-max : (k x y : ℕ) → min (max x y) k ≡ max (min x k) (min y k)
min-max k x y = omega arith

pub max_assoc : (a b c : ℕ) → max (max a b) c ≡ max a (max b c)
max_assoc a b c = omega arith

pub max-on : (k a x y : ℕ) → max (max a (min x k)) (min y k) ≡ max a (min (max x y) k)
max-on k a x y = max_assoc a (min x k) (min y k) ∙ ap (max a) (sym (min-max k x y))
