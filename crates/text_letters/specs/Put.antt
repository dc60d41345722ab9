-- What the contracts of the writer's inner functions cite: bytes put one after the other into a buffer from a place on.
-- A byte past the buffer's end is counted and dropped, so that the same functions measure a text (in a buffer of no bytes) and write it.
-- The count stops at 2^63, which is above the length of every buffer.
use Rattle.std.specs.Prelude.{ℕ, ◌+◌, List, [], ◌∷◌, cond, ◌≡◌, ltb, set}

-- the place after a byte
unfoldable pub next : ℕ → ℕ
next at = cond (ltb at 9_223_372_036_854_775_808) (at + 1) at

-- the place after the bytes s
unfoldable pub after : ℕ → List ℕ → ℕ
after at [] = at
after at (b ∷ s) = after (next at) s

-- the buffer d with the bytes s from the place on
unfoldable pub over : List ℕ → ℕ → List ℕ → List ℕ
over d at [] = d
over d at (b ∷ s) = over (set d at b) (next at) s

-- the bytes s were put into d from the place `at` on, which left e and the place r
pub record Wrote (d : List ℕ) (at : ℕ) (s e : List ℕ) (r : ℕ) : Type 0 where
  pub bytes : e ≡ over d at s
  pub place : r ≡ after at s
