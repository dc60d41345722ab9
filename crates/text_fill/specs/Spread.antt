-- The places of components, gathered in an array: what goes in behind its end is dropped (question 4 says no before).
-- Serves inner contracts only.
use Rattle.std.specs.Prelude.{ℕ, ◌+◌, min, List, [], ◌∷◌, cond, ◌≡◌, ltb, length, set}

-- the elements xs from n on
unfoldable pub spread : {A : Type 0} → List A → ℕ → List A → List A
spread out n [] = out
spread out n (x ∷ xs) = cond (ltb n (length out)) (spread (set out n x) (n + 1) xs) out

-- out becomes v with the elements xs from n on, up to r
pub record Spread {A : Type 0} (out v : List A) (n r : ℕ) (xs : List A) : Type 0 where
  pub after : v ≡ spread out n xs
  pub count : r ≡ min (n + length xs) (length out)
