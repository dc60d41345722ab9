-- What the contracts of the inner functions cite: an answer by yes or no to the question whether two things are one.
-- Serves inner contracts only.
use Rattle.std.specs.Prelude.{Bool, true, ◌≡◌}

-- r is yes exactly if x and y are one
pub record Decides {A : Type 0} (r : Bool) (x y : A) : Type 0 where
  pub yes : r ≡ true → x ≡ y
  pub no : x ≡ y → r ≡ true
