-- What a test's branch says of the test, and conjunctions with a known part.
-- By cases on the truth values.
use mathlib.Core.Bool.{Bool, true, false, ◌&&◌}
use mathlib.Core.Path.{◌≡◌, refl, sym, ◌∙◌}

-- the branch of `if !r` that is taken, and the one that is left
pub failed : {r t : Bool} → r ≡ false → r ≡ t → t ≡ false
failed h e = sym e ∙ h

pub passed : {r t : Bool} → r ≡ true → r ≡ t → t ≡ true
passed h e = sym e ∙ h

pub and-false : (b : Bool) → (b && false) ≡ false
and-false true = refl
and-false false = refl

pub and-true : (b : Bool) → (b && true) ≡ b
and-true true = refl
and-true false = refl
