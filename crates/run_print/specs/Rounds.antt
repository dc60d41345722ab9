-- The locations whose steps are left, of rounds over all locations.
use Rattle.std.specs.Prelude.{ℕ, zero, suc, List, [], ◌++◌, drop}
use Rattle.terms.specs.Names.{Name}

unfoldable pub copies : ℕ → List Name → List Name
copies zero ls = []
copies (suc m) ls = ls ++ copies m ls

-- m rounds are left, with l locations of the first done
unfoldable pub remaining : ℕ → ℕ → List Name → List Name
remaining zero l ls = []
remaining (suc m) l ls = drop l ls ++ copies m ls
