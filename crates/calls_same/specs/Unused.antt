-- The components of the second network that no component of the first has been matched with.
-- Serves inner contracts only.
use Rattle.std.specs.Prelude.{ℕ, ◌+◌, List, [], ◌∷◌, Bool, true, false, cond, not, ◌&&◌, eqb, get_or}
use Rattle.terms.specs.Same.{equal}
use Rattle.table.specs.declared.Comp.{Comp}
use Rattle.table.specs.Meaning.{comp_in, means}

-- what is not marked as used; what is past the marks is used
unfoldable pub unused : {A : Type 0} → List Bool → List A → List A
unused [] cs = []
unused (u ∷ us) [] = []
unused (true ∷ us) (c ∷ cs) = unused us cs
unused (false ∷ us) (c ∷ cs) = c ∷ unused us cs

-- the number below which every position is used, where it was low and p is used now
unfoldable pub raised_to : ℕ → ℕ → ℕ
raised_to low p = cond (eqb p low) (p + 1) low

-- the component at position p of the second is not yet used, and is the component c of the first
unfoldable pub is_match : List ℕ → Comp → List ℕ → List ℕ → List Bool → ℕ → Bool
is_match w c v b us p = not (get_or us p false) && equal (means w c) (means v (comp_in b p))
