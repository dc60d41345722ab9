-- What the contracts of the tests of the whole cite: counts, and a component by its head and by how many of its values are too large.
-- Serves inner contracts only.
use Rattle.std.specs.Prelude.{ℕ, ◌+◌, ◌≤◌, List, Bool, ◌&&◌, ◌≡◌, eqb, leb, ltb}
use Rattle.terms.specs.Same.{every}
use Rattle.terms.specs.Clock.{is_edition}
use Rattle.table.specs.declared.Comp.{Comp}
use Rattle.table.specs.Words.{parts_in, locs_in, chans_in, defs_in, edition_in}
use Rattle.table.specs.Valid.{timer_ok, mark_ok, wait_ok}
use Rattle.table_valid.specs.declared.Sums.{Sums}

-- as many parts, locations, channels and definitions as there is room for, and a known edition
unfoldable pub counts_ok : List ℕ → Bool
counts_ok w = leb (parts_in w) 4_096 && (leb (locs_in w) 64 && (leb (chans_in w) 64 && (leb (defs_in w) 32 && is_edition (edition_in w))))

-- the words of a component but for its values
unfoldable pub head_fine : List ℕ → Comp → Bool
head_fine w x = ltb x.loc (locs_in w) && (mark_ok w x.mark && (ltb x.place (parts_in w) && (timer_ok x.timer && wait_ok x.wait)))

-- no sum is above k
pub record Few (k : ℕ) (s : Sums) : Type 0 where
  pub a : s.a ≤ k
  pub b : s.b ≤ k
  pub c : s.c ≤ k
  pub d : s.d ≤ k

-- nothing was counted
abbrev pub nothing : Sums → Bool
nothing s = eqb (s.a + s.b + s.c + s.d) 0

-- r are the sums s with the values of the component x counted that are not below l
pub record Counted (l : ℕ) (x : Comp) (s r : Sums) : Type 0 where
  pub sums : nothing r ≡ (nothing s && every (λ v. ltb v l) x.vals)
  pub few : (k : ℕ) → Few k s → Few (k + 2) r
