-- The numbers of a process that questions 3 and 4 limit, added up part by part.
-- Serves inner contracts only.
use Rattle.std.specs.Prelude.{ℕ, ◌+◌, min, max}
use Rattle.text.specs.Syntax.{Part, Process}
use Rattle.text.specs.Syntax.Part.{stop, go, out, inp, call}
use Rattle.text.specs.Syntax.Process.{one, ◌∥◌}

-- the deepest nesting (outermost parts have 1), the parts at any depth, and the outermost parts
pub record Count : Type 0 where
  pub nesting : ℕ
  pub parts : ℕ
  pub width : ℕ

abbrev pub leaf_count : Count
leaf_count = record { nesting = 1; parts = 1; width = 1 }

-- one after the other
abbrev pub joined : Count → Count → Count
joined x y = record { nesting = max x.nesting y.nesting; parts = x.parts + y.parts; width = x.width + y.width }

-- a part around them
abbrev pub wrapped : Count → Count
wrapped x = record { nesting = x.nesting + 1; parts = x.parts + 1; width = 1 }

unfoldable mutual
  pub part_count : Part → Count
  part_count stop = leaf_count
  part_count (go t v p) = wrapped (process_count p)
  part_count (out c t v p q) = wrapped (joined (process_count p) (process_count q))
  part_count (inp c t y p q) = wrapped (joined (process_count p) (process_count q))
  part_count (call i vs) = leaf_count

  pub process_count : Process → Count
  process_count (one a) = part_count a
  process_count (a ∥ p) = joined (part_count a) (process_count p)

-- each number stops one past its limit
abbrev pub capped : Count → Count
capped x = record { nesting = min x.nesting 33; parts = min x.parts 4097; width = min x.width 257 }
