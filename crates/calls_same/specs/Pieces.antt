-- The pieces in which two components are compared: the location, and all else.
-- Serves inner contracts only.
use Rattle.std.specs.Prelude.{ℕ, List}
use Rattle.terms.specs.Terms.{Process, Mark}
use Rattle.table.specs.declared.Comp.{Comp}
use Rattle.table.specs.Meaning.{mark_of, process_of}

-- what a component is but for its location: its mark and its process
unfoldable pub parted : List ℕ → Comp → Mark × Process
parted w c = (mark_of w c.mark, process_of w c)
