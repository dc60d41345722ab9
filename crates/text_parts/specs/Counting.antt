-- The grammar's readers, giving the numbers of what they read.
-- Serves inner contracts only.
use Rattle.std.specs.Prelude.{ℕ, min, Bool, List, length}
use Rattle.terms.specs.Names.{Name}
use Rattle.text.specs.Tokens.{closes, comma}
use Rattle.text.specs.Grammar.{Reader, give, the, named, sep_by, list_of, part, process, ◌>>=◌, ◌>>◌}
use Rattle.text_words.specs.Bytes.{mapped}
use Rattle.text_parts.specs.Openings.{Opening, leaf, single, double}
use Rattle.text_parts.specs.Counts.{Count, leaf_count, joined, wrapped, part_count, process_count}

-- ── names in brackets ──
-- names joined by commas, and `)`
unfoldable pub names_form : (Name → Bool) → Reader (List Name)
names_form p = do
  xs ← sep_by comma (named p)
  the closes
  give xs

-- how many, at most 5
abbrev pub names_count : List Name → ℕ
names_count xs = min (length xs) 5

abbrev pub list_count : (Name → Bool) → Reader ℕ
list_count p ts = mapped names_count (list_of (named p) ts)

-- ── parts and processes ──
unfoldable pub part_counts : Reader Count
part_counts ts = mapped part_count (part ts)

unfoldable pub process_counts : Reader Count
process_counts ts = mapped process_count (process ts)

-- a part from its opening on, where processes are counted by P
abbrev pub close_form : Reader Count → Opening → Reader Count
close_form P leaf = give leaf_count
close_form P single = do
  x ← P
  the closes
  give (wrapped x)
close_form P double = do
  x ← P
  the comma
  y ← P
  the closes
  give (wrapped (joined x y))
