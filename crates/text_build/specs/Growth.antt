-- What later writes of the second pass keep: rows already written, and the numbers that names already have.
-- Serves inner contracts only.
use Rattle.std.specs.Prelude.{ℕ, suc, ◌+◌, ◌*◌, ◌≤◌, ◌<◌, List, Bool, true, ◌&&◌, ◌≡◌, ltb, length}
use Rattle.terms.specs.Names.{Name}
use Rattle.terms.specs.Terms.{Value, Part}
use Rattle.terms.specs.Terms.Value.{loc, var}
use Rattle.terms.specs.Terms.Part.{stop, go, out, inp, call}
use Rattle.terms.specs.Same.{every}
use Rattle.text.specs.Questions.{Place}
use Rattle.table.specs.Words.{row_size, locs_at, parts_at, script_words, word, locs_in, field}
use Rattle.table.specs.Valid.{index}
use Rattle.text_build.specs.Rows.{locs_of, chans_of, ids_of, chan_known}

-- ── the locations and channels of a part are in the script's tables ──
unfoldable pub loc_listed : List ℕ → Name → Bool
loc_listed w l = ltb (index (locs_of w) l) (locs_in w)

unfoldable pub value_listed : List ℕ → Value → Bool
value_listed w (loc l) = loc_listed w l
value_listed w (var x) = true

unfoldable pub part_listed : List ℕ → Part → Bool
part_listed w stop = true
part_listed w (go t v p) = value_listed w v
part_listed w (out c t v p q) = chan_known w c && value_listed w v
part_listed w (inp c t y p q) = chan_known w c
part_listed w (call d vs) = every (value_listed w) vs

unfoldable pub place_listed : List ℕ → Place → Bool
place_listed w x = part_listed w x.part

-- ── from w to v, names that are in a table keep their numbers there, and identifiers theirs ──
pub record Grown (w v : List ℕ) : Type 0 where
  pub locs : (l : Name) → loc_listed w l ≡ true → index (locs_of v) l ≡ index (locs_of w) l
  pub locs-on : (l : Name) → loc_listed w l ≡ true → loc_listed v l ≡ true
  pub chans : (c : Name) → chan_known w c ≡ true → index (chans_of v) c ≡ index (chans_of w) c
  pub chans-on : (c : Name) → chan_known w c ≡ true → chan_known v c ≡ true
  pub ids : (d : Name) → index (ids_of v) d ≡ index (ids_of w) d

-- the rows from `low` up to i are the same
abbrev pub SameRows : List ℕ → List ℕ → ℕ → ℕ → Type 0
SameRows w v low i = (j k : ℕ) → low ≤ j → j ≤ i → k < row_size → field v j k ≡ field w j k

-- ── what a write of the rows from `low` up to i, and of names, leaves: definitions, the other rows, and the number of parts and definitions ──
pub record Frame (w v : List ℕ) (low i : ℕ) : Type 0 where
  pub long : length v ≡ length w
  pub parts : word v 0 ≡ word w 0
  pub defs : word v 3 ≡ word w 3
  pub between : (o : ℕ) → 8 ≤ o → o < locs_at → word v o ≡ word w o
  pub under : (o : ℕ) → parts_at ≤ o → o < parts_at + low * row_size → word v o ≡ word w o
  pub above : (o : ℕ) → parts_at + suc i * row_size ≤ o → word v o ≡ word w o

-- ── a script in the making: its length, and its tables within their limits ──
pub record Making (w : List ℕ) : Type 0 where
  pub long : length w ≡ script_words
  pub locs : word w 1 ≤ 64
  pub chans : word w 2 ≤ 64
  pub defs : word w 3 ≤ 32
