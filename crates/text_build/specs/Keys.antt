-- A word of the text as a name: four words of four bytes, the first letter lowest, zeros after the last.
-- Serves inner contracts only.
use Rattle.std.specs.Prelude.{ℕ, ◌+◌, ◌*◌, List, get_or}
use Rattle.table.specs.declared.Key.{Key}

unfoldable pub quad_of : List ℕ → ℕ → ℕ
quad_of s o = get_or s o 0 + 256 * get_or s (o + 1) 0 + 65_536 * get_or s (o + 2) 0 + 16_777_216 * get_or s (o + 3) 0

unfoldable pub key_of : List ℕ → Key
key_of s = record { a = quad_of s 0; b = quad_of s 4; c = quad_of s 8; d = quad_of s 12 }
