-- The grammar's readers of definitions, located processes and texts, giving the numbers of what they read.
-- Serves inner contracts only.
use Rattle.std.specs.Prelude.{ℕ}
use Rattle.text.specs.Tokens.{bar}
use Rattle.text.specs.Grammar.{Reader, give, the, sep_by, a_def, a_located, a_network, text, ◌>>=◌, ◌>>◌}
use Rattle.text_words.specs.Bytes.{mapped}
use Rattle.text_parts.specs.Counts.{Count}
use Rattle.text_parts.specs.Counting.{process_counts}
use Rattle.text_scan.specs.Totals.{Totals, of_def, of_located, sum, tree_totals}

-- a process and the sign c
abbrev pub body_counts : ℕ → Reader Count
body_counts c = do
  x ← process_counts
  the c
  give x

unfoldable pub def_counts : Reader Totals
def_counts ts = mapped of_def (a_def ts)

unfoldable pub located_counts : Reader Totals
located_counts ts = mapped of_located (a_located ts)

-- located processes joined by `|`
unfoldable pub many_counts : Reader Totals
many_counts ts = mapped (sum of_located) (sep_by bar a_located ts)

unfoldable pub network_counts : Reader Totals
network_counts ts = mapped (sum of_located) (a_network ts)

unfoldable pub text_counts : Reader Totals
text_counts ts = mapped tree_totals (text ts)
