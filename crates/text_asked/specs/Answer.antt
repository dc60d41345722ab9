-- The questions that are asked of the script: 0, or the number of the first that is answered by no.
-- Serves inner contracts only.
use Rattle.std.specs.Prelude.{ℕ, cond, List}
use Rattle.text_tree.specs.Asked.{roomy, apart, calls_held, all_bound}

-- 4 as far as the scan does not know it, and 5 to 7, asked of the script
abbrev pub asked : List ℕ → ℕ
asked w = cond (roomy w) (cond (apart w) (cond (calls_held w) (cond (all_bound w) 0 7) 6) 5) 4
