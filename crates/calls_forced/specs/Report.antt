-- The forced report: document 01, *The other calls*. A set of locations as a number of 64 bits, with how many there are and the lowest.
use Rattle.std.specs.Prelude.{ℕ, zero, suc, ◌+◌, ◌*◌, List, Bool, true, false, cond, ◌&&◌, ltb}
use Rattle.terms.specs.Rules.{forced}
use Rattle.table.specs.declared.State.{State}
use Rattle.table.specs.Words.{locs_in, loc_name}
use Rattle.table.specs.Meaning.{context_of, net_of}
use Rattle.table.specs.Valid.{valid}
use Rattle.calls_forced.specs.declared.Report.{Report}

abbrev pub bit : Bool → ℕ
bit true = 1
bit false = 0

-- the number whose bit i, of d bits, is set where p holds of j + i
unfoldable pub mask : (ℕ → Bool) → ℕ → ℕ → ℕ
mask p j zero = 0
mask p j (suc d) = mask p (suc j) d * 2 + bit (p j)

-- of how many of the d numbers from j on p holds
unfoldable pub how_many : (ℕ → Bool) → ℕ → ℕ → ℕ
how_many p j zero = 0
how_many p j (suc d) = bit (p j) + how_many p (suc j) d

-- how far from j the first of the d numbers from j on lies of which p holds; d where there is none
unfoldable pub least : (ℕ → Bool) → ℕ → ℕ → ℕ
least p j zero = 0
least p j (suc d) = cond (p j) 0 (suc (least p (suc j) d))

-- l is a location of the script where the tick is not allowed by the rules
unfoldable pub forced_test : List ℕ → State → ℕ → Bool
forced_test w st l = ltb l (locs_in w) && forced (context_of w) (loc_name w l) (net_of w st)

-- the report of the locations that pass a test
abbrev pub report_of : (ℕ → Bool) → Report
report_of p = record { code = 0; set = mask p 0 64; count = how_many p 0 64; lowest = least p 0 64 }

abbrev pub refusal : ℕ → Report
refusal n = record { code = n; set = 0; count = 0; lowest = 0 }

-- question 17 first
unfoldable pub forced_report : List ℕ → State → Report
forced_report w st = cond (valid w st) (report_of (forced_test w st)) (refusal 17)
