-- The questions that the scan answers: 0, or the number of the first that is answered by no.
-- Serves inner contracts only.
use Rattle.std.specs.Prelude.{ℕ, cond, ◌&&◌, leb}
use Rattle.text_scan.specs.declared.Scanned.{Scanned}

-- 1 to 3, and 4 as far as the scan knows it
abbrev pub limits : Scanned → ℕ
limits c =
    cond c.short
    (cond c.form
    (cond (leb c.nesting 32)
    (cond (leb c.definitions 32 && (leb c.parameters 4 && (leb c.parts 4_096 && leb c.components 256))) 0 4) 3) 2) 1
