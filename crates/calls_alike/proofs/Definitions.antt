-- Definitions of two tables: what each is made of.
-- By what a definition stands for.
use Prim.Native.Nat.{ℕ, ◌+◌, ◌*◌}
use mathlib.Core.List.{List}
use mathlib.Core.Path.{◌≡◌, refl}
use lib.ListN.{replicate}
use Rattle.terms.specs.Terms.Def.{define}
use Rattle.table.specs.Words.{row_size, name_at, def_name, body_of, params_of, ids_at}
use Rattle.table.specs.Meaning.{def_of}
use Rattle.text_process.specs.Values.{process_seen}
use Rattle.text_process.proofs.Places.{none_seen}

-- ── one definition ──
pub def_is : (w : List ℕ) (d : ℕ) → def_of w d ≡ define (name_at w (ids_at + d * row_size)) (params_of w d) (process_seen w (body_of w d) (replicate 8 64))
def_is w d = rw (none_seen w (body_of w d)) (unfold def_of def_name in refl)
