-- A component of a table in its pieces: its location, its mark and its process.
-- By what a component stands for; all its slots hold locations.
use Prim.Native.Nat.{ℕ, ◌+◌, ◌*◌, ◌≤◌, ◌<◌}
use mathlib.Core.List.{List}
use mathlib.Core.Bool.{true}
use mathlib.Core.Path.{◌≡◌, refl}
use borrow.Author.Tests.{lt-ltb, le-ltb}
use Rattle.terms.specs.Terms.Process.{one}
use Rattle.terms.specs.Terms.Mark.{none, by}
use Rattle.terms.specs.Terms.Component.{comp}
use Rattle.table.specs.declared.Comp.{Comp}
use Rattle.table.specs.Words.{locs_at, locs_in, name_at, loc_name, name_size}
use Rattle.table.specs.Meaning.{env_at, process_of, mark_of, means}
use Rattle.table.specs.Valid.{script_ok, comp_ok}
use Rattle.table.proofs.Tests.{script-fine, comp-fine}
use Rattle.text_process.specs.Values.{part_seen, process_seen, some_at}
use Rattle.text_process.proofs.Values.{all_shown}
use Rattle.text_process.proofs.Places.{every-less}
use Rattle.calls_same.specs.Pieces.{parted}

module _ (w : List ℕ) (good : script_ok w ≡ true) (c : Comp) (fine : comp_ok w c ≡ true) where
  all_held : some_at w c.place c.vals ≡ env_at w c.place c.vals
  all_held = let f = comp-fine w c fine in all_shown w c.place c.vals (every-less (locs_in w) c.vals (script-fine w good).locs f.vals)

  pub marked-parted : c.mark < 64 → parted w c ≡ (by (name_at w (locs_at + c.mark * name_size)), process_seen w c.place c.vals)
  marked-parted h = unfold parted mark_of process_of process_seen loc_name in rw (lt-ltb c.mark 64 h, all_held)

  pub free-parted : 64 ≤ c.mark → parted w c ≡ (none, one (part_seen w c.place c.timer c.vals))
  free-parted h = unfold parted mark_of process_of part_seen in rw (le-ltb c.mark 64 h, all_held)

pub comp-is : (w : List ℕ) (c : Comp) → means w c ≡ comp (name_at w (locs_at + c.loc * name_size)) (parted w c).0 (parted w c).1
unfolding means parted loc_name
comp-is w c = refl
