-- How many places the processes of a text take: as many as they have parts. The first of them begins at the highest place, each next one below it.
-- By induction on the process, and on the lists of definitions and located processes.
use Prim.Native.Nat.{ℕ, suc, ◌+◌, ◌-◌}
use native.Mathlib.Omega.{arith}
use mathlib.Core.List.{List, [], ◌∷◌, flat_map}
use mathlib.Core.Path.{◌≡◌, refl, ap, ◌∙◌}
use lib.ListN.{length, length-append}
use Rattle.terms.specs.Names.{Name}
use Rattle.terms.specs.Terms.{Part, Process, Def}
use Rattle.terms.specs.Terms.Part.{stop, go, out, inp, call}
use Rattle.terms.specs.Terms.Process.{one, ◌∥◌}
use Rattle.terms.specs.Terms.Def.{define}
use Rattle.text.specs.Tree.{Located, Tree}
use Rattle.text.specs.Tree.Located.{at}
use Rattle.text.specs.Questions.{into, part_places, process_places, def_places, located_places, places, part_count}
use Rattle.table.specs.Size.{size, size_p}
use Rattle.text_tree.specs.Pass.{after_bodies}

-- ── one process ──
mutual
  unfolding part_places process_places size size_p

  part_length : (a : Part) (d : ℕ) (ys : List Name) → length (part_places a d ys) ≡ size a
  part_length stop d ys = refl
  part_length (go t v p) d ys = ap suc (process-length p (suc d) ys)
  part_length (out c t v p q) d ys = rw (length-append (process_places p (suc d) ys) (process_places q (suc d) ys), process-length p (suc d) ys, process-length q (suc d) ys)
  part_length (inp c t y p q) d ys = rw (length-append (process_places p (suc d) (into ys y)) (process_places q (suc d) ys), process-length p (suc d) (into ys y), process-length q (suc d) ys)
  part_length (call i vs) d ys = refl

  process-length : (p : Process) (d : ℕ) (ys : List Name) → length (process_places p d ys) ≡ size_p p
  process-length (one a) d ys = part_length a d ys
  process-length (a ∥ p) d ys = rw (length-append (part_places a d ys) (process_places p d ys), part_length a d ys, process-length p d ys)

-- ── all of them ──
unfoldable pub size_defs : List Def → ℕ
size_defs [] = 0
size_defs (define x us p ∷ ds) = size_p p + size_defs ds

unfoldable pub size_located : List Located → ℕ
size_located [] = 0
size_located (at l p ∷ ls) = size_p p + size_located ls

defs-length : (ds : List Def) → length (flat_map def_places ds) ≡ size_defs ds
unfolding flat_map def_places size_defs
defs-length [] = refl
defs-length (define x us p ∷ ds) = rw (length-append (def_places (define x us p)) (flat_map def_places ds), process-length p 1 _, defs-length ds)

located-length : (ls : List Located) → length (flat_map located_places ls) ≡ size_located ls
unfolding flat_map located_places size_located
located-length [] = refl
located-length (at l p ∷ ls) = rw (length-append (located_places (at l p)) (flat_map located_places ls), process-length p 1 _, located-length ls)

pub parts_are : (t : Tree) → part_count t ≡ size_defs t.defs + size_located t.located
unfolding part_count places
parts_are t = rw (length-append (flat_map def_places t.defs) (flat_map located_places t.located), defs-length t.defs, located-length t.located)

-- where n places are left, the bodies leave n less their sizes
pub behind-is : (ds : List Def) (i n : ℕ) → i ≡ n - 1 → after_bodies ds i ≡ n - size_defs ds - 1
unfolding after_bodies size_defs
behind-is [] i n e = omega arith
behind-is (define x us p ∷ ds) i n e = behind-is ds (i - size_p p) (n - size_p p) (omega arith) ∙ omega arith
