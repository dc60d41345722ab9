-- What the second pass builds: a process put at a place is what the place means, and its rows pass the local tests of question 17, once questions 6 and 7
-- are answered by yes (`place_known`) and no table or scope was too small (the word 4).
-- From what stands after `put` (proofs/Puts), what standing rows mean (proofs/Stands) and that they pass (proofs/Passes).
use Prim.Native.Nat.{ℕ, suc, ◌+◌, ◌≤◌, ◌<◌}
use mathlib.Core.Bool.{true}
use mathlib.Core.List.{List}
use mathlib.Core.Path.{◌≡◌}
use Rattle.terms.specs.Terms.{Process}
use Rattle.text.specs.WellFormed.{WellProcess}
use Rattle.table.specs.Words.{word}
use Rattle.table.specs.Meaning.{process_at}
use Rattle.table.specs.Valid.{part_ok}
use Rattle.table.specs.Size.{size_p}
use Rattle.text_build.specs.declared.Scope.{Scope}
use Rattle.text_build.specs.Rows.{scope_names, place_known}
use Rattle.text_build.specs.Growth.{Making}
use Rattle.text_build.specs.Put.{offsets, put}
use Rattle.text_build.proofs.Places.{Fit}
use Rattle.text_build.proofs.RowWords.{Eight}
use Rattle.text_build.proofs.Entering.{Settled}
use Rattle.text_build.proofs.Puts.{Puts, puts}
use Rattle.text_build.proofs.Stands.{process-means}
use Rattle.text_build.proofs.Passes.{GoodScope, pass}

module _ (p : Process) (i d : ℕ) (sc : Scope) (w : List ℕ) (m : Making w) (e : Eight sc) (s : Settled i (offsets sc)) (f : WellProcess p) (n : size_p p ≤ suc i) (h : i < 4_096)
    (z : word (put p i sc w) 4 ≡ 0) (k : Fit (place_known (put p i sc w)) p d (scope_names (put p i sc w) (offsets sc))) where
  done : Puts w (put p i sc w) p i d (offsets sc)
  done = puts p i d sc w m e s f n h z

  pub built-means : process_at (put p i sc w) i ≡ p
  built-means = process-means (put p i sc w) done.grew.making.locs p i d (offsets sc) done.stands n k

  pub built-passes : GoodScope (put p i sc w) (offsets sc) → (j : ℕ) → suc i ≤ j + size_p p → j ≤ i → part_ok (put p i sc w) j ≡ true
  built-passes o j a b = pass (put p i sc w) done.grew.making.locs p i d (offsets sc) done.stands n h k o j a b
