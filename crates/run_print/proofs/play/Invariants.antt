-- What was printed stands in front of what is left, l locations of the round being done. A round is counted
-- as 64 steps, and what a step prints as 13,329 bytes.
use Prim.Native.Nat.{◌+◌, ◌*◌, ◌≤◌}
use mathlib.Core.Bool.{true}
use mathlib.Core.Path.{◌≡◌}
use Rattle.table.specs.Meaning.{context_of, counted_of}
use Rattle.table.specs.Valid.{valid}
use Rattle.text_build.specs.Rows.{locs_of}
use Rattle.run_print.specs.Print.{four, playing}
use Rattle.run_print.proofs.Playing.{Playing}
use Rattle.run_print.proofs.play.Given as goal

abbrev pub invariant-loop-round : goal.invariant-loop-round
invariant-loop-round l = (valid l.w l.now ≡ true) × Playing l.w l.fn.page (playing (context_of l.w) (four (locs_of l.w)) (counted_of l.w l.initial.now)) l.page l.now l.round 0 × (l.page.at ≤ l.fn.page.at + 13_329 * (l.round * 64))

abbrev pub invariant-loop-l : goal.invariant-loop-l
invariant-loop-l l = (valid l.w l.now ≡ true) × Playing l.w l.fn.page (playing (context_of l.w) (four (locs_of l.w)) (counted_of l.w l.fn.st)) l.page l.now l.round l.l × (l.page.at ≤ l.fn.page.at + 13_329 * (l.round * 64 + l.l))
