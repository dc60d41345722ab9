-- `known_steady` meets its contract. The loop's invariant: every component looked at stays one.
use mathlib.Core.Bool.{true}
use mathlib.Core.Path.{◌≡◌}
use lib.ListN.{take}
use Rattle.terms.specs.Same.{every}
use Rattle.table.specs.Meaning.{comps_of}
use Rattle.calls_steady.specs.Steady.{stays_one}
use Rattle.calls_steady.proofs.known_steady.Given as goal

abbrev pub invariant-loop-j : goal.invariant-loop-j
invariant-loop-j l = every (stays_one l.net.script.now l.l) (take l.j (comps_of (record { c = l.net.words.now; n = l.net.n }))) ≡ true
