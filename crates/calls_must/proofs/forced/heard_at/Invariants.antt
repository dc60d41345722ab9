-- `heard_at` meets its contract. The loop's invariant: what is heard so far is what the components looked at hear.
use mathlib.Core.Path.{◌≡◌}
use lib.ListN.{length, take}
use Rattle.table.specs.Meaning.{comps_of}
use Rattle.calls_must.specs.Heard.{Heard}
use Rattle.calls_must.proofs.forced.heard_at.Given as goal

abbrev pub invariant-loop-j : goal.invariant-loop-j
invariant-loop-j l = (length l.heard ≡ 64) × Heard l.net.script.now l.l (take l.j (comps_of (record { c = l.net.words.now; n = l.net.n }))) l.heard
