-- `conforms_at` meets its contract. The loop's invariant: the roles of the components looked at are noted, and none was taken twice.
use mathlib.Core.Bool.{true}
use mathlib.Core.Path.{◌≡◌}
use lib.ListN.{length, take}
use Rattle.std.specs.Prelude.{Some}
use Rattle.table.specs.Meaning.{comps_of}
use Rattle.calls_forced.specs.Marked.{Marked}
use Rattle.calls_profile.specs.Roles.{no_role, role_of, apart}
use Rattle.calls_profile.proofs.test.conforms_at.Given as goal

abbrev pub invariant-loop-j : goal.invariant-loop-j
invariant-loop-j l =
    (length l.taken ≡ no_role) × Marked no_role (λ c. Some (role_of l.net.script.now l.l c)) (take l.j (comps_of (record { c = l.net.words.now; n = l.net.n }))) l.taken × (apart (role_of l.net.script.now l.l) (take l.j (comps_of (record { c = l.net.words.now; n = l.net.n }))) ≡ true)
