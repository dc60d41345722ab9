-- `meet` meets its contract: only an output and an input meet, on one channel at one location.
use mathlib.Core.Path.{sym, ap, ◌∙◌}
use Rattle.table.specs.Fire.{meet_at, handed}
use Rattle.calls_fire.proofs.Heads.{no-out, no-in, meet-apart, meet-here}
use Rattle.calls_fire.proofs.fire.meet.Goals as goal

pub returns-in_default : goal.returns-in_default
returns-in_default c = let a = c.args in no-out a.c a.e a.h a.g c.in_default.not-Out

pub returns-in_default-g : goal.returns-in_default-g
returns-in_default-g c =
    let a = c.args in
    no-in a.c a.e _ _ _ _ _ a.g c.in_default-g.not-In ∙ sym (ap (λ h. meet_at a.c a.e h a.g) c.in-Out.is)

pub returns-then-d-d2 : goal.returns-then-d-d2
returns-then-d-d2 c =
    let a = c.args in
    rw (c.in-Out.is, c.in-In.is) (meet-apart a.c a.e _ _ _ _ _ _ _ _ _ _ c.then-d-d2.either)

pub returns : goal.returns
unfolding handed
returns c =
    let a = c.args in
    rw (c.received.ensures, c.left.ensures, c.value_in-x.ensures, c.in-Out.is, c.in-In.is) (meet-here a.c a.e _ _ _ _ _ _ _ _ _ _ c.if-d-d2.false c.if-l-l2.false)
