-- `becomes_move` meets its contract: a head that is no `go` is refused, and of a `go` the definition computes.
use mathlib.Core.Path.{sym, ap}
use Rattle.terms.specs.Rules.Kind.{moves}
use Rattle.table.specs.Fire.{becomes_at}
use Rattle.calls_fire.proofs.Heads.{no-go}
use Rattle.calls_fire.proofs.fire.becomes_move.Goals as goal

pub returns-in_default : goal.returns-in_default
returns-in_default c = λ w. no-go w c.args.c c.args.h c.in_default.not-Go

pub returns : goal.returns
unfolding becomes_at
returns c = λ w. rw (c.left.ensures, c.value_in-x.ensures) (sym (ap (becomes_at w moves c.args.c) c.in-Go.is))
