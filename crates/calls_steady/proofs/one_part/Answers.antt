-- `one_part` meets its contract: a process has one part if no part is next.
use mathlib.Core.Path.{ap, ◌∙◌}
use lib.Dec.{eqb}
use Rattle.table.specs.Words.{next_at}
use Rattle.calls_steady.specs.Steady.{one_part}
use Rattle.calls_steady.proofs.one_part.Goals as goal

pub returns : goal.returns
unfolding one_part
returns c = ap (λ x. eqb x 0) (c.next_at.ensures ∙ ap (next_at c.args.w.now) c.wide.ensures)
