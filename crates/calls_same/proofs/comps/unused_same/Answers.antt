-- The mark at the position, then the component there.
use mathlib.Core.Path.{ap, ◌∙◌}
use Rattle.terms.specs.Same.{equal}
use Rattle.table.specs.Meaning.{means}
use Rattle.calls_same.specs.Unused.{is_match}
use Rattle.calls_same.proofs.comps.unused_same.Goals as goal

pub returns-then-not-used-p : goal.returns-then-not-used-p
unfolding is_match
returns-then-not-used-p c = rw c.if-not-used-p.true (c.same_comp.ensures ∙ ap (λ d. equal (means c.args.w.now c.args.c) (means c.args.v.now d)) c.comp_at.ensures)

pub returns-else-not-used-p : goal.returns-else-not-used-p
unfolding is_match
returns-else-not-used-p c = rw c.if-not-used-p.false
