-- Names are compared where the numbers leave it open; where a number was not noted, no name after it is the same.
-- By the law that names whose numbers differ are different.
use native.Mathlib.Omega.{arith}
use mathlib.Core.Bool.{not}
use mathlib.Core.Path.{sym, ap, ◌∙◌}
use lib.ListN.{get_or}
use borrow.Author.Tests.{eq-eqb}
use Rattle.table.specs.Tests.{row_name}
use Rattle.table_names.proofs.NamesRows.{again-none, mixed-apart}
use Rattle.table_names.proofs.held_again.Goals as goal

pub returns-else-seen-h-ne0 : goal.returns-else-seen-h-ne0
returns-else-seen-h-ne0 c =
    let a = c.args in
    let p = c.requires in
    let f = row_name a.w.now a.o a.s in
    let n = c.if-seen-h-ne0.false in
    ap not (eq-eqb _ _ n)
    ∙ sym (again-none a.n f (f a.i) a.i (λ k b d. let m = p.5 k (omega arith) b in mixed-apart p.4 m.mixed (λ e. let z = sym m.one ∙ ap (λ x. get_or a.seen.now x 0) e ∙ n in omega (arith, z))))
