-- `label_by` meets its contract: the kind decides which action it is.
use mathlib.Core.Path.{◌≡◌}
use Rattle.std.proofs.lemmas.Result.{err_from_is_err_and}
use Rattle.terms.specs.Rules.Answer.{accepted}
use Rattle.terms.specs.Rules.Action.{single, pair}
use Rattle.calls_act.specs.Acted.{action_of, action_allowed, kind_is}
use Rattle.calls_act.proofs.naming.label_by.Goals as goal

pub returns-in_err-kind : goal.returns-in_err-kind
unfolding action_allowed
returns-in_err-kind c =
    let p = err_from_is_err_and c.from_residual.result c.from_residual.ensures.1 in
    rw (p.1, p.2, ← c.in_err-kind.ensures)

pub returns-in-Single : goal.returns-in-Single
unfolding action_allowed
returns-in-Single c =
    let a = c.args in
    let s = c.in-Single in
    let e : accepted (single (kind_is s.kind) s.p) ≡ action_of a.kind a.p a.q = rw s.is at c.in_ok-kind.ensures in
    rw (← e) c.label_one.ensures

pub returns-in-Pair : goal.returns-in-Pair
unfolding action_allowed
returns-in-Pair c =
    let a = c.args in
    let s = c.in-Pair in
    let e : accepted (pair s.p s.q) ≡ action_of a.kind a.p a.q = rw s.is at c.in_ok-kind.ensures in
    rw (← e) c.label_pair.ensures
