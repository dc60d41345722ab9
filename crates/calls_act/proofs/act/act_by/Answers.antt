-- `act_by` meets its contract: the kind decides which action it is, and the action on the table is the rules' action (Positions).
use mathlib.Core.Path.{◌≡◌, refl}
use Rattle.std.proofs.lemmas.Result.{err_from_is_err_and}
use Rattle.terms.specs.Rules.Answer.{accepted}
use Rattle.terms.specs.Rules.Action.{single, pair}
use Rattle.calls_act.specs.Acted.{action_of, action_rule, kind_is}
use Rattle.calls_act.proofs.Positions.{acts-as}
use Rattle.calls_act.proofs.act.act_by.Goals as goal

pub returns-in_err-kind : goal.returns-in_err-kind
unfolding action_rule
returns-in_err-kind c =
    let p = err_from_is_err_and c.from_residual.result c.from_residual.ensures.1 in
    rw (p.1, p.2, ← c.in_err-kind.ensures) (refl, refl)

pub returns-in-Single : goal.returns-in-Single
unfolding action_rule
returns-in-Single c =
    let a = c.args in
    let s = c.in-Single in
    let e : accepted (single (kind_is s.kind) s.p) ≡ action_of a.kind a.p a.q = rw s.is at c.in_ok-kind.ensures in
    rw (← e) (acts-as a.w.now (record { c = a.c.now; n = a.n }) (single (kind_is s.kind) s.p) _ _ c.requires c.act_one.ensures)

pub returns-in-Pair : goal.returns-in-Pair
unfolding action_rule
returns-in-Pair c =
    let a = c.args in
    let s = c.in-Pair in
    let e : accepted (pair s.p s.q) ≡ action_of a.kind a.p a.q = rw s.is at c.in_ok-kind.ensures in
    rw (← e) (acts-as a.w.now (record { c = a.c.now; n = a.n }) (pair s.p s.q) _ _ c.requires c.act_pair.ensures)
