-- `leaves_one` meets its contract: in each arm the head is known, and it leads to places in range.
use mathlib.Core.Path.{sym, ap, subst, ◌∙◌}
use Rattle.table.specs.Words.{body_of, head_at}
use Rattle.calls_fire.proofs.Heads.{place-fits}
use Rattle.calls_steady.specs.Steady.{one_part, leaves_one}
use Rattle.calls_steady.proofs.Staying.{LeadsTo, leads-fit, two-fit, two-leave}
use Rattle.calls_steady.proofs.leaves_one.Goals as goal

pub head_at-h-requires : goal.head_at-h-requires
head_at-h-requires c =
    let q = c.requires in
    rw c.wide.ensures (place-fits c.args.w.now c.args.c q.0 q.1)

pub one_part-requires : goal.one_part-requires
one_part-requires c =
    let a = c.args in
    let q = c.requires in
    subst (LeadsTo a.w.now) (sym (c.head_at-h.ensures ∙ ap (head_at a.w.now) c.wide.ensures) ∙ c.in-Go.is) (leads-fit a.w.now a.c q.0 q.1)

pub both_one-requires : goal.both_one-requires
both_one-requires c =
    let a = c.args in
    let q = c.requires in
    two-fit a.w.now _ _ _ c.in-Out.is (subst (LeadsTo a.w.now) (sym (c.head_at-h.ensures ∙ ap (head_at a.w.now) c.wide.ensures)) (leads-fit a.w.now a.c q.0 q.1))

pub body_of-requires : goal.body_of-requires
body_of-requires c =
    let a = c.args in
    let q = c.requires in
    rw c.wide-in-Call.ensures (subst (LeadsTo a.w.now) (sym (c.head_at-h.ensures ∙ ap (head_at a.w.now) c.wide.ensures) ∙ c.in-Call.is) (leads-fit a.w.now a.c q.0 q.1)).0

pub one_part-requires-in-Call : goal.one_part-requires-in-Call
one_part-requires-in-Call c =
    let a = c.args in
    let q = c.requires in
    rw (c.body_of.ensures, c.wide-in-Call.ensures) (subst (LeadsTo a.w.now) (sym (c.head_at-h.ensures ∙ ap (head_at a.w.now) c.wide.ensures) ∙ c.in-Call.is) (leads-fit a.w.now a.c q.0 q.1)).1

pub returns-in-Stop : goal.returns-in-Stop
unfolding leaves_one
returns-in-Stop c =
    let a = c.args in
    sym (ap (leaves_one a.w.now) (sym (c.head_at-h.ensures ∙ ap (head_at a.w.now) c.wide.ensures) ∙ c.in-Stop.is))

pub returns-in-Go : goal.returns-in-Go
unfolding leaves_one
returns-in-Go c =
    let a = c.args in
    c.one_part.ensures ∙ sym (ap (leaves_one a.w.now) (sym (c.head_at-h.ensures ∙ ap (head_at a.w.now) c.wide.ensures) ∙ c.in-Go.is))

pub returns-in-Out : goal.returns-in-Out
returns-in-Out c =
    let a = c.args in
    c.both_one.ensures ∙ sym (two-leave a.w.now _ _ _ c.in-Out.is) ∙ ap (leaves_one a.w.now) (c.head_at-h.ensures ∙ ap (head_at a.w.now) c.wide.ensures)

pub returns-in-Call : goal.returns-in-Call
unfolding leaves_one
returns-in-Call c =
    let a = c.args in
    c.one_part-in-Call.ensures ∙ ap (one_part a.w.now) (c.body_of.ensures ∙ ap (body_of a.w.now) c.wide-in-Call.ensures) ∙ sym (ap (leaves_one a.w.now) (sym (c.head_at-h.ensures ∙ ap (head_at a.w.now) c.wide.ensures) ∙ c.in-Call.is))
