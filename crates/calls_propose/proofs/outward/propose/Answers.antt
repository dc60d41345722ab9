-- `propose` meets its contract: the actions, and the tick on what they leave; a refusal puts the first components back (Proposing).
use mathlib.Core.Path.{refl, sym, ap, subst, ◌∙◌}
use Rattle.terms.specs.Refusals.{number_of}
use Rattle.terms.proofs.Refusals.{number-some}
use Rattle.table.specs.declared.State.{State}
use Rattle.calls_tick.specs.Ticked.{TicksAs, refusal}
use Rattle.calls_propose.specs.Proposed.{ticked_last}
use Rattle.calls_propose.proofs.Proposing.{last-refused, last_none, last-all, proposal-is}
use Rattle.calls_propose.proofs.outward.propose.Goals as goal

pub returns-in-Err : goal.returns-in-Err
returns-in-Err c =
    let a = c.args in
    let s : State = record { c = a.c.now; n = a.n } in
    let e = c.in-Err.e in
    let h = rw c.number.ensures at c.put_back.ensures in
    subst (λ x. TicksAs a.w.now s x c.put_back.result c.put_back.new.c)
    (sym (last-refused a.w.now a.l s c.all_fired.new.c (number_of e) (number-some e)) ∙ ap (ticked_last a.w.now a.l) c.in-Err.ensures.far ∙ proposal-is a.w.now s a.l a.records.now) h

pub tick_by-requires : goal.tick_by-requires
tick_by-requires c = (c.in_default.ensures.held refl).good

pub returns-in-Err-tick_by : goal.returns-in-Err-tick_by
returns-in-Err-tick_by c =
    let a = c.args in
    let s : State = record { c = a.c.now; n = a.n } in
    let f = c.in_default.ensures in
    let e = c.in-Err-tick_by.e in
    let h = rw c.number-in-Err-tick_by.ensures at c.put_back-in-Err-tick_by.ensures in
    subst (λ x. TicksAs a.w.now s x c.put_back-in-Err-tick_by.result c.put_back-in-Err-tick_by.new.c)
    (sym (last_none a.w.now a.l s c.all_fired.new.c (f.held refl).here (refusal (number_of e) a.n) _ c.in-Err-tick_by.ensures (number-some e)) ∙ ap (ticked_last a.w.now a.l) f.far ∙ proposal-is a.w.now s a.l a.records.now) h

pub returns-in-Ok : goal.returns-in-Ok
returns-in-Ok c =
    let a = c.args in
    let s : State = record { c = a.c.now; n = a.n } in
    let f = c.in_default.ensures in
    let h = f.held refl in
    subst (λ x. TicksAs a.w.now s x (record { code = 0; n = c.in-Ok.m }) c.tick_by.new.c) (ap (ticked_last a.w.now a.l) f.far ∙ proposal-is a.w.now s a.l a.records.now)
    (last-all a.w.now a.l s c.all_fired.new.c h.here _ _ c.in-Ok.ensures h.past refl)
