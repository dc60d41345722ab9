-- `sweep` meets its contract: the records written and the sweep over the positions left are the whole sweep (Going).
use native.Mathlib.Omega.{arith}
use mathlib.Core.Path.{sym, ap, ◌∙◌}
use Rattle.table.specs.declared.State.{State}
use Rattle.table.specs.Words.{head_at}
use Rattle.table.proofs.Tests.{comp-fine}
use Rattle.table.proofs.InUse.{valid-script, valid-state}
use Rattle.table.proofs.ValidBool.{failed, passed}
use Rattle.calls_act.proofs.Positions.{few-comps}
use Rattle.calls_fire.proofs.Heads.{place-fits}
use Rattle.calls_sweep.proofs.Sweeping.{act-ready, act-unready, sends-ready}
use Rattle.calls_sweep.proofs.Going.{going-begin, going-fires, going-idle, going_end, adding-begin, adding-fires, adding-idle, adding-end, good-at, channel-fits, other_fits, as-here}
use Rattle.calls_sweep.proofs.sweep.sweep.Goals as goal

pub loop-p-init : goal.loop-p-init
loop-p-init c =
    let a = c.args in
    let v = c.requires in
    let st : State = record { c = a.c.now; n = a.n } in
    (going-begin a.w.now a.l st _ _ _ v.1 v.2 (valid-state _ _ v.0).each c.wait_all.ensures, adding-begin a.w.now a.l st)

pub comp_at-d-requires : goal.comp_at-d-requires
comp_at-d-requires c = omega (arith, few-comps _ _ c.requires.0)

pub loop-p-preserved-then-not-ready_at : goal.loop-p-preserved-then-not-ready_at
loop-p-preserved-then-not-ready_at c =
    let s = valid-script _ _ c.requires.0 in
    let f = few-comps _ _ c.requires.0 in
    let h = c.loop-p-test.true in
    let i = c.loop-p.invariant.0 in
    let r = rw c.comp_at-d.ensures at (failed c.if-not-ready_at.true c.ready_at.ensures) in
    (going-idle _ s _ _ _ _ _ _ _ _ _ f i h (act-unready _ _ _ _ r), adding-idle _ s _ _ _ _ _ _ _ _ _ f i h (act-unready _ _ _ _ r) _ _ c.loop-p.invariant.1)

pub head_at-h-requires : goal.head_at-h-requires
head_at-h-requires c =
    let s = valid-script _ _ c.requires.0 in
    let f = few-comps _ _ c.requires.0 in
    let h = c.loop-p-test.true in
    let i = c.loop-p.invariant.0 in
    rw c.wide.ensures (place-fits _ c.comp_at-d.result s (rw c.comp_at-d.ensures (good-at _ s _ _ _ _ _ _ _ _ _ f i h _ h)))

pub bounds-heads-s : goal.bounds-heads-s
bounds-heads-s c =
    let s = valid-script _ _ c.requires.0 in
    let f = few-comps _ _ c.requires.0 in
    let h = c.loop-p-test.true in
    let i = c.loop-p.invariant.0 in
    let r = passed c.if-not-ready_at.false c.ready_at.ensures in
    let g = ap (head_at c.args.w.now) (sym c.wide.ensures) ∙ sym c.head_at-h.ensures in
    let n = c.wide-s.ensures ∙ c.sends_by.ensures ∙ sym (sends-ready c.args.w.now c.args.l c.comp_at-d.result c.head_at-h.result r g) in
    omega (arith, rw c.comp_at-d.ensures at n, channel-fits _ s _ _ _ _ _ _ _ _ _ f i h)

pub loop-p-preserved-in_default : goal.loop-p-preserved-in_default
loop-p-preserved-in_default c =
    let s = valid-script _ _ c.requires.0 in
    let f = few-comps _ _ c.requires.0 in
    let h = c.loop-p-test.true in
    let i = c.loop-p.invariant.0 in
    let r = passed c.if-not-ready_at.false c.ready_at.ensures in
    let g = ap (head_at c.args.w.now) (sym c.wide.ensures) ∙ sym c.head_at-h.ensures in
    let n = c.wide-s.ensures ∙ c.sends_by.ensures ∙ sym (sends-ready c.args.w.now c.args.l c.comp_at-d.result c.head_at-h.result r g) in
    let e = rw (n, c.comp_at-d.ensures) at (act-ready c.args.w.now c.args.l c.comp_at-d.result _ c.head_at-h.result r g ∙ sym c.act_by.ensures ∙ c.in_default.is) in
    (going-idle _ s _ _ _ _ _ _ _ _ _ f i h e, adding-idle _ s _ _ _ _ _ _ _ _ _ f i h e _ _ c.loop-p.invariant.1)

pub comp_at-e-requires : goal.comp_at-e-requires
comp_at-e-requires c =
    let s = valid-script _ _ c.requires.0 in
    let f = few-comps _ _ c.requires.0 in
    let h = c.loop-p-test.true in
    let i = c.loop-p.invariant.0 in
    let r = passed c.if-not-ready_at.false c.ready_at.ensures in
    let g = ap (head_at c.args.w.now) (sym c.wide.ensures) ∙ sym c.head_at-h.ensures in
    let n = c.wide-s.ensures ∙ c.sends_by.ensures ∙ sym (sends-ready c.args.w.now c.args.l c.comp_at-d.result c.head_at-h.result r g) in
    let z = rw (n, c.comp_at-d.ensures) at c.other_of-q.ensures in
    omega (arith, z, other_fits _ s _ _ _ _ _ _ _ _ _ f i h, f)

pub perform-v-requires : goal.perform-v-requires
perform-v-requires c =
    let s = valid-script _ _ c.requires.0 in
    let f = few-comps _ _ c.requires.0 in
    let h = c.loop-p-test.true in
    let i = c.loop-p.invariant.0 in
    let r = passed c.if-not-ready_at.false c.ready_at.ensures in
    let g = ap (head_at c.args.w.now) (sym c.wide.ensures) ∙ sym c.head_at-h.ensures in
    let n = c.wide-s.ensures ∙ c.sends_by.ensures ∙ sym (sends-ready c.args.w.now c.args.l c.comp_at-d.result c.head_at-h.result r g) in
    (s, rw c.comp_at-d.ensures (good-at _ s _ _ _ _ _ _ _ _ _ f i h _ h), rw (c.comp_at-e.ensures, c.other_of-q.ensures, n, c.comp_at-d.ensures) (good-at _ s _ _ _ _ _ _ _ _ _ f i h _ (other_fits _ s _ _ _ _ _ _ _ _ _ f i h)))

pub put_comp-requires : goal.put_comp-requires
put_comp-requires c = omega (arith, few-comps _ _ c.requires.0)

pub put_comp-requires-in-loop-p : goal.put_comp-requires-in-loop-p
put_comp-requires-in-loop-p c =
    let s = valid-script _ _ c.requires.0 in
    let f = few-comps _ _ c.requires.0 in
    let h = c.loop-p-test.true in
    let i = c.loop-p.invariant.0 in
    let r = passed c.if-not-ready_at.false c.ready_at.ensures in
    let g = ap (head_at c.args.w.now) (sym c.wide.ensures) ∙ sym c.head_at-h.ensures in
    let n = c.wide-s.ensures ∙ c.sends_by.ensures ∙ sym (sends-ready c.args.w.now c.args.l c.comp_at-d.result c.head_at-h.result r g) in
    let z = rw (n, c.comp_at-d.ensures) at c.other_of-q.ensures in
    omega (arith, z, other_fits _ s _ _ _ _ _ _ _ _ _ f i h, f)

pub rec_by-requires : goal.rec_by-requires
rec_by-requires c =
    let s = valid-script _ _ c.requires.0 in
    let f = few-comps _ _ c.requires.0 in
    let h = c.loop-p-test.true in
    let i = c.loop-p.invariant.0 in
    let r = passed c.if-not-ready_at.false c.ready_at.ensures in
    let g = ap (head_at c.args.w.now) (sym c.wide.ensures) ∙ sym c.head_at-h.ensures in
    let n = c.wide-s.ensures ∙ c.sends_by.ensures ∙ sym (sends-ready c.args.w.now c.args.l c.comp_at-d.result c.head_at-h.result r g) in
    let z = rw (n, c.comp_at-d.ensures) at c.other_of-q.ensures in
    (omega (arith, f), omega (arith, z, other_fits _ s _ _ _ _ _ _ _ _ _ f i h, f))

pub offset_bounds-nexts-q : goal.offset_bounds-nexts-q
offset_bounds-nexts-q c =
    let s = valid-script _ _ c.requires.0 in
    let f = few-comps _ _ c.requires.0 in
    let h = c.loop-p-test.true in
    let i = c.loop-p.invariant.0 in
    let r = passed c.if-not-ready_at.false c.ready_at.ensures in
    let g = ap (head_at c.args.w.now) (sym c.wide.ensures) ∙ sym c.head_at-h.ensures in
    let n = c.wide-s.ensures ∙ c.sends_by.ensures ∙ sym (sends-ready c.args.w.now c.args.l c.comp_at-d.result c.head_at-h.result r g) in
    let z = rw (n, c.comp_at-d.ensures) at c.other_of-q.ensures in
    omega (arith, z, other_fits _ s _ _ _ _ _ _ _ _ _ f i h, f)

pub bounds-nexts-q : goal.bounds-nexts-q
bounds-nexts-q c =
    let s = valid-script _ _ c.requires.0 in
    let f = few-comps _ _ c.requires.0 in
    let h = c.loop-p-test.true in
    let i = c.loop-p.invariant.0 in
    let r = passed c.if-not-ready_at.false c.ready_at.ensures in
    let g = ap (head_at c.args.w.now) (sym c.wide.ensures) ∙ sym c.head_at-h.ensures in
    let n = c.wide-s.ensures ∙ c.sends_by.ensures ∙ sym (sends-ready c.args.w.now c.args.l c.comp_at-d.result c.head_at-h.result r g) in
    let z = rw (n, c.comp_at-d.ensures) at c.other_of-q.ensures in
    omega (arith, z, other_fits _ s _ _ _ _ _ _ _ _ _ f i h, f)

pub bounds-heads-s-in-loop-p : goal.bounds-heads-s-in-loop-p
bounds-heads-s-in-loop-p c =
    let s = valid-script _ _ c.requires.0 in
    let f = few-comps _ _ c.requires.0 in
    let h = c.loop-p-test.true in
    let i = c.loop-p.invariant.0 in
    let r = passed c.if-not-ready_at.false c.ready_at.ensures in
    let g = ap (head_at c.args.w.now) (sym c.wide.ensures) ∙ sym c.head_at-h.ensures in
    let n = c.wide-s.ensures ∙ c.sends_by.ensures ∙ sym (sends-ready c.args.w.now c.args.l c.comp_at-d.result c.head_at-h.result r g) in
    omega (arith, rw c.comp_at-d.ensures at n, channel-fits _ s _ _ _ _ _ _ _ _ _ f i h)

pub sent_with-sent-requires : goal.sent_with-sent-requires
sent_with-sent-requires c = omega (arith, few-comps _ _ c.requires.0, c.loop-p.invariant.1.few-sent)

pub waited_with-sum-requires : goal.waited_with-sum-requires
waited_with-sum-requires c =
    let s = valid-script _ _ c.requires.0 in
    let f = few-comps _ _ c.requires.0 in
    let h = c.loop-p-test.true in
    let i = c.loop-p.invariant.0 in
    let d = c.loop-p.invariant.1 in
    (omega (arith, f, d.few-sent, d.small), rw c.comp_at-d.ensures (comp-fine _ _ (good-at _ s _ _ _ _ _ _ _ _ _ f i h _ h)).wait)

pub loop-p-preserved : goal.loop-p-preserved
loop-p-preserved c =
    let s = valid-script _ _ c.requires.0 in
    let f = few-comps _ _ c.requires.0 in
    let h = c.loop-p-test.true in
    let i = c.loop-p.invariant.0 in
    let r = passed c.if-not-ready_at.false c.ready_at.ensures in
    let g = ap (head_at c.args.w.now) (sym c.wide.ensures) ∙ sym c.head_at-h.ensures in
    let n = c.wide-s.ensures ∙ c.sends_by.ensures ∙ sym (sends-ready c.args.w.now c.args.l c.comp_at-d.result c.head_at-h.result r g) in
    let o = rw (n, c.comp_at-d.ensures) at (act-ready c.args.w.now c.args.l c.comp_at-d.result _ c.head_at-h.result r g ∙ sym c.act_by.ensures ∙ c.in-Some.is) in
    let v = as-here o (rw (c.comp_at-e.ensures, c.other_of-q.ensures, n, c.comp_at-d.ensures) at c.perform-v.ensures) in (
      rw (c.and.ensures, c.rec_by.ensures, c.put_comp-in-loop-p.ensures, c.put_comp.ensures, c.other_of-q.ensures, n, c.comp_at-d.ensures)
          (going-fires _ s _ _ _ _ _ _ _ _ _ f i h c.perform-v.result v c.in-Some.a o),
      rw (c.waited_with-sum.ensures, c.sent_with-sent.ensures, c.put_comp-in-loop-p.ensures, c.put_comp.ensures, c.other_of-q.ensures, n, c.comp_at-d.ensures)
          (adding-fires _ s _ _ _ _ _ _ _ _ _ f i h c.perform-v.result v c.in-Some.a o _ _ c.loop-p.invariant.1),
    )

pub returns : goal.returns
returns c =
    let a = c.args in
    let st : State = record { c = a.c.now; n = a.n } in
    let i = c.loop-p.invariant.0 in
    let d = c.loop-p.invariant.1 in
    let e = going_end a.w.now a.l st _ _ _ _ _ _ _ i (omega arith) in
    let m = adding-end a.w.now a.l st _ _ _ _ d (omega arith) in
    record {
      room = i.room;
      records = e.0;
      rest = i.rest;
      number = e.1;
      few = omega (arith, i.few-count, i.few-p);
      comps = e.2;
      sent_is = m.0;
      sum_is = m.1;
      small = d.small;
      slotted = i.size;
      past = i.past;
    }
