-- `fire_call` meets its contract: the mark decides question 9, the head the rest.
use mathlib.Core.Path.{sym, ap, ◌∙◌}
use Rattle.terms.specs.Rules.Kind.{calls}
use Rattle.table.specs.Words.{head_at}
use Rattle.table.specs.Fire.{becomes_at}
use Rattle.calls_fire.proofs.Heads.{place-fits, callee-fits, call-free, alone-marked, alone-free}
use Rattle.calls_fire.proofs.fire.fire_call.Goals as goal

pub returns-then-c-lt64 : goal.returns-then-c-lt64
returns-then-c-lt64 c = alone-marked c.args.w.now calls c.args.c c.if-c-lt64.true

pub head_at-h-requires : goal.head_at-h-requires
head_at-h-requires c =
    let a = c.args in
    let q = c.requires in
    rw c.wide.ensures (place-fits a.w.now a.c q.0 q.1)

pub becomes_call-requires : goal.becomes_call-requires
becomes_call-requires c =
    let a = c.args in
    let q = c.requires in
    rw (c.head_at-h.ensures, c.wide.ensures) (callee-fits a.w.now a.c q.0 q.1, place-fits a.w.now a.c q.0 q.1)

pub returns : goal.returns
returns c =
    let a = c.args in
    let h = ap (becomes_at a.w.now calls a.c) (c.head_at-h.ensures ∙ ap (head_at a.w.now) c.wide.ensures) in
    c.becomes_call.ensures ∙ sym (call-free a.w.now a.c _) ∙ alone-free a.w.now calls a.c _ c.if-c-lt64.false h
