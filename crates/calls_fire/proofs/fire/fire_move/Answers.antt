-- `fire_move` meets its contract: the mark decides question 9, the head question 10, the right question 20.
use mathlib.Core.Path.{sym, ap, ◌∙◌}
use Rattle.std.proofs.lemmas.Result.{err_from_is_err_and}
use Rattle.terms.specs.Rules.Kind.{moves}
use Rattle.table.specs.Words.{head_at}
use Rattle.table.specs.Fire.{becomes_at}
use Rattle.calls_fire.proofs.Heads.{place-fits, alone-marked, alone-free, with-right, without-right}
use Rattle.calls_fire.proofs.fire.fire_move.Goals as goal

pub returns-then-c-lt64 : goal.returns-then-c-lt64
returns-then-c-lt64 c = alone-marked c.args.w.now moves c.args.c c.if-c-lt64.true

pub head_at-h-requires : goal.head_at-h-requires
head_at-h-requires c =
    let a = c.args in
    let q = c.requires in
    rw c.wide.ensures (place-fits a.w.now a.c q.0 q.1)

pub returns-in_err-f : goal.returns-in_err-f
returns-in_err-f c =
    let a = c.args in
    let h = ap (becomes_at a.w.now moves a.c) (c.head_at-h.ensures ∙ ap (head_at a.w.now) c.wide.ensures) in
    let p = err_from_is_err_and c.from_residual.result c.from_residual.ensures.1 in
    rw (p.1, p.2) (alone-free a.w.now moves a.c _ c.if-c-lt64.false (c.in_err-f.ensures a.w.now ∙ h))

pub returns-then-not-granted : goal.returns-then-not-granted
returns-then-not-granted c =
    let a = c.args in
    let h = ap (becomes_at a.w.now moves a.c) (c.head_at-h.ensures ∙ ap (head_at a.w.now) c.wide.ensures) in
    sym (without-right a.w.now _ (sym c.granted.ensures ∙ c.if-not-granted.true)) ∙ alone-free a.w.now moves a.c _ c.if-c-lt64.false (c.in_ok-f.ensures a.w.now ∙ h)

pub returns : goal.returns
returns c =
    let a = c.args in
    let h = ap (becomes_at a.w.now moves a.c) (c.head_at-h.ensures ∙ ap (head_at a.w.now) c.wide.ensures) in
    sym (with-right a.w.now _ (sym c.granted.ensures ∙ c.if-not-granted.false)) ∙ alone-free a.w.now moves a.c _ c.if-c-lt64.false (c.in_ok-f.ensures a.w.now ∙ h)
