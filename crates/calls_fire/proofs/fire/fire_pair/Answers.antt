-- `fire_pair` meets its contract: the marks decide question 9, the heads questions 10 and 11, the rights question 20.
use mathlib.Core.Path.{sym, ap, ap₂, ◌∙◌}
use Rattle.std.proofs.lemmas.Result.{err_from_is_err_and}
use Rattle.table.specs.Words.{head_at}
use Rattle.table.specs.Fire.{meet_at}
use Rattle.calls_fire.proofs.Heads.{place-fits, together-marked, together-free, with-right, without-right}
use Rattle.calls_fire.proofs.fire.fire_pair.Goals as goal

pub returns-then-c-lt64 : goal.returns-then-c-lt64
returns-then-c-lt64 c = let a = c.args in together-marked a.w.now a.c a.e c.then-c-lt64.either

pub head_at-h-requires : goal.head_at-h-requires
head_at-h-requires c =
    let a = c.args in
    let q = c.requires in
    rw c.wide.ensures (place-fits a.w.now a.c q.0 q.1)

pub head_at-g-requires : goal.head_at-g-requires
head_at-g-requires c =
    let a = c.args in
    let q = c.requires in
    rw c.wide-2.ensures (place-fits a.w.now a.e q.0 q.2)

pub returns-in_err-m : goal.returns-in_err-m
returns-in_err-m c =
    let a = c.args in
    let h = ap₂ (meet_at a.c a.e) (c.head_at-h.ensures ∙ ap (head_at a.w.now) c.wide.ensures) (c.head_at-g.ensures ∙ ap (head_at a.w.now) c.wide-2.ensures) in
    let p = err_from_is_err_and c.from_residual.result c.from_residual.ensures.1 in
    rw (p.1, p.2) (together-free a.w.now a.c a.e _ c.if-c-lt64.false c.if-e-lt64.false (c.in_err-m.ensures ∙ h))

pub returns-then-not-granted : goal.returns-then-not-granted
returns-then-not-granted c =
    let a = c.args in
    let h = ap₂ (meet_at a.c a.e) (c.head_at-h.ensures ∙ ap (head_at a.w.now) c.wide.ensures) (c.head_at-g.ensures ∙ ap (head_at a.w.now) c.wide-2.ensures) in
    sym (without-right a.w.now _ (sym c.granted.ensures ∙ c.if-not-granted.true)) ∙ together-free a.w.now a.c a.e _ c.if-c-lt64.false c.if-e-lt64.false (c.in_ok-m.ensures ∙ h)

pub returns : goal.returns
returns c =
    let a = c.args in
    let h = ap₂ (meet_at a.c a.e) (c.head_at-h.ensures ∙ ap (head_at a.w.now) c.wide.ensures) (c.head_at-g.ensures ∙ ap (head_at a.w.now) c.wide-2.ensures) in
    sym (with-right a.w.now _ (sym c.granted.ensures ∙ c.if-not-granted.false)) ∙ together-free a.w.now a.c a.e _ c.if-c-lt64.false c.if-e-lt64.false (c.in_ok-m.ensures ∙ h)
