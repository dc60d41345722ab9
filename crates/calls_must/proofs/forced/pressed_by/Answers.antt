-- `pressed_by` meets its contract: who is not ready does not press.
use mathlib.Core.Path.{ap, ◌∙◌}
use Rattle.std.proofs.Common.{◌≡◌, get_or, false, arith, rules}
use Rattle.table.specs.Words.{head_at}
use Rattle.table.specs.Fire.{sent_on, must_act}
use Rattle.table.proofs.ValidBool.{failed, passed}
use Rattle.calls_must.specs.Heard.{pressed_by}
use Rattle.calls_must.proofs.Hearing.{marked_out}
use Rattle.calls_fire.proofs.Heads.{place-fits}
use Rattle.calls_must.proofs.forced.pressed_by.Goals as goal

pub returns-then-not-ready_at : goal.returns-then-not-ready_at
unfolding pressed_by
returns-then-not-ready_at c = rw (failed c.if-not-ready_at.true c.ready_at.ensures)

pub head_at-h-requires : goal.head_at-h-requires
head_at-h-requires c =
    let a = c.args in
    let q = c.requires in
    rw c.wide.ensures (place-fits a.w.now a.c q.0 q.1)

pub returns : goal.returns
unfolding pressed_by
returns c =
    let a = c.args in
    let e = c.head_at-h.ensures ∙ ap (head_at a.w.now) c.wide.ensures in
    let k : c.is_some_and-heard.result ≡ get_or a.ears.now (sent_on c.head_at-h.result) false = marked_out a.ears.now (omega arith) c.sent_on.result c.is_some_and-heard.result (search rules) ∙ ap (λ i. get_or a.ears.now i false) c.sent_on.ensures.number in
    rw (passed c.if-not-ready_at.false c.ready_at.ensures)
    (c.must_act.ensures
    ∙ ap (λ b. must_act a.w.now b a.c c.head_at-h.result) k
    ∙ ap (λ g. must_act a.w.now (get_or a.ears.now (sent_on g) false) a.c g) e)
