-- The name, the number of parameters, the parameters; the body is skipped.
use Rattle.text_fill.proofs.Defs.{def-word, params-at, no-list, no-equals, no-body, head-no-dot, head-put}
use Rattle.text_fill.proofs.definitions.put_head.Goals as goal

pub returns-in_err-x : goal.returns-in_err-x
returns-in_err-x c = λ x. absurd (c.in_err-x.ensures _ _ (def-word x))

pub returns-in_err-us : goal.returns-in_err-us
returns-in_err-us c = λ x. absurd (no-list x _ (c.in_ok-x.ensures _ _ (def-word x)) c.in_err-us.ensures)

pub params_at-requires : goal.params_at-requires
params_at-requires c =
    let x = c.requires.2 in
    (c.requires.0, params-at x _ (c.in_ok-x.ensures _ _ (def-word x)))

pub returns-in_err-params_at : goal.returns-in_err-params_at
returns-in_err-params_at c = λ x. absurd (c.in_err-params_at.ensures (params-at x _ (c.in_ok-x.ensures _ _ (def-word x))))

pub returns-in_err-e : goal.returns-in_err-e
returns-in_err-e c = λ x. absurd (no-equals x _ (c.in_ok-x.ensures _ _ (def-word x)) _ c.in_ok-us.ensures c.in_err-e.ensures)

pub returns-in_err-p : goal.returns-in_err-p
returns-in_err-p c = λ x. absurd (no-body x _ (c.in_ok-x.ensures _ _ (def-word x)) _ c.in_ok-us.ensures _ c.in_ok-e.ensures c.in_err-p.ensures)

pub returns-in_err-d : goal.returns-in_err-d
returns-in_err-d c = λ x. absurd (head-no-dot x _ (c.in_ok-x.ensures _ _ (def-word x)) _ c.in_ok-us.ensures _ c.in_ok-e.ensures _ c.in_ok-p.ensures c.in_err-d.ensures)

pub returns : goal.returns
unfolding params-at
returns c =
    λ x.
    let n = c.in_ok-x.ensures _ _ (def-word x) in
    head-put x _ n _ c.in_ok-us.ensures _ c.in_ok-e.ensures _ c.in_ok-p.ensures _ _ c.put_front.ensures (c.in_ok-params_at.ensures (params-at x _ n)) _ c.in_ok-d.ensures _ c.requires.1 c.saturating_sub.ensures
