-- The name and the number of parameters; their scope; the body.
use native.Mathlib.Omega.{arith}
use Rattle.text_fill.proofs.Defs.{def-word, no-list, no-equals, param-count, params-few, body_at, body-no-dot, body-put}
use Rattle.text_fill.proofs.definitions.put_body.Goals as goal

pub returns-in_err-x : goal.returns-in_err-x
returns-in_err-x c = λ x. absurd (c.in_err-x.ensures _ _ (def-word x))

pub returns-in_err-us : goal.returns-in_err-us
returns-in_err-us c = λ x. absurd (no-list x _ (c.in_ok-x.ensures _ _ (def-word x)) c.in_err-us.ensures)

pub returns-in_err-e : goal.returns-in_err-e
returns-in_err-e c = λ x. absurd (no-equals x _ (c.in_ok-x.ensures _ _ (def-word x)) _ c.in_ok-us.ensures c.in_err-e.ensures)

pub params_scope-sc-requires : goal.params_scope-sc-requires
params_scope-sc-requires c =
    let x = c.requires.2 in
    let e = param-count x _ (c.in_ok-x.ensures _ _ (def-word x)) _ c.in_ok-us.ensures in
    let f = x.few in
    (c.requires.0, omega arith)

pub put_process-p-requires : goal.put_process-p-requires
put_process-p-requires c =
    let x = c.requires.2 in
    let n = c.in_ok-x.ensures _ _ (def-word x) in
    let e = param-count x _ n _ c.in_ok-us.ensures in
    let f = x.few in
    let g = params-few _ _ _ _ _ c.params_scope-sc.ensures in
    (c.requires.1, omega arith, body_at x _ n _ c.in_ok-us.ensures _ c.in_ok-e.ensures)

pub returns-in_err-d : goal.returns-in_err-d
returns-in_err-d c = λ x. absurd (body-no-dot x _ (c.in_ok-x.ensures _ _ (def-word x)) _ c.in_ok-us.ensures _ c.in_ok-e.ensures _ c.put_process-p.ensures c.in_err-d.ensures)

pub returns : goal.returns
returns c =
    λ x.
    let n = c.in_ok-x.ensures _ _ (def-word x) in
    body-put x _ n _ c.in_ok-us.ensures _ c.in_ok-e.ensures _ c.put_process-p.ensures _ c.params_scope-sc.ensures _ c.in_ok-d.ensures _ c.saturating_sub.ensures
