-- `network_at` reads located processes, `.` and the end of the text.
-- Past the dot only blanks may stand.
use mathlib.Core.Path.{ap, ◌∙◌}
use Rattle.text_scan.specs.Answers.{totaled}
use Rattle.text_scan.proofs.Texts.{network-bad, network-no-dot, network-more, network-end}
use Rattle.text_scan.proofs.network_at.Goals as goal

pub returns-in_err-t : goal.returns-in_err-t
returns-in_err-t c =
    let s = c.args.s.now in
    ap (totaled s) c.from_residual.ensures ∙ network-bad s c.args.at c.in_err-t.ensures

pub returns-in_err-d : goal.returns-in_err-d
returns-in_err-d c =
    let s = c.args.s.now in
    ap (totaled s) c.from_residual-in_err-d.ensures ∙ network-no-dot s c.args.at _ c.in_ok-t.ensures c.in_err-d.ensures

pub returns-then-e-s : goal.returns-then-e-s
returns-then-e-s c = network-more c.args.s.now c.args.at _ c.in_ok-t.ensures _ c.in_ok-d.ensures _ c.skip_blanks-e.ensures c.if-e-s.true

pub returns : goal.returns
returns c = network-end c.args.s.now c.args.at _ c.in_ok-t.ensures _ c.in_ok-d.ensures _ c.skip_blanks-e.ensures c.if-e-s.false
