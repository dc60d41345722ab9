use Rattle.std.proofs.Common.{◌≤◌, ◌<◌, length, take, rules, sym, ap, ◌∙◌}
use mathlib.Core.List.{flatten}
use Rattle.run_print.specs.Print.{printout}
use Rattle.run_pieces.proofs.Pieces.{joined}
use Rattle.timorun.proofs.Shown.{wrote_all, wrote_some, told_ok, told_err}
use Rattle.timorun.proofs.run.Goals as goal

pub returns-clause-printed : goal.returns-clause-printed
returns-clause-printed g c =
    let read = c.in-Ok.ensures in
    let text = take c.in-Ok.n c.read_input.new.buf in
    let few : length text ≤ 65_536 = search rules in
    let short : length text < 65_536 → c.in-Ok.n < length c.read_input.new.buf = λ h. search rules in
    told_ok _ _ _ _ _ _ c.map_err.ensures.cases c.show.ensures (wrote_all _ _ _ _ text _ 65_536 printout read.bytes few (λ h. read.end (short h)) (ap flatten c.begin-start.ensures.1 ∙ sym (joined text)))

pub returns-clause-not_written : goal.returns-clause-not_written
returns-clause-not_written g c e =
    let read = c.in-Ok.ensures in
    let text = take c.in-Ok.n c.read_input.new.buf in
    let few : length text ≤ 65_536 = search rules in
    let short : length text < 65_536 → c.in-Ok.n < length c.read_input.new.buf = λ h. search rules in
    wrote_some _ _ _ _ text _ 65_536 printout read.bytes few (λ h. read.end (short h)) (ap flatten c.begin-start.ensures.1 ∙ sym (joined text)) (told_err _ _ _ _ _ c.map_err.ensures.cases c.show.ensures _ e)
