-- `forced_valid` meets its contract: the marks are the forced locations (Forcing), and their set is counted (Bits).
use native.Mathlib.Omega.{arith}
use mathlib.Core.Path.{◌≡◌, sym, ◌∙◌}
use Rattle.std.proofs.Common.{rules}
use Rattle.std.specs.Prelude.{Some}
use Rattle.table.specs.declared.State.{State}
use Rattle.table.specs.Meaning.{comp_in}
use Rattle.table.proofs.InUse.{comp-held, valid-script}
use Rattle.calls_forced.specs.Marked.{ear_of, press_of}
use Rattle.calls_forced.specs.Report.{forced_test}
use Rattle.calls_forced.proofs.Bits.{report-is}
use Rattle.calls_forced.proofs.Forcing.{ear-within, press-within, set_is}
use Rattle.calls_forced.proofs.forced.forced_valid.Goals as goal

pub marked-heard-requires : goal.marked-heard-requires
marked-heard-requires c =
    let a = c.args in
    let v = c.args.net.passes in
    let st : State = record { c = a.net.words.now; n = a.net.n } in
    let s = valid-script a.net.script.now st v in (
      omega arith,
      (
        λ j h. let g = comp-held a.net.script.now st v j h in search (rules, s, g),
        λ j k h q. let e : Some k ≡ ear_of a.net.script.now (comp_in a.net.words.now j) = search rules in ear-within a.net.script.now (comp_in a.net.words.now j) k s (comp-held a.net.script.now st v j h) (sym e),
      ),
    )

pub marked-marks-requires : goal.marked-marks-requires
marked-marks-requires c =
    let a = c.args in
    let v = c.args.net.passes in
    let st : State = record { c = a.net.words.now; n = a.net.n } in
    let s = valid-script a.net.script.now st v in
    let ys = c.marked-heard.result in (
      omega arith,
      (
        λ j h. let g = comp-held a.net.script.now st v j h in search (rules, s, g),
        λ j k h q. let e : Some k ≡ press_of a.net.script.now ys (comp_in a.net.words.now j) = search rules in press-within a.net.script.now ys (comp_in a.net.words.now j) k s (comp-held a.net.script.now st v j h) (sym e),
      ),
    )

pub returns : goal.returns
returns c =
    let a = c.args in
    let st : State = record { c = a.net.words.now; n = a.net.n } in
    let ys = c.marked-heard.result in
    let m = c.marked-heard.ensures (ear_of a.net.script.now) (λ j r h q. search rules) in
    let k = c.marked-marks.ensures (press_of a.net.script.now ys) (λ j r h q. search rules) in
    report-is (forced_test a.net.script.now st) c.set_of-set.result (c.set_of-set.ensures ∙ set_is a.net.script.now st ys c.marked-marks.result c.args.net.passes m k)
