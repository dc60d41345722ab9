-- `forced_at` meets its contract: `any` asks each component whether it presses by what is heard (Hearing).
use native.Mathlib.Omega.{arith}
use Rattle.std.proofs.Common.{rules, ◌<◌, ◌∙◌}
use borrow.Author.Tests.{tests}
use Rattle.std.proofs.lemmas.Iterator.{YieldsList-from_range, serves_from_Range}
use Rattle.std.proofs.lemmas.Iterator.Search.{any_from_yields_List}
use Rattle.table.specs.declared.State.{State}
use Rattle.table.specs.Meaning.{comp_in}
use Rattle.table.proofs.InUse.{comp-held, valid-script}
use Rattle.calls_act.proofs.Positions.{few-comps}
use Rattle.calls_must.specs.Heard.{pressed_by}
use Rattle.calls_must.proofs.Hearing.{presses-any}
use Rattle.calls_must.proofs.forced.forced_at.Goals as goal

pub any-requires : goal.any-requires
any-requires c =
    let a = c.args in
    let v = c.args.net.passes in
    let st : State = record { c = a.net.words.now; n = a.net.n } in
    record {
      can = tt;
      finite = tt;
      callable = serves_from_Range (λ x q r. search rules) (λ x b e. let f : x < 256 = omega (arith, few-comps a.net.script.now st v) in let s = valid-script a.net.script.now st v in let g = comp-held a.net.script.now st v x e in search (rules, f, s, g));
    }

pub returns : goal.returns
returns c =
    let a = c.args in
    let st : State = record { c = a.net.words.now; n = a.net.n } in
    any_from_yields_List (λ j. pressed_by a.net.script.now a.l c.heard_at-ears.result (comp_in a.net.words.now j)) _ _ _ c.any.ensures.ran (YieldsList-from_range 0 a.net.n a.net.n (cc) (omega arith)) (λ x b q k. search (rules, tests))
    ∙ presses-any a.net.script.now st a.l c.heard_at-ears.result c.args.net.passes c.heard_at-ears.ensures
