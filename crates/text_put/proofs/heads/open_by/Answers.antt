-- The sort of the first word says which form the part has.
use Prim.Native.Nat.{◌-◌}
use mathlib.Core.Logic.{⊎_elim}
use mathlib.Core.Path.{refl, ap}
use Rattle.text.specs.Grammar.Head.{stops, goes, sends, receives, calls, nothing}
use Rattle.text_words.specs.Sorts.{head_is}
use Rattle.text_parts.specs.declared.Form.TheVariants.{Leaf}
use Rattle.std.specs.Prelude.{Some, None}
use Rattle.text_put.proofs.Fronts.{stop-open, by-open, list_at}
use Rattle.text_put.proofs.heads.open_by.Goals as goal

pub open_call-requires : goal.open_call-requires
open_call-requires c =
    let q = c.requires in
    (q.0, q.1, list_at q.2 (⊎_elim (ap head_is) (ap head_is) c.in-Small.is))

pub returns-in-Stop : goal.returns-in-Stop
returns-in-Stop c =
    λ y. by-open y c.args.w.now c.put_row.new.w c.args.i c.args.sc (Some (record { end = c.args.at; form = Leaf; inner = c.args.sc })) stops (ap head_is c.in-Stop.is) (λ us g. stop-open c.args.s.now c.args.w.now c.put_row.new.w c.args.i c.args.sc us (c.args.i - 1) refl c.args.at g _ refl c.put_row.ensures)

pub returns-in-Go : goal.returns-in-Go
returns-in-Go c = λ y. by-open y c.args.w.now c.open_go.new.w c.args.i c.args.sc c.open_go.result goes (ap head_is c.in-Go.is) c.open_go.ensures

pub returns-in-Out : goal.returns-in-Out
returns-in-Out c = λ y. by-open y c.args.w.now c.open_out.new.w c.args.i c.args.sc c.open_out.result sends (ap head_is c.in-Out.is) c.open_out.ensures

pub returns-in-In : goal.returns-in-In
returns-in-In c = λ y. by-open y c.args.w.now c.open_in.new.w c.args.i c.args.sc c.open_in.result receives (ap head_is c.in-In.is) c.open_in.ensures

pub returns-in-Small : goal.returns-in-Small
returns-in-Small c = λ y. by-open y c.args.w.now c.open_call.new.w c.args.i c.args.sc c.open_call.result calls (⊎_elim (ap head_is) (ap head_is) c.in-Small.is) c.open_call.ensures

pub returns-in-Inf : goal.returns-in-Inf
returns-in-Inf c = λ y. by-open y c.args.w.now c.args.w.now c.args.i c.args.sc None nothing (⊎_elim (ap head_is) (⊎_elim (ap head_is) (ap head_is)) c.in-Inf.is) tt
