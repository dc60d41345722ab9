-- A part up to its first process, by its head.
-- By the law of each head.
use native.Mathlib.Omega.{arith}
use mathlib.Core.Path.{sym, ◌∙◌}
use lib.Seq.{length-take-le}
use Rattle.text_letters.proofs.Pages.{same}
use Rattle.text_process.proofs.Heads.{place-small, open-stop, open-go, open-out, open_in, open-call, call-few}
use Rattle.text_process.proofs.Heads.Named.{none, more}
use borrow.Author.Rules.{rules}
use Rattle.text_process.proofs.put_open.Goals as goal

pub head_at-requires : goal.head_at-requires
head_at-requires c = place-small c.requires

pub value_at-requires : goal.value_at-requires
value_at-requires c = (place-small c.requires, c.requires.slots)

pub value_at-requires-in-Out : goal.value_at-requires-in-Out
value_at-requires-in-Out c = (place-small c.requires, c.requires.slots)

pub overflow_mul-i : goal.overflow_mul-i
overflow_mul-i c = let h = place-small c.requires in search rules

pub overflow_add-i : goal.overflow_add-i
overflow_add-i c = let h = place-small c.requires in search rules

pub arg_name-requires : goal.arg_name-requires
arg_name-requires c = (place-small c.requires, omega arith, c.requires.slots)

pub arg_name-requires-in-Call : goal.arg_name-requires-in-Call
arg_name-requires-in-Call c = (place-small c.requires, omega arith, c.requires.slots)

pub arg_name-requires-in-Call-2 : goal.arg_name-requires-in-Call-2
arg_name-requires-in-Call-2 c = (place-small c.requires, omega arith, c.requires.slots)

pub arg_name-requires-in-Call-3 : goal.arg_name-requires-in-Call-3
arg_name-requires-in-Call-3 c = (place-small c.requires, omega arith, c.requires.slots)

pub slice_bounds-o-end : goal.slice_bounds-o-end
slice_bounds-o-end c =
    let k = c.args in
    omega (arith, c.wide.ensures, call-few k.w.now k.i k.vals.now c.requires (sym c.head_at.ensures ∙ c.in-Call.is))

pub slice_bounds-put_call-end : goal.slice_bounds-put_call-end
slice_bounds-put_call-end c =
    let k = c.args in
    sym (length-take-le _ _ (omega (arith, c.wide.ensures, call-few k.w.now k.i k.vals.now c.requires (sym c.head_at.ensures ∙ c.in-Call.is))))

pub returns-in-Stop : goal.returns-in-Stop
returns-in-Stop c =
    let k = c.args in same (open-stop k.w.now k.i k.vals.now c.requires k.t (sym c.head_at.ensures ∙ c.in-Stop.is)) c.put_all.ensures

pub returns-in-Go : goal.returns-in-Go
returns-in-Go c =
    let k = c.args in same (open-go k.w.now k.i k.vals.now c.requires k.t c.value_at.result (sym c.head_at.ensures ∙ c.in-Go.is) c.value_at.ensures) c.open_one.ensures

pub returns-in-Out : goal.returns-in-Out
returns-in-Out c =
    let k = c.args in same (open-out k.w.now k.i k.vals.now c.requires k.t c.value_at-in-Out.result (sym c.head_at.ensures ∙ c.in-Out.is) c.value_at-in-Out.ensures) c.open_two.ensures

pub returns-in-In : goal.returns-in-In
returns-in-In c =
    let k = c.args in same (open_in k.w.now k.i k.vals.now c.requires k.t (sym c.head_at.ensures ∙ c.in-In.is)) c.open_two-in-In.ensures

pub returns-in-Call : goal.returns-in-Call
returns-in-Call c =
    let k = c.args in
    let named = more c.arg_name.ensures (more c.arg_name-in-Call.ensures (more c.arg_name-in-Call-2.ensures (more c.arg_name-in-Call-3.ensures none))) in
    same (rw c.wide.ensures (open-call k.w.now k.i k.vals.now c.requires k.t (sym c.head_at.ensures ∙ c.in-Call.is) named)) c.put_call.ensures
