-- The timers and the values are the same.
-- By taking the pair apart.
use mathlib.Core.Path.{◌≡◌}
use Rattle.terms.specs.Terms.{Timer, Value}
use Rattle.terms.specs.Terms.Part.{go}
use Rattle.text_process.specs.Values.{value_seen}
use Rattle.text_process.proofs.Heads.{place-small}
use native.Mathlib.Omega.{arith}
use Rattle.calls_alike.specs.Pieces.{halt, go_seen}
use Rattle.calls_alike.proofs.Decided.{carried, fails, shown, placed}
use Rattle.calls_alike.proofs.parts.same_timed.Goals as goal

timer-is : {t u : Timer} {x y : Value} → go t x halt ≡ go u y halt → t ≡ u
timer-is e = cc

value-is : {t u : Timer} {x y : Value} → go t x halt ≡ go u y halt → x ≡ y
value-is e = cc

go_same : {t u : Timer} {x y : Value} → t ≡ u → x ≡ y → go t x halt ≡ go u y halt
go_same p q = cc

pub field-a-requires : goal.field-a-requires
field-a-requires c = (place-small c.requires.places.0, omega arith)

pub field-b-requires : goal.field-b-requires
field-b-requires c = (place-small c.requires.places.1, omega arith)

pub same_value-requires : goal.same_value-requires
same_value-requires c = record { places = c.requires.places; a_value = (rw c.field-a.ensures c.requires.value_ok.0, rw c.field-b.ensures c.requires.value_ok.1) }

pub returns-then-same_timer : goal.returns-then-same_timer
unfolding go_seen
returns-then-same_timer c =
    let k = c.args in
    let t = shown c.same_timer.ensures c.if-same_timer.true in
    carried (placed (value_seen k.w.now.table.now k.i k.w.now.vals) (value_seen k.v.now.table.now k.j k.v.now.vals) c.field-a.ensures c.field-b.ensures c.same_value.ensures)
    (λ e. go_same t e) value-is

pub returns-else-same_timer : goal.returns-else-same_timer
unfolding go_seen
returns-else-same_timer c = fails c.same_timer.ensures c.if-same_timer.false timer-is
