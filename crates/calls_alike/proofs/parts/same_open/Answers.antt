-- Parts of one kind whose names, timers and values are the same.
-- By the kind.
use native.Mathlib.Omega.{arith}
use mathlib.Core.Bool.{false≢true}
use mathlib.Core.Path.{◌≡◌, sym, ◌∙◌}
use Rattle.terms.specs.Names.{Name}
use Rattle.terms.specs.Terms.{Timer, Value}
use Rattle.terms.specs.Terms.Part.{go, out, inp}
use Rattle.table.specs.Words.{own_at, bound_at}
use Rattle.text_process.proofs.Heads.{place-small}
use Rattle.calls_alike.specs.Pieces.{halt, go_seen}
use Rattle.calls_alike.proofs.Decided.{never, always, carried, fails, shown, told}
use Rattle.calls_alike.proofs.Pieces.{open-go, open-out, open_in, open-call, open-stop, one-kind, go-value, out-value}
use Rattle.calls_alike.proofs.parts.same_open.Goals.{then-same_timer, else-same_timer}
use Rattle.calls_alike.proofs.parts.same_open.Goals as goal

out-channel : {c d : Name} {t u : Timer} {x y : Value} → out c t x halt halt ≡ out d u y halt halt → c ≡ d
out-channel e = cc

out-rest : {c d : Name} {t u : Timer} {x y : Value} → out c t x halt halt ≡ out d u y halt halt → go t x halt ≡ go u y halt
out-rest e = cc

out-same : {c d : Name} {t u : Timer} {x y : Value} → c ≡ d → go t x halt ≡ go u y halt → out c t x halt halt ≡ out d u y halt halt
out-same p q = cc

in-channel : {c d : Name} {t u : Timer} {x y : Name} → inp c t x halt halt ≡ inp d u y halt halt → c ≡ d
in-channel e = cc

in-timer : {c d : Name} {t u : Timer} {x y : Name} → inp c t x halt halt ≡ inp d u y halt halt → t ≡ u
in-timer e = cc

in-name : {c d : Name} {t u : Timer} {x y : Name} → inp c t x halt halt ≡ inp d u y halt halt → x ≡ y
in-name e = cc

in-same : {c d : Name} {t u : Timer} {x y : Name} → c ≡ d → t ≡ u → x ≡ y → inp c t x halt halt ≡ inp d u y halt halt
in-same p q r = cc

pub field-k-requires : goal.field-k-requires
field-k-requires c = (place-small c.requires.0, omega arith)

pub field-requires : goal.field-requires
field-requires c = (place-small c.requires.1, omega arith)

pub returns-then-k-field : goal.returns-then-k-field
returns-then-k-field c = never (λ e. c.if-k-field.true (c.field-k.ensures ∙ one-kind c.requires.0 c.requires.1 c.args.t c.args.u e ∙ sym c.field.ensures))

pub same_timed-requires : goal.same_timed-requires
same_timed-requires c =
    let k = c.args in
    record { places = c.requires; value_ok = (go-value k.w.now.table.now k.i k.w.now.vals c.requires.0 (sym c.field-k.ensures ∙ c.in-1.is), go-value k.v.now.table.now k.j k.v.now.vals c.requires.1 (sym c.field.ensures ∙ sym c.if-k-field.false ∙ c.in-1.is)) }

pub same_timed-requires-in-2 : goal.same_timed-requires-in-2
same_timed-requires-in-2 c =
    let k = c.args in
    record { places = c.requires; value_ok = (out-value k.w.now.table.now k.i k.w.now.vals c.requires.0 (sym c.field-k.ensures ∙ c.in-2.is), out-value k.v.now.table.now k.j k.v.now.vals c.requires.1 (sym c.field.ensures ∙ sym c.if-k-field.false ∙ c.in-2.is)) }

pub returns-else-same_timed : goal.returns-else-same_timed
unfolding go_seen
returns-else-same_timed c =
    let k = c.args in
    let p = open-out k.w.now.table.now k.i k.w.now.vals k.t (sym c.field-k.ensures ∙ c.in-2.is) in
    let q = open-out k.v.now.table.now k.j k.v.now.vals k.u (sym c.field.ensures ∙ sym c.if-k-field.false ∙ c.in-2.is) in
    fails c.same_timed-in-2.ensures c.if-same_timed.false (λ e. out-rest (sym p ∙ e ∙ q))

pub same_channel-requires : goal.same_channel-requires
same_channel-requires c = (place-small c.requires.0, place-small c.requires.1)

pub same_channel-requires-then-same_timer : goal.same_channel-requires-then-same_timer
same_channel-requires-then-same_timer c = (place-small c.requires.0, place-small c.requires.1)

pub returns-else-same_channel : goal.returns-else-same_channel
returns-else-same_channel c =
    let k = c.args in
    let p = open_in k.w.now.table.now k.i k.w.now.vals k.t (sym c.field-k.ensures ∙ c.in-3.is) in
    let q = open_in k.v.now.table.now k.j k.v.now.vals k.u (sym c.field.ensures ∙ sym c.if-k-field.false ∙ c.in-3.is) in
    elim c.if-same_timer.branch [
      | then-same_timer w ↦ told w.value-is (fails w.same_channel-then-same_timer.ensures (sym w.value-is ∙ c.if-same_channel.false) (λ e. in-channel (sym p ∙ e ∙ q)))
      | else-same_timer w ↦ told w.value-is (fails c.same_timer.ensures w.if-same_timer.false (λ e. in-timer (sym p ∙ e ∙ q)))
    ]

pub overflow_mul-i : goal.overflow_mul-i
overflow_mul-i c = let h = place-small c.requires.0 in omega arith

pub overflow_add-i : goal.overflow_add-i
overflow_add-i c = let h = place-small c.requires.0 in omega arith

pub overflow_mul-j : goal.overflow_mul-j
overflow_mul-j c = let h = place-small c.requires.1 in omega arith

pub overflow_add-j : goal.overflow_add-j
overflow_add-j c = let h = place-small c.requires.1 in omega arith

pub same_call-requires : goal.same_call-requires
same_call-requires c = record { places = c.requires; i_value = (sym c.field-k.ensures ∙ c.in-4.is, sym c.field.ensures ∙ sym c.if-k-field.false ∙ c.in-4.is) }

pub returns-in-1 : goal.returns-in-1
returns-in-1 c =
    let k = c.args in
    let p = open-go k.w.now.table.now k.i k.w.now.vals k.t (sym c.field-k.ensures ∙ c.in-1.is) in
    let q = open-go k.v.now.table.now k.j k.v.now.vals k.u (sym c.field.ensures ∙ sym c.if-k-field.false ∙ c.in-1.is) in
    carried c.same_timed.ensures (λ e. p ∙ e ∙ sym q) (λ e. sym p ∙ e ∙ q)

pub returns-then-same_timed : goal.returns-then-same_timed
unfolding go_seen
returns-then-same_timed c =
    let k = c.args in
    let p = open-out k.w.now.table.now k.i k.w.now.vals k.t (sym c.field-k.ensures ∙ c.in-2.is) in
    let q = open-out k.v.now.table.now k.j k.v.now.vals k.u (sym c.field.ensures ∙ sym c.if-k-field.false ∙ c.in-2.is) in
    let r = shown c.same_timed-in-2.ensures c.if-same_timed.true in
    carried c.same_channel.ensures (λ e. p ∙ out-same e r ∙ sym q) (λ e. out-channel (sym p ∙ e ∙ q))

pub returns-then-same_channel : goal.returns-then-same_channel
unfolding bound_at own_at
returns-then-same_channel c =
    let k = c.args in
    let p = open_in k.w.now.table.now k.i k.w.now.vals k.t (sym c.field-k.ensures ∙ c.in-3.is) in
    let q = open_in k.v.now.table.now k.j k.v.now.vals k.u (sym c.field.ensures ∙ sym c.if-k-field.false ∙ c.in-3.is) in
    elim c.if-same_timer.branch [
      | then-same_timer w ↦
          (let m = shown w.same_channel-then-same_timer.ensures (sym w.value-is ∙ c.if-same_channel.true) in
          let r = shown c.same_timer.ensures w.if-same_timer.true in
          carried c.same_name.ensures (λ e. p ∙ in-same m r e ∙ sym q) (λ e. in-name (sym p ∙ e ∙ q)))
      | else-same_timer w ↦ absurd (false≢true (sym w.if-same_timer.false ∙ sym w.value-is ∙ c.if-same_channel.true))
    ]

pub returns-in-4 : goal.returns-in-4
returns-in-4 c =
    let k = c.args in
    let p = open-call k.w.now.table.now k.i k.w.now.vals k.t (sym c.field-k.ensures ∙ c.in-4.is) in
    let q = open-call k.v.now.table.now k.j k.v.now.vals k.u (sym c.field.ensures ∙ sym c.if-k-field.false ∙ c.in-4.is) in
    carried c.same_call.ensures (λ e. p ∙ e ∙ sym q) (λ e. sym p ∙ e ∙ q)

pub returns-in_default : goal.returns-in_default
returns-in_default c =
    let k = c.args in
    let r = c.in_default.in_default-own.rest in
    let x = c.field-k.ensures in
    let y = c.if-k-field.false ∙ c.field.ensures in
    always (open-stop k.w.now.table.now k.i k.w.now.vals k.t (λ e. r.0.0.0.1 (x ∙ e)) (λ e. r.0.0.1 (x ∙ e)) (λ e. r.0.1 (x ∙ e)) (λ e. r.1 (x ∙ e))
    ∙ sym (open-stop k.v.now.table.now k.j k.v.now.vals k.u (λ e. r.0.0.0.1 (y ∙ e)) (λ e. r.0.0.1 (y ∙ e)) (λ e. r.0.1 (y ∙ e)) (λ e. r.1 (y ∙ e))))
