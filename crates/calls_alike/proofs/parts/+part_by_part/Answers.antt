-- Two parts, their inner processes, and two processes part by part.
-- processes at places, and under values, that are given by equations
use Prim.Native.Nat.{ℕ, zero, suc, ◌-◌}
use native.Mathlib.Omega.{arith}
use mathlib.Core.Bool.{Bool}
use mathlib.Core.List.{List, [], ◌∷◌}
use mathlib.Core.Path.{◌≡◌, ap, sym, ◌∙◌}
use lib.Dec.{eqb}
use borrow.Author.Tests.{ne_eqb}
use Rattle.terms.specs.Terms.{Process}
use Rattle.table.specs.Words.{field, next_at, kind_field}
use Rattle.table.proofs.WordsHead.{head-go, head-out, head_in}
use Rattle.text_process.specs.Values.{part_seen, process_seen}
use Rattle.text_process.proofs.Heads.{place-small, below-go, below_out, below_in, below_next}
use Rattle.calls_alike.specs.Decides.{Decides}
use Rattle.calls_alike.specs.Pieces.{opening, inner}
use Rattle.calls_alike.proofs.Decided.{hung, by-hang, always, carried, differ, fails, shown, placed, told}
use Rattle.calls_alike.proofs.Pieces.{both-pieces, inner-any, one-kind, inner-go, inner_out, inner-in, inner-none, firsts_same, end-decides, ends-early, next-hangs}
use Rattle.calls_alike.proofs.parts.+part_by_part.Goals.{same_process-then-m-eq0-via-then-m-eq0, same_process-then-m-eq0-via-else-m-eq0+then-n-eq0}
use Rattle.calls_alike.proofs.parts.+part_by_part.Goals as goal

only-is : {p q : Process} → p ∷ [] ≡ q ∷ [] → p ≡ q
only-is e = cc

first-is : {p q r s : Process} → p ∷ q ∷ [] ≡ r ∷ s ∷ [] → p ≡ r
first-is e = cc

second_is : {p q r s : Process} → p ∷ q ∷ [] ≡ r ∷ s ∷ [] → q ≡ s
second_is e = cc

two-same : {p q r s : Process} → p ≡ r → q ≡ s → p ∷ q ∷ [] ≡ r ∷ s ∷ []
two-same e f = cc

moved : (w vs v us : List ℕ) {i i' j j' : ℕ} {r : Bool} → i ≡ i' → j ≡ j' → Decides r (process_seen w i vs) (process_seen v j us) → Decides r (process_seen w i' vs) (process_seen v j' us)
moved w vs v us p q d = placed (λ z. process_seen w z vs) (λ z. process_seen v z us) p q d

hid-moved : {w w' v v' vs vs' us us' : List ℕ} {i i' j j' : ℕ} {r : Bool} → w ≡ w' → i ≡ i' → vs ≡ vs' → v ≡ v' → j ≡ j' → us ≡ us'
    → Decides r (process_seen w i vs) (process_seen v j us) → Decides r (process_seen w' i' vs') (process_seen v' j' us')
hid-moved {w} {w'} {v} {v'} {vs} {vs'} {us} {us'} {i} {i'} {j} {j'} a b c d e f h =
    let p : process_seen w i vs ≡ process_seen w' i' vs' = cc in
    let q : process_seen v j us ≡ process_seen v' j' us' = cc in
    carried h (λ z. sym p ∙ z ∙ q) (λ z. p ∙ z ∙ sym q)

both-end : (m n : ℕ) → m ≡ 0 → eqb m n ≡ eqb n 0
both-end m zero e = rw e
both-end m (suc n) e = rw e (ne_eqb 0 (suc n) (λ z. omega arith) ∙ sym (ne_eqb (suc n) 0 (λ z. omega arith)))

pub same_inner-link-p-requires : goal.same_inner-link-p-requires
same_inner-link-p-requires t c = (place-small c.requires.0, omega arith)

pub same_inner-link-q-requires : goal.same_inner-link-q-requires
same_inner-link-q-requires t c = (place-small c.requires.1, omega arith)

pub same_inner-link-r-requires : goal.same_inner-link-r-requires
same_inner-link-r-requires t c = (place-small c.requires.0, omega arith)

pub same_inner-link-s-requires : goal.same_inner-link-s-requires
same_inner-link-s-requires t c = (place-small c.requires.1, omega arith)

pub same_inner-field-k-requires : goal.same_inner-field-k-requires
same_inner-field-k-requires t c = (place-small c.requires.0, omega arith)

pub same_inner-hidden-a-requires : goal.same_inner-hidden-a-requires
same_inner-hidden-a-requires t c = place-small c.requires.0

pub same_inner-hidden-b-requires : goal.same_inner-hidden-b-requires
same_inner-hidden-b-requires t c = place-small c.requires.1

pub same_inner-same_process-requires : goal.same_inner-same_process-requires
same_inner-same_process-requires t c =
    let k = c.args in
    let e : field k.w.now.table.now k.i kind_field ≡ 1 = sym c.field-k.ensures ∙ c.in-1.is in
    let f : field k.v.now.table.now k.j kind_field ≡ 1 = sym c.requires.2 ∙ e in
    let b = below-go k.w.now.table.now k.i k.w.now.vals c.requires.0 (head-go k.w.now.table.now k.i e) in
    let d = below-go k.v.now.table.now k.j k.v.now.vals c.requires.1 (head-go k.v.now.table.now k.j f) in
    rw (c.link-p.ensures, c.link-q.ensures) (omega (arith, b.lesser, c.decreases), (b.place, d.place))

pub same_inner-same_process-requires-in-2 : goal.same_inner-same_process-requires-in-2
same_inner-same_process-requires-in-2 t c =
    let k = c.args in
    let e : field k.w.now.table.now k.i kind_field ≡ 2 = sym c.field-k.ensures ∙ c.in-2.is in
    let f : field k.v.now.table.now k.j kind_field ≡ 2 = sym c.requires.2 ∙ e in
    let b = (below_out k.w.now.table.now k.i k.w.now.vals c.requires.0 (head-out k.w.now.table.now k.i e)).0 in
    let d = (below_out k.v.now.table.now k.j k.v.now.vals c.requires.1 (head-out k.v.now.table.now k.j f)).0 in
    rw (c.link-p.ensures, c.link-q.ensures) (omega (arith, b.lesser, c.decreases), (b.place, d.place))

pub same_inner-same_process-requires-then-same_process : goal.same_inner-same_process-requires-then-same_process
same_inner-same_process-requires-then-same_process t c =
    let k = c.args in
    let e : field k.w.now.table.now k.i kind_field ≡ 2 = sym c.field-k.ensures ∙ c.in-2.is in
    let f : field k.v.now.table.now k.j kind_field ≡ 2 = sym c.requires.2 ∙ e in
    let b = (below_out k.w.now.table.now k.i k.w.now.vals c.requires.0 (head-out k.w.now.table.now k.i e)).1 in
    let d = (below_out k.v.now.table.now k.j k.v.now.vals c.requires.1 (head-out k.v.now.table.now k.j f)).1 in
    rw (c.link-r.ensures, c.link-s.ensures) (omega (arith, b.lesser, c.decreases), (b.place, d.place))

pub same_inner-same_process-requires-in-3 : goal.same_inner-same_process-requires-in-3
same_inner-same_process-requires-in-3 t c =
    let k = c.args in
    let e : field k.w.now.table.now k.i kind_field ≡ 3 = sym c.field-k.ensures ∙ c.in-3.is in
    let f : field k.v.now.table.now k.j kind_field ≡ 3 = sym c.requires.2 ∙ e in
    let b = (below_in k.w.now.table.now k.i k.w.now.vals c.requires.0 (head_in k.w.now.table.now k.i e)).0 in
    let d = (below_in k.v.now.table.now k.j k.v.now.vals c.requires.1 (head_in k.v.now.table.now k.j f)).0 in
    rw (c.link-p.ensures, c.link-q.ensures, c.hidden-a.ensures.0, c.hidden-a.ensures.1, c.hidden-b.ensures.0, c.hidden-b.ensures.1) (omega (arith, b.lesser, c.decreases), (b.place, d.place))

pub same_inner-same_process-requires-then-same_process-2 : goal.same_inner-same_process-requires-then-same_process-2
same_inner-same_process-requires-then-same_process-2 t c =
    let k = c.args in
    let e : field k.w.now.table.now k.i kind_field ≡ 3 = sym c.field-k.ensures ∙ c.in-3.is in
    let f : field k.v.now.table.now k.j kind_field ≡ 3 = sym c.requires.2 ∙ e in
    let b = (below_in k.w.now.table.now k.i k.w.now.vals c.requires.0 (head_in k.w.now.table.now k.i e)).1 in
    let d = (below_in k.v.now.table.now k.j k.v.now.vals c.requires.1 (head_in k.v.now.table.now k.j f)).1 in
    rw (c.link-r.ensures, c.link-s.ensures) (omega (arith, b.lesser, c.decreases), (b.place, d.place))

pub same_inner-returns-in-1 : goal.same_inner-returns-in-1
same_inner-returns-in-1 t c =
    let k = c.args in
    let e : field k.w.now.table.now k.i kind_field ≡ 1 = sym c.field-k.ensures ∙ c.in-1.is in
    let f : field k.v.now.table.now k.j kind_field ≡ 1 = sym c.requires.2 ∙ e in
    let p = inner-go k.w.now.table.now k.i k.w.now.vals c.requires.0 e in
    let q = inner-go k.v.now.table.now k.j k.v.now.vals c.requires.1 f in
    carried (moved k.w.now.table.now k.w.now.vals k.v.now.table.now k.v.now.vals c.link-p.ensures c.link-q.ensures c.same_process.ensures) (λ z. p ∙ ap (λ m. m ∷ []) z ∙ sym q) (λ z. only-is (sym p ∙ z ∙ q))

pub same_inner-returns-then-same_process : goal.same_inner-returns-then-same_process
same_inner-returns-then-same_process t c =
    let k = c.args in
    let e : field k.w.now.table.now k.i kind_field ≡ 2 = sym c.field-k.ensures ∙ c.in-2.is in
    let f : field k.v.now.table.now k.j kind_field ≡ 2 = sym c.requires.2 ∙ e in
    let p = inner_out k.w.now.table.now k.i k.w.now.vals c.requires.0 e in
    let q = inner_out k.v.now.table.now k.j k.v.now.vals c.requires.1 f in
    let r = shown (moved k.w.now.table.now k.w.now.vals k.v.now.table.now k.v.now.vals c.link-p.ensures c.link-q.ensures c.same_process-in-2.ensures) c.if-same_process.true in
    carried (moved k.w.now.table.now k.w.now.vals k.v.now.table.now k.v.now.vals c.link-r.ensures c.link-s.ensures c.same_process-then-same_process.ensures) (λ z. p ∙ two-same r z ∙ sym q) (λ z. second_is (sym p ∙ z ∙ q))

pub same_inner-returns-else-same_process : goal.same_inner-returns-else-same_process
same_inner-returns-else-same_process t c =
    let k = c.args in
    let e : field k.w.now.table.now k.i kind_field ≡ 2 = sym c.field-k.ensures ∙ c.in-2.is in
    let f : field k.v.now.table.now k.j kind_field ≡ 2 = sym c.requires.2 ∙ e in
    let p = inner_out k.w.now.table.now k.i k.w.now.vals c.requires.0 e in
    let q = inner_out k.v.now.table.now k.j k.v.now.vals c.requires.1 f in
    fails (moved k.w.now.table.now k.w.now.vals k.v.now.table.now k.v.now.vals c.link-p.ensures c.link-q.ensures c.same_process-in-2.ensures) c.if-same_process.false (λ z. first-is (sym p ∙ z ∙ q))

pub same_inner-returns-then-same_process-2 : goal.same_inner-returns-then-same_process-2
same_inner-returns-then-same_process-2 t c =
    let k = c.args in
    let e : field k.w.now.table.now k.i kind_field ≡ 3 = sym c.field-k.ensures ∙ c.in-3.is in
    let f : field k.v.now.table.now k.j kind_field ≡ 3 = sym c.requires.2 ∙ e in
    let p = inner-in k.w.now.table.now k.i k.w.now.vals c.requires.0 e in
    let q = inner-in k.v.now.table.now k.j k.v.now.vals c.requires.1 f in
    let r = shown (hid-moved c.hidden-a.ensures.0 c.link-p.ensures c.hidden-a.ensures.1 c.hidden-b.ensures.0 c.link-q.ensures c.hidden-b.ensures.1 c.same_process-in-3.ensures) c.if-same_process-2.true in
    carried (moved k.w.now.table.now k.w.now.vals k.v.now.table.now k.v.now.vals c.link-r.ensures c.link-s.ensures c.same_process-then-same_process-2.ensures) (λ z. p ∙ two-same r z ∙ sym q) (λ z. second_is (sym p ∙ z ∙ q))

pub same_inner-returns-else-same_process-2 : goal.same_inner-returns-else-same_process-2
same_inner-returns-else-same_process-2 t c =
    let k = c.args in
    let e : field k.w.now.table.now k.i kind_field ≡ 3 = sym c.field-k.ensures ∙ c.in-3.is in
    let f : field k.v.now.table.now k.j kind_field ≡ 3 = sym c.requires.2 ∙ e in
    let p = inner-in k.w.now.table.now k.i k.w.now.vals c.requires.0 e in
    let q = inner-in k.v.now.table.now k.j k.v.now.vals c.requires.1 f in
    fails (hid-moved c.hidden-a.ensures.0 c.link-p.ensures c.hidden-a.ensures.1 c.hidden-b.ensures.0 c.link-q.ensures c.hidden-b.ensures.1 c.same_process-in-3.ensures) c.if-same_process-2.false (λ z. first-is (sym p ∙ z ∙ q))

pub same_inner-returns-in_default : goal.same_inner-returns-in_default
same_inner-returns-in_default t c =
    let k = c.args in
    let r = c.in_default.in_default-own.rest in
    let x = c.field-k.ensures in
    let y = x ∙ c.requires.2 in
    always (inner-none k.w.now.table.now k.i k.w.now.vals c.requires.0 (λ e. r.0.0.1 (x ∙ e)) (λ e. r.0.1 (x ∙ e)) (λ e. r.1 (x ∙ e))
    ∙ sym (inner-none k.v.now.table.now k.j k.v.now.vals c.requires.1 (λ e. r.0.0.1 (y ∙ e)) (λ e. r.0.1 (y ∙ e)) (λ e. r.1 (y ∙ e))))

pub same_process-loop-i-init : goal.same_process-loop-i-init
same_process-loop-i-init t c = (c.requires.0, c.requires.1, omega arith, record { up = λ e. e; down = λ e. e })

pub same_process-field-t-requires : goal.same_process-field-t-requires
same_process-field-t-requires t c = (place-small c.loop-i.invariant.0, omega arith)

pub same_process-field-u-requires : goal.same_process-field-u-requires
same_process-field-u-requires t c = (place-small c.loop-i.invariant.1, omega arith)

pub same_process-same_part-requires : goal.same_process-same_part-requires
same_process-same_part-requires t c =
    let l = c.loop-i in
    (omega (arith, c.decreases, l.invariant.2), (l.invariant.0, l.invariant.1))

pub same_process-returns-then-not-same_part : goal.same_process-returns-then-not-same_part
same_process-returns-then-not-same_part t c =
    let k = c.args in
    let l = c.loop-i in
    let o = placed (λ z. part_seen k.w.now.table.now l.a z k.w.now.vals) (λ z. part_seen k.v.now.table.now l.b z k.v.now.vals) c.field-t.ensures c.field-u.ensures c.same_part.ensures in
    differ o c.if-not-same_part.true (λ e. firsts_same l.invariant.0 l.invariant.1 (l.invariant.3.down e))

pub same_process-next_at-requires : goal.same_process-next_at-requires
same_process-next_at-requires t c = place-small c.loop-i.invariant.0

pub same_process-next_at-requires-in-loop-i : goal.same_process-next_at-requires-in-loop-i
same_process-next_at-requires-in-loop-i t c = place-small c.loop-i.invariant.1

pub same_process-returns-then-m-eq0 : goal.same_process-returns-then-m-eq0
same_process-returns-then-m-eq0 t c =
    let k = c.args in
    let l = c.loop-i in
    let o = placed (λ z. part_seen k.w.now.table.now l.a z k.w.now.vals) (λ z. part_seen k.v.now.table.now l.b z k.v.now.vals) c.field-t.ensures c.field-u.ensures c.same_part.ensures in
    let x : next_at k.w.now.table.now l.a ≡ c.wide-m.result = sym c.next_at.ensures ∙ sym c.wide-m.ensures in
    let y : next_at k.v.now.table.now l.b ≡ c.wide-n.result = sym c.next_at-in-loop-i.ensures ∙ sym c.wide-n.ensures in
    elim c.then-m-eq0.branch [
      | same_process-then-m-eq0-via-then-m-eq0 w ↦ by-hang l.invariant.3 (told (both-end _ _ w.if-m-eq0.true ∙ ap (λ z. eqb z 0) (sym y)) (end-decides l.invariant.0 l.invariant.1 (shown o c.if-not-same_part.false) (x ∙ w.if-m-eq0.true)))
      | same_process-then-m-eq0-via-else-m-eq0+then-n-eq0 w ↦
          (let m : next_at k.w.now.table.now l.a ≡ suc (c.wide-m.result - 1) = (let h = w.if-m-eq0.false in omega (arith, x)) in
          by-hang l.invariant.3 (told (ne_eqb _ _ (λ e. w.if-m-eq0.false (e ∙ w.if-n-eq0.true))) (ends-early l.invariant.0 l.invariant.1 (c.wide-m.result - 1) m (y ∙ w.if-n-eq0.true))))
    ]

pub same_process-loop-i-smaller : goal.same_process-loop-i-smaller
same_process-loop-i-smaller t c =
    let k = c.args in
    let l = c.loop-i in
    let m : next_at k.w.now.table.now l.a ≡ suc (c.wide-m.result - 1) = sym c.next_at.ensures ∙ sym c.wide-m.ensures ∙ (let h = c.if-m-eq0.false in omega arith) in
    (below_next k.w.now.table.now l.a k.w.now.vals l.invariant.0 (c.wide-m.result - 1) m).lesser

pub same_process-loop-i-preserved : goal.same_process-loop-i-preserved
same_process-loop-i-preserved t c =
    let k = c.args in
    let l = c.loop-i in
    let o = placed (λ z. part_seen k.w.now.table.now l.a z k.w.now.vals) (λ z. part_seen k.v.now.table.now l.b z k.v.now.vals) c.field-t.ensures c.field-u.ensures c.same_part.ensures in
    let m : next_at k.w.now.table.now l.a ≡ suc (c.wide-m.result - 1) = sym c.next_at.ensures ∙ sym c.wide-m.ensures ∙ (let h = c.if-m-eq0.false in omega arith) in
    let n : next_at k.v.now.table.now l.b ≡ suc (c.wide-n.result - 1) = sym c.next_at-in-loop-i.ensures ∙ sym c.wide-n.ensures ∙ (let h = c.if-n-eq0.false in omega arith) in
    let x = below_next k.w.now.table.now l.a k.w.now.vals l.invariant.0 (c.wide-m.result - 1) m in
    let y = below_next k.v.now.table.now l.b k.v.now.vals l.invariant.1 (c.wide-n.result - 1) n in
    (x.place, y.place, omega (arith, x.lesser, l.invariant.2), hung l.invariant.3 (next-hangs l.invariant.0 l.invariant.1 (shown o c.if-not-same_part.false) (c.wide-m.result - 1) (c.wide-n.result - 1) m n))

pub same_part-same_inner-requires : goal.same_part-same_inner-requires
same_part-same_inner-requires t c = (omega (arith, c.decreases), (c.requires.0, c.requires.1, one-kind c.requires.0 c.requires.1 c.args.t c.args.u (shown c.same_open.ensures c.if-same_open.true)))

pub same_part-returns-then-same_open : goal.same_part-returns-then-same_open
same_part-returns-then-same_open t c =
    let k = c.args in
    let p = inner-any k.w.now.table.now k.i k.t k.w.now.vals in
    let q = inner-any k.v.now.table.now k.j k.u k.v.now.vals in
    carried c.same_inner.ensures (λ e. both-pieces (shown c.same_open.ensures c.if-same_open.true) (p ∙ e ∙ sym q)) (λ e. sym p ∙ ap inner e ∙ q)

pub same_part-returns-else-same_open : goal.same_part-returns-else-same_open
same_part-returns-else-same_open t c = fails c.same_open.ensures c.if-same_open.false (λ e. ap opening e)
