-- The same owner and the same process, or no owner and the same part.
-- By what a marked and an unmarked component stand for.
use native.Mathlib.Omega.{arith}
use Prim.Native.Nat.{ℕ}
use mathlib.Core.Bool.{false≢true}
use mathlib.Core.Path.{◌≡◌, ap, sym, ◌∙◌}
use borrow.Author.Tests.{lt-leb, le-ltb}
use Rattle.terms.specs.Names.{Name}
use Rattle.terms.specs.Terms.{Part, Process, Mark}
use Rattle.terms.specs.Terms.Process.{one}
use Rattle.terms.specs.Terms.Mark.{none, by}
use Rattle.text_process.specs.Values.{part_seen, process_seen}
use Rattle.text_process.proofs.Places.{comp-place}
use Rattle.calls_alike.proofs.Decided.{never, carried, fails, shown, placed, told}
use Rattle.calls_same.proofs.Parted.{marked-parted, free-parted}
use Rattle.calls_same.proofs.comps.same_held.Goals.{then-d-lt64, else-d-lt64}
use Rattle.calls_same.proofs.comps.same_held.Goals as goal

owned : {x : Name} {p q : Process} → ◌≡◌ {A = Mark × Process} (by x, p) (none, q) → ⊥
owned {x} e = let m : by x ≡ none = ap (λ z. z.0) e in let z : ◌≡◌ {A = ℕ} 0 1 = cc in omega arith

owner-is : {x y : Name} {p q : Process} → ◌≡◌ {A = Mark × Process} (by x, p) (by y, q) → x ≡ y
owner-is {x} {y} e = let m : by x ≡ by y = ap (λ z. z.0) e in cc

owned-same : {x y : Name} {p q : Process} → x ≡ y → p ≡ q → ◌≡◌ {A = Mark × Process} (by x, p) (by y, q)
owned-same e f = rw (e, f)

free-is : {a b : Part} → ◌≡◌ {A = Mark × Process} (none, one a) (none, one b) → a ≡ b
free-is {a} {b} e = let m : one a ≡ one b = ap (λ z. z.1) e in cc

pub same_process-requires : goal.same_process-requires
same_process-requires c =
    let k = c.args in
    rw (c.wide.ensures, c.wide-then-same_location.ensures) (comp-place k.w.now c.requires.0 k.c c.requires.1, comp-place k.v.now c.requires.2 k.d c.requires.3)

pub returns-then-same_location : goal.returns-then-same_location
returns-then-same_location c =
    let k = c.args in
    let p = marked-parted k.w.now c.requires.0 k.c c.requires.1 c.if-c-lt64.true in
    elim c.if-d-lt64.branch [
      | then-d-lt64 w ↦
          (let q = marked-parted k.v.now c.requires.2 k.d c.requires.3 w.if-d-lt64.true in
          let o = shown w.same_location.ensures (sym w.value-is ∙ c.if-same_location.true) in
          carried (placed (λ z. process_seen k.w.now z k.c.vals) (λ z. process_seen k.v.now z k.d.vals) c.wide.ensures c.wide-then-same_location.ensures c.same_process.ensures)
          (λ e. p ∙ owned-same o e ∙ sym q) (λ e. ap (λ z. z.1) (sym p ∙ e ∙ q)))
      | else-d-lt64 w ↦ absurd (false≢true (sym (le-ltb k.d.mark 64 w.if-d-lt64.false) ∙ sym w.value-is ∙ c.if-same_location.true))
    ]

pub returns-else-same_location : goal.returns-else-same_location
returns-else-same_location c =
    let k = c.args in
    let p = marked-parted k.w.now c.requires.0 k.c c.requires.1 c.if-c-lt64.true in
    elim c.if-d-lt64.branch [
      | then-d-lt64 w ↦
          (let q = marked-parted k.v.now c.requires.2 k.d c.requires.3 w.if-d-lt64.true in
          told w.value-is (fails w.same_location.ensures (sym w.value-is ∙ c.if-same_location.false) (λ e. owner-is (sym p ∙ e ∙ q))))
      | else-d-lt64 w ↦
          (let q = free-parted k.v.now c.requires.2 k.d c.requires.3 w.if-d-lt64.false in
          told c.if-same_location.false (never (λ e. owned (sym p ∙ e ∙ q))))
    ]

pub same_part-requires : goal.same_part-requires
same_part-requires c =
    let k = c.args in
    rw (c.wide-then-d-ge64.ensures, c.wide-then-d-ge64-2.ensures) (comp-place k.w.now c.requires.0 k.c c.requires.1, comp-place k.v.now c.requires.2 k.d c.requires.3)

pub returns-then-d-ge64 : goal.returns-then-d-ge64
returns-then-d-ge64 c =
    let k = c.args in
    let p = free-parted k.w.now c.requires.0 k.c c.requires.1 c.if-c-lt64.false in
    let q = free-parted k.v.now c.requires.2 k.d c.requires.3 c.if-d-ge64.true in
    carried (placed (λ z. part_seen k.w.now z k.c.timer k.c.vals) (λ z. part_seen k.v.now z k.d.timer k.d.vals) c.wide-then-d-ge64.ensures c.wide-then-d-ge64-2.ensures c.same_part.ensures)
    (λ e. p ∙ ap (λ z. (none, one z)) e ∙ sym q) (λ e. free-is (sym p ∙ e ∙ q))

pub returns-else-d-ge64 : goal.returns-else-d-ge64
returns-else-d-ge64 c =
    let k = c.args in
    let p = free-parted k.w.now c.requires.0 k.c c.requires.1 c.if-c-lt64.false in
    let q = marked-parted k.v.now c.requires.2 k.d c.requires.3 c.if-d-ge64.false in
    rw (lt-leb _ _ c.if-d-ge64.false) (never (λ e. owned (sym q ∙ sym e ∙ p)))
