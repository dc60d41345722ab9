-- One edition, each definition of either among those of the other, and the same components.
-- By the tests in their order.
use mathlib.Core.Bool.{Bool, true, false, ◌&&◌, false≢true}
use mathlib.Core.Path.{◌≡◌, refl, sym, ◌∙◌}
use lib.Dec.{eqb}
use Rattle.terms.proofs.Names.{and-inv}
use Rattle.terms.specs.Same.{same, within, reordered}
use Rattle.table.specs.Words.{edition_in}
use Rattle.table.specs.Meaning.{network_of, net_of, defs_of}
use Rattle.table.proofs.ValidBool.{failed, passed}
use Rattle.table.proofs.InUse.{valid-script}
use Rattle.calls_same.proofs.same_networks.Goals.{then-same_edition, else-same_edition, then-defs_within, else-defs_within}
use Rattle.calls_same.proofs.same_networks.Goals as goal

-- a no of the first three is the answer
first-no : (a b d r : Bool) → ((a && b) && d) ≡ false → (a && ((b && d) && r)) ≡ false
first-no false b d r h = refl
first-no true false d r h = refl
first-no true true false r h = refl
first-no true true true r h = absurd (false≢true (sym h))

pub defs_within-requires : goal.defs_within-requires
defs_within-requires c =
    let k = c.args in
    (valid-script k.w.now _ c.requires.0, valid-script k.v.now _ c.requires.1)

pub defs_within-requires-then-defs_within : goal.defs_within-requires-then-defs_within
defs_within-requires-then-defs_within c =
    let k = c.args in
    (valid-script k.v.now _ c.requires.1, valid-script k.w.now _ c.requires.0)

pub returns-then-defs_within-2 : goal.returns-then-defs_within-2
unfolding same network_of
returns-then-defs_within-2 c =
    let k = c.args in
    let e = eqb (edition_in k.w.now) (edition_in k.v.now) in
    let p = within (defs_of k.w.now) (defs_of k.v.now) in
    let q = within (defs_of k.v.now) (defs_of k.w.now) in
    let m : c.if-same_edition.value ≡ (e && p) = elim c.if-same_edition.branch [
      | then-same_edition w ↦ w.value-is ∙ w.defs_within.ensures ∙ sym (rw (passed w.if-same_edition.true c.same_edition.ensures))
      | else-same_edition w ↦ w.value-is ∙ c.same_edition.ensures ∙ rw (failed w.if-same_edition.false c.same_edition.ensures)
    ] in
    let n : c.if-defs_within.value ≡ ((e && p) && q) = elim c.if-defs_within.branch [
      | then-defs_within w ↦ w.value-is ∙ w.defs_within-then-defs_within.ensures ∙ sym (rw (passed w.if-defs_within.true m))
      | else-defs_within w ↦ w.value-is ∙ m ∙ rw (failed w.if-defs_within.false m)
    ] in
    let z = and-inv (e && p) q (passed c.if-defs_within-2.true n) in
    let y = and-inv e p z.0 in
    rw (y.0, y.1, z.1) c.same_comps.ensures

pub returns-else-defs_within-2 : goal.returns-else-defs_within-2
unfolding same network_of
returns-else-defs_within-2 c =
    let k = c.args in
    let e = eqb (edition_in k.w.now) (edition_in k.v.now) in
    let p = within (defs_of k.w.now) (defs_of k.v.now) in
    let q = within (defs_of k.v.now) (defs_of k.w.now) in
    let m : c.if-same_edition.value ≡ (e && p) = elim c.if-same_edition.branch [
      | then-same_edition w ↦ w.value-is ∙ w.defs_within.ensures ∙ sym (rw (passed w.if-same_edition.true c.same_edition.ensures))
      | else-same_edition w ↦ w.value-is ∙ c.same_edition.ensures ∙ rw (failed w.if-same_edition.false c.same_edition.ensures)
    ] in
    let n : c.if-defs_within.value ≡ ((e && p) && q) = elim c.if-defs_within.branch [
      | then-defs_within w ↦ w.value-is ∙ w.defs_within-then-defs_within.ensures ∙ sym (rw (passed w.if-defs_within.true m))
      | else-defs_within w ↦ w.value-is ∙ m ∙ rw (failed w.if-defs_within.false m)
    ] in
    c.if-defs_within-2.false ∙ sym (first-no e p q (reordered (net_of k.w.now (record { c = k.a.now; n = k.n })) (net_of k.v.now (record { c = k.b.now; n = k.m }))) (sym n ∙ c.if-defs_within-2.false))
