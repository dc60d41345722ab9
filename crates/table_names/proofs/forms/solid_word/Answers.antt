-- The word is shifted down a byte a turn until it is 0: its letters are those of what is left of it.
-- By the invariant that what is left decides, and the word as measure.
use Prim.Native.Nat.{ℕ, ◌/◌, ◌%◌, ◌<◌}
use native.Mathlib.Omega.{arith}
use mathlib.Core.Path.{◌≡◌, refl, sym, ap, ◌∙◌}
use mathlib.Core.Bool.{true, false}
use Rattle.terms.specs.Characters.{is_alnum}
use Rattle.table_names.proofs.NamesForm.{solid, solid-turn, solid-zero}
use Rattle.table.proofs.ValidBool.{failed, passed}
use Rattle.table_names.proofs.forms.solid_word.Goals as goal

smaller : (y : ℕ) → (y ≡ 0 → ⊥) → y / 256 < y
smaller y n = let p : 0 < y = positive y n in omega arith
  where
    positive : (m : ℕ) → (m ≡ 0 → ⊥) → 0 < m
    positive m h = omega arith

pub loop-y-init : goal.loop-y-init
loop-y-init c = (omega arith, refl)

pub returns-then-not-is_alnum : goal.returns-then-not-is_alnum
returns-then-not-is_alnum c =
    let l = c.loop-y in
    let n : is_alnum (l.y % 256) ≡ false = failed c.if-not-is_alnum.true (c.is_alnum.ensures ∙ ap is_alnum c.low_byte.ensures) in
    sym (l.invariant.1 ∙ solid-turn l.y l.invariant.0 c.loop-y-test.true ∙ rw n)

pub loop-y-smaller : goal.loop-y-smaller
loop-y-smaller c = let n = c.loop-y-test.true in smaller c.loop-y.y n

pub loop-y-preserved : goal.loop-y-preserved
loop-y-preserved c =
    let l = c.loop-y in
    let n : is_alnum (l.y % 256) ≡ true = passed c.if-not-is_alnum.false (c.is_alnum.ensures ∙ ap is_alnum c.low_byte.ensures) in
    (omega arith, l.invariant.1 ∙ solid-turn l.y l.invariant.0 c.loop-y-test.true ∙ rw n)

pub returns : goal.returns
returns c = sym (c.loop-y.invariant.1 ∙ ap solid c.loop-y-test.false ∙ solid-zero)
