-- The words of a name that may run past the script's end.
-- By the definition of a name: a number that is too large for an index lies past the end, as the greatest index does.
use Prim.Native.Nat.{ℕ, ◌+◌, ◌≤◌, ◌<◌, min}
use native.Mathlib.Omega.{arith}
use mathlib.Core.List.{List}
use mathlib.Core.Logic.{◌⊎◌, inl, inr}
use mathlib.Core.Path.{◌≡◌, ap, sym, ◌∙◌}
use lib.ListN.{length, get_or, get_or-eq_default}
use Rattle.std.proofs.lemmas.Bool.{cases_lt}
use Rattle.table.specs.Words.{name_at}
use Rattle.table.proofs.words.key_end.Goals as goal

far : (w : List ℕ) (n m r : ℕ) → length w ≤ m → r ≡ min n m → get_or w r 0 ≡ get_or w n 0
far w n m r h e = go (cases_lt n m)
  where
    go : (n < m) ⊎ (m ≤ n) → get_or w r 0 ≡ get_or w n 0
    go (inl k) = let d : r ≡ n = omega arith in ap (λ j. get_or w j 0) d
    go (inr k) = get_or-eq_default w 0 (omega arith) ∙ sym (get_or-eq_default w 0 (omega arith))

pub returns : goal.returns
unfolding name_at
returns c =
    let w = c.args.w.now in
    let most : ℕ = 18_446_744_073_709_551_615 in
    let t : length w ≤ most = omega (arith, c.told-w) in
    let o = c.args.o in
    rw
    (c.word.ensures, c.word-2.ensures, c.word-3.ensures, c.word-4.ensures, far w (o + 1) most _ t c.saturating_add.ensures, far w (o + 2) most _ t c.saturating_add-2.ensures, far w (o + 3) most _ t c.saturating_add-3.ensures)
