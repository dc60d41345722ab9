-- `mean_in` meets its contract: whether there were messages (Means).
use Prim.Native.Nat.{ℕ, ◌<◌}
use native.Mathlib.Omega.{arith}
use mathlib.Core.Path.{◌≡◌, sym, ◌∙◌}
use Rattle.table.specs.Meaning.{total_in, count_in}
use Rattle.calls_mean.proofs.Means.{mean-none, mean-some, quotient-small, remainder-small}
use Rattle.calls_mean.proofs.mean_in.Goals as goal

pub returns-then-count-eq0 : goal.returns-then-count-eq0
returns-then-count-eq0 c = mean-none _ _ (sym c.messages-count.ensures ∙ c.if-count-eq0.true)

-- a count that is not 0

some : (n : ℕ) → (n ≡ 0 → ⊥) → 0 < n
some n h = omega arith

pub overflow_cast-result : goal.overflow_cast-result
overflow_cast-result c =
    let e = c.wide-d.ensures ∙ c.messages-count.ensures in
    let k = quotient-small (total_in c.args.c.now) (count_in c.args.c.now) (some _ (λ z. c.if-count-eq0.false (c.messages-count.ensures ∙ z))) c.requires.1 in
    rw (e, c.total-t.ensures) (omega (arith, k))

pub overflow_cast-result-2 : goal.overflow_cast-result-2
overflow_cast-result-2 c =
    let e = c.wide-d.ensures ∙ c.messages-count.ensures in
    let k = remainder-small (total_in c.args.c.now) (count_in c.args.c.now) (some _ (λ z. c.if-count-eq0.false (c.messages-count.ensures ∙ z))) in
    rw (e, c.total-t.ensures) (omega (arith, k, c.requires.0))

pub returns : goal.returns
returns c =
    let m = c.messages-count.ensures in
    rw (c.wide-d.ensures, c.total-t.ensures, m) (mean-some _ _ (λ z. c.if-count-eq0.false (m ∙ z)))
