-- `number_of` never wraps, and is above 1,000,000 exactly if the number is.
-- The loop's invariant: the number so far, followed by the bytes from the loop's place on, is the word's number.
use Prim.Native.Nat.{◌+◌, ◌*◌, ◌-◌}
use native.Mathlib.Omega.{arith}
use mathlib.Core.Path.{◌≡◌, ap, ◌∙◌}
use lib.Dec.{leb}
use lib.ListN.{drop, get_or}
use Rattle.text.specs.Tokens.{number_from}
use Rattle.text_words.proofs.Positions.{number-least, number-over, number-on, number-end}
use Rattle.text_words.proofs.number_of.Goals as goal

pub returns-then-n-gt1000000 : goal.returns-then-n-gt1000000
returns-then-n-gt1000000 c =
    let l = c.loop-b in
    let h = c.if-n-gt1000000.true in
    record {
      small = number-over l.n _ h ∙ ap (λ m. leb m 1_000_000) l.invariant.1;
      exact = λ g. absurd (omega (arith, l.invariant.1, number-least l.n (drop l.b-index c.args.w.now)));
    }

pub loop-b-preserved : goal.loop-b-preserved
loop-b-preserved c =
    let l = c.loop-b in
    let e : c.from.result ≡ get_or c.args.w.now l.b-index 0 - 48 = omega (arith, c.from.ensures, c.saturating_sub.ensures) in
    let h = c.type_inv.w l.b-index in
    (omega (arith, h), ap (λ d. number_from (10 * l.n + d) (drop (l.b-index + 1) c.args.w.now)) e ∙ number-on l.n _ l.b-index c.loop-b-test.true ∙ l.invariant.1)

pub returns : goal.returns
returns c =
    let l = c.loop-b in
    let e = number-end l.n _ l.b-index c.loop-b-test.false ∙ l.invariant.1 in
    record { small = ap (λ m. leb m 1_000_000) e; exact = λ g. e }
