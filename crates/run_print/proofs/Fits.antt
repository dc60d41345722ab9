-- A printout has at most 3,477,768 bytes: 4 rounds of at most 64 lines of at most 13,329 bytes, at most 65,536 for the network and 8 for the mean.
-- Here: where the network ends at most; for a refusal and a line see Fits of run_turn. The loop of `play` adds them up.
use Prim.Native.Nat.{ℕ, ◌+◌, ◌≤◌}
use native.Mathlib.Omega.{arith}
use mathlib.Core.List.{List}
use mathlib.Core.Bool.{Bool, true, false}
use mathlib.Core.Path.{◌≡◌, refl, sym, ap, ◌∙◌}
use lib.Dec.{leb}
use lib.ListN.{length, take, length-append}
use lib.Seq.{take_at}
use borrow.Author.Tests.{leb-true, leb-false}
use Rattle.terms.specs.Terms.{Component, Context}
use Rattle.terms.specs.Rules.{unmarked}
use Rattle.terms.specs.Rules.Answer.{accepted}
use Rattle.waits.specs.Waits.{Tally}
use Rattle.table.specs.declared.State.{State}
use Rattle.table.specs.Meaning.{context_of, net_of, total_in, count_in, tally_of, counted_of}
use Rattle.table.specs.Valid.{valid}
use Rattle.table.proofs.InUse.{valid-ledger}
use Rattle.calls_act.specs.Acted.{asked}
use Rattle.terms.specs.Same.{every}
use Rattle.text.specs.Write.{write}
use Rattle.text_letters.specs.declared.Page.{Page}
use Rattle.text_letters.specs.Put.{Wrote}
use Rattle.text_letters.specs.Page.{Adds}
use Rattle.text_letters.proofs.Puts.{after-room, after-full, over-whole}
use Rattle.run_turn.proofs.Fits.{ends, refused-short}
use Rattle.run_print.specs.Print.{shown, mean_line, ended, ending, printout}
use Rattle.run_print.proofs.Means.{mean-short}

-- ── the network and the mean ──
shown-few : (d : Context) (cs : List Component) (t : Tally) → length (mean_line t) ≤ 8 → length (ended (shown d cs) t) ≤ 65_544
unfolding shown
shown-few d cs t h = go (every unmarked cs) (leb (length (write (record { defs = d.defs; comps = cs }))) 65_536) refl
  where
    go : (a b : Bool) → leb (length (write (record { defs = d.defs; comps = cs }))) 65_536 ≡ b → length (ended (asked 14 a (asked 15 b (accepted (write (record { defs = d.defs; comps = cs }))))) t) ≤ 65_544
    go true true f = simp length-append (omega (arith, leb-true (length (write (record { defs = d.defs; comps = cs }))) 65_536 f, h))
    go true false f = omega (arith, refused-short 15 (omega arith))
    go false b f = omega (arith, refused-short 14 (omega arith))

ending-few : (w : List ℕ) (st : State) → valid w st ≡ true → length (ending (context_of w) (counted_of w st)) ≤ 65_544
unfolding ending tally_of
ending-few w st v = shown-few (context_of w) (net_of w st) (tally_of st) (mean-short (total_in st.c) (count_in st.c) (valid-ledger w st v).within)

pub ending-ends : {p q : Page} (w : List ℕ) (st : State) → valid w st ≡ true → Adds p (ending (context_of w) (counted_of w st)) q → q.at ≤ p.at + 65_544
ending-ends w st v x = ends 65_544 x.wrote (ending-few w st v)

-- ── the whole, with what `printout` promises of r: the first r bytes of a buffer of that many are the printout ──
pub stands : (d s e : List ℕ) (r : ℕ) → Wrote d 0 (printout s) e r → r ≤ 3_477_768 → 3_477_768 ≤ length d → length d ≤ 9_223_372_036_854_775_808
    → (length (printout s) ≤ 3_477_768) × (take r e ≡ printout s)
stands d s e r x h k m = go (leb (length (printout s)) 9_223_372_036_854_775_808) refl
  where
    go : (y : Bool) → leb (length (printout s)) 9_223_372_036_854_775_808 ≡ y → (length (printout s) ≤ 3_477_768) × (take r e ≡ printout s)
    go true f =
        let n : r ≡ length (printout s) = x.place ∙ after-room 0 (printout s) (omega (arith, leb-true (length (printout s)) 9_223_372_036_854_775_808 f)) ∙ omega arith in
        (omega arith, ap (take r) (x.bytes ∙ over-whole d (printout s) (omega arith) m) ∙ take_at (printout s) _ r (sym n))
    go false f = absurd (omega (arith, x.place, after-full 0 (printout s) (omega (arith, leb-false (length (printout s)) 9_223_372_036_854_775_808 f))))
