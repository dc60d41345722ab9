-- Where a refusal and the line of a step end at most. A refusal is shorter than a line.
use Prim.Native.Nat.{ℕ, zero, suc, ◌+◌, ◌/◌, ◌≤◌, ◌<◌}
use native.Mathlib.Omega.{arith}
use mathlib.Core.List.{List}
use mathlib.Core.Bool.{Bool, true, false}
use Rattle.std.specs.Prelude.{Option, Some, None}
use mathlib.Core.Path.{◌≡◌}
use lib.Dec.{leb, ltb}
use lib.ListN.{length, length-append}
use Rattle.terms.specs.Terms.{Component}
use Rattle.terms.specs.Rules.{Action, ◌>>=◌}
use Rattle.terms.specs.Rules.Answer.{accepted}
use Rattle.terms.specs.Step.{Swept, fires, step}
use Rattle.waits.specs.Waits.{Tally, step_tally, countable}
use Rattle.terms.proofs.Steps.{step-accepted}
use Rattle.text.specs.Tokens.{last_digit, digits_of}
use Rattle.table.specs.declared.State.{State}
use Rattle.table.specs.Words.{loc_name}
use Rattle.table.specs.Meaning.{context_of, net_of, tally_of, counted_of}
use Rattle.table.specs.Valid.{valid}
use Rattle.calls_act.specs.Acted.{asked}
use Rattle.calls_tick.specs.Ticked.{room}
use Rattle.calls_step.specs.Stepped.{step_of, step_counted}
use Rattle.text_letters.specs.declared.Page.{Page}
use Rattle.text_letters.specs.Put.{Wrote}
use Rattle.text_letters.proofs.Puts.{after-most}
use Rattle.run_line.specs.Line.{line_text, step_labels}
use Rattle.run_line.proofs.Fits.{line-short}
use Rattle.run_turn.specs.Turn.{refused_text, Turn, turn_of}
use Rattle.run_turn.specs.Turned.{TurnIs}

-- a text of at most n bytes ends at most n bytes behind its start
pub ends : {d s e : List ℕ} {at r : ℕ} (n : ℕ) → Wrote d at s e r → length s ≤ n → r ≤ at + n
ends {d} {s} {e} {at} {r} n x h = omega (arith, x.place, after-most at s)

-- ── a refusal ──
digits-few : (f n : ℕ) → length (digits_of f n) ≤ suc f
unfolding digits_of
digits-few zero n = omega arith
digits-few (suc f) n = go (ltb n 10) (digits-few f (n / 10))
  where
    go : (y : Bool) → length (digits_of f (n / 10)) ≤ suc f → length (last_digit y n (digits_of f)) ≤ suc (suc f)
    go true h = omega arith
    go false h = simp length-append (omega arith)

pub refused-short : (n : ℕ) → n < 27 → length (refused_text n) ≤ 36
unfolding refused_text
refused-short n h = simp length-append (omega (arith, digits-few n n))

pub refused-ends : {d e : List ℕ} {at r : ℕ} (n : ℕ) → n < 27 → Wrote d at (refused_text n) e r → r ≤ at + 36
refused-ends n h x = ends 36 x (refused-short n h)

-- ── a step: refused by question 18 or 13, or a line ──
module _ (w : List ℕ) (st : State) (l : ℕ) (good : valid w st ≡ true) where
  pub turn-ends : (p q : Page) (r : Option State) → TurnIs w (turn_of (context_of w) (loc_name w l) (counted_of w st)) p q r → q.at ≤ p.at + 13_329
  unfolding turn_of step_counted room
  turn-ends p q r t = by-step _ (step-accepted (context_of w) (loc_name w l) (net_of w st))
    where
      turned : Tally → List Component → Turn
      turned u ds = record { line = line_text (loc_name w l) (step_labels w st l); net = record { comps = ds; tally = u } }

      go : (o : Option State) (x y : Bool) (cs : List Component) (xs : List Action) (u : Tally) → TurnIs w (asked 18 x (asked 13 y (accepted cs) >>= λ ds. accepted (step_of xs ds u)) >>= λ s. accepted (turned s.tally s.comps)) p q o → q.at ≤ p.at + 13_329
      go (Some a) true true cs xs u s = ends 13_329 s.wrote.wrote (line-short w st good l)
      go None true false cs xs u s = omega (arith, refused-ends 13 (omega arith) s.wrote)
      go None true true cs xs u s = elim s [ ]
      go (Some a) false y cs xs u s = elim s [ ]
      go (Some a) true false cs xs u s = elim s [ ]
      go None false y cs xs u s = omega (arith, refused-ends 18 (omega arith) s.wrote)

      by-step : (x : Swept) → step (context_of w) (loc_name w l) (net_of w st) ≡ accepted x → q.at ≤ p.at + 13_329
      by-step x f = go r (countable (fires (context_of w) (loc_name w l) (net_of w st)).actions (tally_of st).count) (leb (length x.comps) 256) x.comps x.actions (step_tally (context_of w) (loc_name w l) (net_of w st) (tally_of st)) (rw f at t)
