-- The ways of the code to its answer to a step: a refusal, or a line.
use Prim.Native.Nat.{ℕ, ◌≤◌, ◌<◌}
use native.Mathlib.Omega.{arith}
use mathlib.Core.Bool.{Bool, true, false}
use mathlib.Core.List.{List, flat_map}
use Rattle.std.specs.Prelude.{Some, None}
use mathlib.Core.Path.{◌≡◌, ap, ap₂}
use borrow.Author.Tests.{le-leb, lt-ltb}
use lib.Dec.{leb}
use lib.ListN.{length}
use Rattle.terms.specs.Names.{Name, same_name}
use Rattle.terms.specs.Terms.{Component, Context}
use Rattle.terms.specs.Rules.{Answer, Action, ◌>>=◌, pass}
use Rattle.terms.specs.Rules.Answer.{refused, accepted}
use Rattle.terms.specs.Step.{fires}
use Rattle.waits.specs.Waits.{Tally, step_tally, countable}
use Rattle.waits.specs.Counted.{Counted}
use Rattle.terms.proofs.Steps.{step-accepted}
use Rattle.table.specs.declared.State.{State}
use Rattle.table.specs.Words.{locs_in, loc_name}
use Rattle.table.specs.Meaning.{context_of, net_of, tally_of, counted_of}
use Rattle.table.specs.Valid.{valid}
use Rattle.calls_act.specs.Acted.{asked}
use Rattle.calls_tick.specs.Ticked.{room}
use Rattle.calls_step.specs.declared.Stepped.{Stepped}
use Rattle.calls_step.specs.Stepped.{Step, step_of, step_counted, step_rule, step_answer, left, StepsAs}
use Rattle.text_letters.specs.declared.Page.{Page}
use Rattle.text_letters.specs.Page.{Adds}
use Rattle.text_letters.proofs.Pages.{same}
use Rattle.run_line.specs.Line.{line_text, step_labels}
use Rattle.run_line.proofs.Fits.{fires-few}
use Rattle.run_turn.specs.Turn.{refused_text, Turn, turn_of}
use Rattle.run_turn.specs.Turned.{TurnIs}

-- where question 17 is answered by yes, the step without it is the step
pub as-answer : (w : List ℕ) (st : State) (l size : ℕ) (r : Stepped) (ds : List ℕ) (before after : List (List ℕ)) → valid w st ≡ true → StepsAs w st (step_rule w st l size) r ds before after → StepsAs w st (step_answer w st l size) r ds before after
unfolding step_answer
as-answer w st l size r ds before after v s = rw v s

module _ (w : List ℕ) (st : State) (l : ℕ) (good : valid w st ≡ true) (inl : l < locs_in w) where
  abbrev D : Context
  D = context_of w

  abbrev N : Name
  N = loc_name w l

  abbrev K : Counted
  K = counted_of w st

  -- a step of so few components has space for its records
  module _ (few : length (net_of w st) ≤ 256) where
    answer-is : step_answer w st l 256 ≡ step_counted D N K
    unfolding step_answer step_rule
    answer-is = rw (good, lt-ltb l (locs_in w) inl, le-leb (length (fires D N (net_of w st)).actions) 256 (omega (arith, fires-few D N (net_of w st))))

    module _ (r : Stepped) (ds : List ℕ) (before after : List (List ℕ)) (s : StepsAs w st (step_answer w st l 256) r ds before after) where
      here : StepsAs w st (step_counted D N K) r ds before after
      here = rw answer-is at s

      -- the line, and what follows
      turned : List ℕ → Step → Turn
      turned ln x = record { line = ln; net = record { comps = x.comps; tally = x.tally } }

      -- refused by 18 or 13, or accepted
      by-step : (P : Answer Step → Type 0) → ((x y : Bool) (cs : List Component) (xs : List Action) (u : Tally) → P (asked 18 x (asked 13 y (accepted cs) >>= λ ds. accepted (step_of xs ds u)))) → P (step_counted D N K)
      unfolding step_counted room
      by-step P h =
          let e = step-accepted D N (net_of w st) in
          let cs = flat_map (pass D (λ m. same_name m N) N) (fires D N (net_of w st)).comps in
          rw e (h (countable (fires D N (net_of w st)).actions (tally_of st).count) (leb (length cs) 256) cs (fires D N (net_of w st)).actions (step_tally D N (net_of w st) (tally_of st)))

      module _ {p q : Page} where
        pub turn_stopped : (r.code ≡ 0 → ⊥) → Adds p (refused_text r.code) q → TurnIs w (turn_of D N K) p q None
        unfolding turn_of turned
        turn_stopped n b = go (step_counted D N K) here
          where
            go : (x : Answer Step) → StepsAs w st x r ds before after → TurnIs w (x >>= λ s. accepted (turned (line_text N (fires D N (net_of w st)).labels) s)) p q None
            go (refused m) s = same (ap refused_text (ap (λ x. x.code) s.0)) b
            go (accepted x) s = absurd (n s.code)

        pub turn-went : r.code ≡ 0 → Adds p (line_text N (step_labels w st l)) q → TurnIs w (turn_of D N K) p q (Some (left r ds))
        unfolding turn_of turned
        turn-went z b = by-step (λ x. StepsAs w st x r ds before after → TurnIs w (x >>= λ s. accepted (turned (line_text N (step_labels w st l)) s)) p q (Some (left r ds))) go here
          where
            go : (x y : Bool) (cs : List Component) (xs : List Action) (u : Tally) → StepsAs w st (asked 18 x (asked 13 y (accepted cs) >>= λ ds. accepted (step_of xs ds u))) r ds before after
                → TurnIs w (asked 18 x (asked 13 y (accepted cs) >>= λ ds. accepted (step_of xs ds u)) >>= λ s. accepted (turned (line_text N (step_labels w st l)) s)) p q (Some (left r ds))
            go true true cs xs u s = record { net = ap₂ (λ cs t. record { comps = cs; tally = t }) s.comps s.tally; good = s.good; wrote = b }
            go true false cs xs u s = let h : r.code ≡ 13 = ap (λ x. x.code) s.0 in absurd (omega arith)
            go false y cs xs u s = let h : r.code ≡ 18 = ap (λ x. x.code) s.0 in absurd (omega arith)
