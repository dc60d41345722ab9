-- The line of a step, from the step on a copy.
-- Idea: so few components have few enough actions for 256 records, so that the step is refused by 17, 8, 18 or 13 only, as the line is.
use Prim.Native.Nat.{ℕ}
use native.Mathlib.Omega.{arith}
use mathlib.Core.List.{List, flat_map}
use mathlib.Core.Bool.{Bool, true, false, false≢true, cond}
use mathlib.Core.Path.{◌≡◌, refl, ap, ◌∙◌}
use lib.Dec.{eqb, leb, ltb}
use lib.ListN.{length}
use borrow.Author.Tests.{eq-eqb, ne_eqb, le-leb}
use Rattle.terms.specs.Names.{same_name}
use Rattle.terms.specs.Terms.{Component}
use Rattle.terms.specs.Rules.{Answer, Action, ◌>>=◌, pass}
use Rattle.terms.specs.Rules.Answer.{refused, accepted}
use Rattle.terms.specs.Step.{fires}
use Rattle.terms.proofs.Steps.{step-accepted}
use Rattle.waits.specs.Waits.{Tally, step_tally, countable}
use Rattle.table.specs.declared.State.{State}
use Rattle.table.specs.Words.{locs_in, loc_name}
use Rattle.table.specs.Meaning.{context_of, net_of, tally_of}
use Rattle.table.specs.Valid.{valid}
use Rattle.calls_act.specs.Acted.{asked}
use Rattle.calls_tick.specs.Ticked.{room}
use Rattle.calls_step.specs.declared.Stepped.{Stepped}
use Rattle.calls_step.specs.Stepped.{step_of, step_counted, step_rule, step_answer, StepsAs}
use Rattle.run_line.specs.Line.{line_text, step_labels}
use Rattle.run_line.proofs.Fits.{few, fires-few}
use Rattle.host.specs.Shown.{holding, line_answer}

module _ (w : List ℕ) (st : State) (l n : ℕ) (r : Stepped) (ds : List ℕ) (before after : List (List ℕ)) where
  abbrev xs : List Action
  xs = (fires (context_of w) (loc_name w l) (net_of w st)).actions

  abbrev Line : List ℕ
  Line = line_text (loc_name w l) (step_labels w st l)

  abbrev Told : Answer (List ℕ)
  Told = cond (eqb r.code 0) (holding Line n) (refused r.code)

  by-questions : (v a b x c : Bool) (cs : List Component) (u : Tally) → (v ≡ true → b ≡ true)
      → StepsAs w st (asked 17 v (asked 8 a (asked 15 b (asked 18 x (asked 13 c (accepted cs) >>= λ cs. accepted (step_of xs cs u)))))) r ds before after
      → asked 17 v (asked 8 a (asked 18 x (asked 13 c (accepted cs) >>= λ cs. accepted (step_of xs cs u)) >>= λ s. holding Line n)) ≡ Told
  by-questions true true true true true cs u h t = rw t.code
  by-questions true true true true false cs u h t = rw (ap (λ r. r.code) t.0)
  by-questions true true true false c cs u h t = rw (ap (λ r. r.code) t.0)
  by-questions true true false x c cs u h t = absurd (false≢true (h refl))
  by-questions true false b x c cs u h t = rw (ap (λ r. r.code) t.0)
  by-questions false a b x c cs u h t = rw (ap (λ r. r.code) t.0)

  by-step : StepsAs w st (step_answer w st l 256) r ds before after → line_answer w st l n ≡ Told
  unfolding step_answer step_rule step_counted line_answer room
  by-step s =
      let cs = flat_map (pass (context_of w) (λ m. same_name m (loc_name w l)) (loc_name w l)) (fires (context_of w) (loc_name w l) (net_of w st)).comps in
      rw (step-accepted (context_of w) (loc_name w l) (net_of w st)) (by-questions (valid w st) (ltb l (locs_in w)) (leb (length xs) 256) (countable xs (tally_of st).count) (leb (length cs) 256) cs (step_tally (context_of w) (loc_name w l) (net_of w st) (tally_of st)) room_for (rw (step-accepted (context_of w) (loc_name w l) (net_of w st)) at s))
    where
      room_for : valid w st ≡ true → leb (length xs) 256 ≡ true
      room_for v = le-leb (length xs) 256 (omega (arith, fires-few (context_of w) (loc_name w l) (net_of w st), few w st v))

  -- question 17 is asked before the step
  pub asked-first : valid w st ≡ true → StepsAs w st (step_rule w st l 256) r ds before after → StepsAs w st (step_answer w st l 256) r ds before after
  unfolding step_answer
  asked-first v s = rw v s

  module _ (s : StepsAs w st (step_answer w st l 256) r ds before after) where
    pub line_refused : (r.code ≡ 0 → ⊥) → line_answer w st l n ≡ refused r.code
    line_refused h = by-step s ∙ rw (ne_eqb r.code 0 h)

    pub line_taken : r.code ≡ 0 → line_answer w st l n ≡ holding Line n
    line_taken h = by-step s ∙ rw (eq-eqb r.code 0 h)
