-- What the conforming step answers, by what the test answers.
-- By the questions 8 and 26 in turn.
use Prim.Native.Nat.{ℕ}
use mathlib.Core.List.{List}
use mathlib.Core.Bool.{Bool, true, false}
use mathlib.Core.Path.{◌≡◌, sym, ap, ◌∙◌}
use lib.Dec.{ltb}
use Rattle.std.specs.Prelude.{Result, Ok, Err}
use Rattle.terms.specs.Refusals.{number_of, answer_of}
use Rattle.terms.specs.declared.refusal.Refusal.{Refusal}
use Rattle.terms.specs.Rules.Answer.{refused, accepted}
use Rattle.table.specs.declared.State.{State}
use Rattle.table.specs.Words.{locs_in}
use Rattle.calls_act.specs.Acted.{asked}
use Rattle.calls_step.specs.Stepped.{step_rule}
use Rattle.calls_profile.specs.Profiled.{conforms_in, test_rule, conforming_rule}

module _ (w : List ℕ) (st : State) (l size : ℕ) (r : Result Bool Refusal) (e : answer_of (λ y. y) r ≡ test_rule w st l) where
  -- a refused test refuses the step
  pub test-refused : (n : Refusal) → r ≡ Err n → conforming_rule w st l size ≡ refused (number_of n)
  unfolding test_rule conforming_rule
  test-refused n h = go (ltb l (locs_in w)) (sym (ap (answer_of (λ y. y)) h) ∙ e)
    where
      go : (b : Bool) → refused (number_of n) ≡ asked 8 b (accepted (conforms_in w st l)) → asked 8 b (asked 26 (conforms_in w st l) (step_rule w st l size)) ≡ refused (number_of n)
      go true q = cc
      go false q = let z : number_of n ≡ 8 = cc in ap (λ k. refused k) (sym z)

  -- else the step goes by its answer
  pub test-answered : (y : Bool) → r ≡ Ok y → conforming_rule w st l size ≡ asked 26 y (step_rule w st l size)
  unfolding test_rule conforming_rule
  test-answered y h = go (ltb l (locs_in w)) (sym (ap (answer_of (λ y. y)) h) ∙ e)
    where
      go : (b : Bool) → accepted y ≡ asked 8 b (accepted (conforms_in w st l)) → asked 8 b (asked 26 (conforms_in w st l) (step_rule w st l size)) ≡ asked 26 y (step_rule w st l size)
      go true q = let z : y ≡ conforms_in w st l = cc in ap (λ y. asked 26 y (step_rule w st l size)) (sym z)
      go false q = cc
