-- What the answer of a step stands for: document 01, *The other calls* and *Questions, asked downward*, and document 02, R-1.
use Rattle.std.specs.Prelude.{ℕ, ◌≤◌, Result, Ok, Err, List, ◌++◌, map, ◌≡◌, true, leb, ltb, length, drop}
use Rattle.terms.specs.Names.{Name}
use Rattle.terms.specs.Refusals.{number_of}
use Rattle.terms.specs.declared.refusal.Refusal.{Refusal}
use Rattle.terms.specs.Terms.{Component, Context}
use Rattle.terms.specs.Rules.{Answer, Action, ◌>>=◌}
use Rattle.terms.specs.Rules.Answer.{refused, accepted}
use Rattle.terms.specs.Step.{fires, step}
use Rattle.waits.specs.Waits.{Tally, step_tally, countable}
use Rattle.waits.specs.Counted.{Counted}
use Rattle.table.specs.declared.State.{State}
use Rattle.table.specs.Words.{locs_in, loc_name}
use Rattle.table.specs.Meaning.{OthersKept, context_of, net_of, tally_of, counted_of}
use Rattle.table.specs.Valid.{valid}
use Rattle.calls_act.specs.Acted.{asked}
use Rattle.calls_tick.specs.Ticked.{room}
use Rattle.calls_step.specs.declared.Stepped.{Stepped}
use Rattle.calls_step.specs.declared.Done.{Done}
use Rattle.calls_sweep.specs.Sweep.{rec_of}

-- the actions of a step, the components after its tick, and what is kept beside them
pub record Step : Type 0 where
  pub actions : List Action
  pub comps : List Component
  pub tally : Tally

abbrev pub step_of : List Action → List Component → Tally → Step
step_of xs cs t = record { actions = xs; comps = cs; tally = t }

-- the step of the rules where there is space for it: 18 of its actions, then 13 of what its tick leaves
unfoldable pub step_counted : Context → Name → Counted → Answer Step
step_counted d l k =
    asked 18 (countable (fires d l k.comps).actions k.tally.count)
    (step d l k.comps >>= λ s. room s.comps >>= λ cs. accepted (step_of s.actions cs (step_tally d l k.comps k.tally)))

-- the step at the location numbered l, with room for so many records: questions 8, 15, 18 and 13
unfoldable pub step_rule : List ℕ → State → ℕ → ℕ → Answer Step
step_rule w st l size =
    asked 8 (ltb l (locs_in w))
    (asked 15 (leb (length (fires (context_of w) (loc_name w l) (net_of w st)).actions) size)
    (step_counted (context_of w) (loc_name w l) (counted_of w st)))

-- question 17 first
unfoldable pub step_answer : List ℕ → State → ℕ → ℕ → Answer Step
step_answer w st l size = asked 17 (valid w st) (step_rule w st l size)

abbrev pub refusal : ℕ → ℕ → Stepped
refusal code n = record { code = code; count = 0; n = n }

-- the answer, of a refusal with the n components that there were, or of what an accepted step gives
abbrev pub stepped_of : ℕ → Result Done Refusal → Stepped
stepped_of n (Ok d) = record { code = 0; count = d.count; n = d.n }
stepped_of n (Err e) = refusal (number_of e) n

-- the components once those of a refused step are put back
abbrev pub put_back : {A : Type 0} → Result A Refusal → List ℕ → List ℕ → List ℕ
put_back (Ok d) before after = after
put_back (Err e) before after = before

-- the lent components afterwards, of which the answer says how many are in use
abbrev pub left : Stepped → List ℕ → State
left r cs = record { c = cs; n = r.n }

-- an accepted step: the code 0; the number of actions, never above that of the components before it; the next components; waits, total and count; question 17
-- still answered by yes; every word that is none of theirs as it was; and the records in front of what was there
pub record Took (w : List ℕ) (st : State) (s : Step) (r : Stepped) (cs : List ℕ) (before after : List (List ℕ)) : Type 0 where
  pub code : r.code ≡ 0
  pub count : r.count ≡ length s.actions
  pub few : r.count ≤ st.n
  pub comps : net_of w (left r cs) ≡ s.comps
  pub tally : tally_of (left r cs) ≡ s.tally
  pub good : valid w (left r cs) ≡ true
  pub past : OthersKept r.n st.c cs
  pub records : after ≡ map rec_of s.actions ++ drop (length s.actions) before

-- the code's answer r, the lent components cs afterwards, and the lent records before and after, stand for the answer of the rules
abbrev pub StepsAs : List ℕ → State → Answer Step → Stepped → List ℕ → List (List ℕ) → List (List ℕ) → Type 0
StepsAs w st (refused k) r cs before after = (r ≡ refusal k st.n) × (cs ≡ st.c) × (after ≡ before)
StepsAs w st (accepted s) r cs before after = Took w st s r cs before after
