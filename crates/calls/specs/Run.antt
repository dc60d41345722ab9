-- A list of calls of any content, given one after another: document 01, *Mixed runs*, and demand 3.
-- Each call gets the state that the call before it returned or, if refused, left.
use Rattle.std.specs.Prelude.{ℕ, true, cond, ◌≡◌, eqb, get_or, take, drop}
use mathlib.Core.List.{List, [], ◌∷◌, ◌++◌, map, Permᴰ}
use Rattle.terms.specs.Names.{Name}
use Rattle.terms.specs.Terms.{Component, Context}
use Rattle.terms.specs.Rules.{Answer, Action, ◌>>=◌, ok, unmarked}
use Rattle.terms.specs.Rules.Answer.{refused, accepted}
use Rattle.terms.specs.Rules.Action.{pair}
use Rattle.terms.specs.Same.{every}
use Rattle.terms.specs.Runs.{Fed, grouped_run}
use Rattle.terms.specs.Runs.Call.{acting, ticking}
use Rattle.terms.specs.Runs.Fed.{fed}
use Rattle.waits.specs.Counted.{Counted}
use Rattle.table.specs.declared.State.{State}
use Rattle.table.specs.Words.{loc_name}
use Rattle.table.specs.Meaning.{OthersKept, context_of, net_of, tally_of}
use Rattle.table.specs.Valid.{valid}
use Rattle.calls_act.specs.Acted.{action_of, action_answer}
use Rattle.calls_tick.specs.Ticked.{tick_answer}
use Rattle.calls_step.specs.Stepped.{Step, step_answer}
use Rattle.calls_profile.specs.Profiled.{conforming_answer}
use Rattle.calls_propose.specs.declared.Record.{Record}
use Rattle.calls_propose.specs.Proposed.{propose_answer}

-- ── a call, and what the engine answers ──
-- an action by its kind and positions; a tick by its location; a step, and a conforming step, by its location and how many records are lent; a proposal by its
-- location and records
pub data Given : Type 0 where
  action : ℕ → ℕ → ℕ → Given
  tick : ℕ → Given
  step : ℕ → ℕ → Given
  conforming_step : ℕ → ℕ → Given
  proposal : ℕ → List Record → Given

-- the components that follow with what is kept beside them, or the number of the question answered by no, as the call's own contract has it
unfoldable pub answer_to : List ℕ → State → Given → Answer Counted
answer_to w st (action k p q) = action_answer w st k p q >>= λ a. accepted (record { comps = a.comps; tally = a.tally })
answer_to w st (tick l) = tick_answer w st l
answer_to w st (step l size) = step_answer w st l size >>= λ s. accepted (record { comps = s.comps; tally = s.tally })
answer_to w st (conforming_step l size) = conforming_answer w st l size >>= λ s. accepted (record { comps = s.comps; tally = s.tally })
answer_to w st (proposal l rs) = propose_answer w st l rs

-- an accepted call: the code 0, the next components, waits, total and count, which pass question 17, and every word that is none of theirs as it was
pub record Accepted (w : List ℕ) (st : State) (x : Counted) (k : ℕ) (next : State) : Type 0 where
  pub code : k ≡ 0
  pub comps : net_of w next ≡ x.comps
  pub tally : tally_of next ≡ x.tally
  pub good : valid w next ≡ true
  pub past : OthersKept next.n st.c next.c

-- the code and the next state are those of the answer
abbrev pub DoesAs : List ℕ → State → Answer Counted → ℕ → State → Type 0
DoesAs w st (refused n) k next = (k ≡ n) × (next ≡ st)
DoesAs w st (accepted x) k next = Accepted w st x k next

-- ── what the grouped run is fed of a call ──
-- the call and whether it was accepted; a step of either sort or a proposal counts as its actions one by one and then the tick, and for nothing if it was refused
-- a kind out of range is no action, and is always refused
abbrev pub action_for : Answer Action → ℕ → ℕ → Action
action_for (refused n) p q = pair p q
action_for (accepted a) p q = a

abbrev pub named : ℕ → ℕ → ℕ → Action
named k p q = action_for (action_of k p q) p q

abbrev pub named_by : List Record → List Action
named_by rs = map (λ r. named r.kind r.p r.q) rs

abbrev pub acted : Action → Fed
acted a = fed (acting a) true

abbrev pub whole : Name → List Action → List Fed
whole l xs = map acted xs ++ (fed (ticking l) true ∷ [])

abbrev pub step_feeds : Name → Answer Step → List Fed
step_feeds l (refused n) = []
step_feeds l (accepted s) = whole l s.actions

abbrev pub proposal_feeds : Name → List Record → Answer Counted → List Fed
proposal_feeds l rs (refused n) = []
proposal_feeds l rs (accepted x) = whole l (named_by rs)

unfoldable pub feeds : List ℕ → State → Given → List Fed
feeds w st (action k p q) = fed (acting (named k p q)) (ok (action_answer w st k p q)) ∷ []
feeds w st (tick l) = fed (ticking (loc_name w l)) (ok (tick_answer w st l)) ∷ []
feeds w st (step l size) = step_feeds (loc_name w l) (step_answer w st l size)
feeds w st (conforming_step l size) = step_feeds (loc_name w l) (conforming_answer w st l size)
feeds w st (proposal l rs) = proposal_feeds (loc_name w l) rs (propose_answer w st l rs)

-- ── a list of calls ──
-- the codes, what the grouped run is fed, and the last state are those of the calls one after another
pub data Run (w : List ℕ) : State → List Given → List ℕ → List Fed → State → Type 0 where
  over : {st : State} → Run w st [] [] [] st
  then : {st next last : State} {g : Given} {gs : List Given} {k : ℕ} {ks : List ℕ} {fs : List Fed}
      → DoesAs w st (answer_to w st g) k next → Run w next gs ks fs last → Run w st (g ∷ gs) (k ∷ ks) (feeds w st g ++ fs) last

-- the claim of demand 3 from the components cs, where the rules' context d is that of their network throughout: the grouped run is one that the rules allow,
-- with each note's label that of its action; the straight network is the engine's last, position by position; and the grouped one has its components, each
-- as often.
pub record Mixed (d : Context) (cs : List Component) (fs : List Fed) (last : List Component) : Type 0 where
  pub grouped : List Component
  pub runs : grouped_run d fs cs ≡ accepted (record { straight = last; grouped = grouped })
  pub same : Permᴰ grouped last

-- ── a list in numbers, as the function `run` takes it ──
-- three numbers: 4 and a location for a tick, else the kind and the positions of an action
unfoldable pub given_by : List ℕ → Given
given_by e = cond (eqb (get_or e 0 0) 4) (tick (get_or e 1 0)) (action (get_or e 0 0) (get_or e 1 0) (get_or e 2 0))

-- what a run of the first calls of a list gives, as many as there are codes for: their codes, the codes past them as they were, and the last state;
-- and demand 3, if it began at a network without marks
pub record RunsAs (w : List ℕ) (st : State) (es : List (List ℕ)) (before after : List ℕ) (m : ℕ) (last : State) : Type 0 where
  pub fs : List Fed
  pub runs : Run w st (map given_by (take m es)) (take m after) fs last
  pub rest : drop m after ≡ drop m before
  pub mixed : every unmarked (net_of w st) ≡ true → Mixed (context_of w) (net_of w st) fs (net_of w last)
