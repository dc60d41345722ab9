-- The proposal by the rules: document 01, *The other calls* and *Questions, asked downward*, and document 02, R-1. The actions of a list in order, each on what those
-- before it left and firing at the location, then the tick; the first no ends it.
use Rattle.std.specs.Prelude.{ℕ, ◌<◌, List, [], ◌∷◌, true, cond, ◌≡◌, eqb, ltb}
use Rattle.terms.specs.Names.{Name, same_name}
use Rattle.terms.specs.Terms.{Context, fires_at}
use Rattle.terms.specs.Rules.{Answer, Action, ◌>>=◌}
use Rattle.terms.specs.Rules.Answer.{refused, accepted}
use Rattle.waits.specs.Counted.{Counted, Acted, act_counted}
use Rattle.table.specs.declared.State.{State}
use Rattle.table.specs.Words.{locs_in, loc_name}
use Rattle.table.specs.Meaning.{OthersKept, context_of, counted_of}
use Rattle.table.specs.Valid.{valid}
use Rattle.calls_act.specs.Acted.{asked, action_of, after}
use Rattle.calls_tick.specs.Ticked.{tick_counted}
use Rattle.calls_propose.specs.declared.Record.{Record}

-- what an action leaves, if it fires at l (question 16)
unfoldable pub here_only : Name → Acted → Answer Counted
here_only l x = cond (same_name (fires_at x.label) l) (accepted (record { comps = x.comps; tally = x.tally })) (refused 16)

-- one record at l: question 8 of the kind; 8 to 11, 20 and 18 of the action; then 16
unfoldable pub record_rule : Context → Name → Record → Counted → Answer Counted
record_rule d l r k = action_of r.kind r.p r.q >>= λ a. act_counted d a k >>= here_only l

-- the records of a list, each on what those before it left
unfoldable pub records_rule : Context → Name → List Record → Counted → Answer Counted
records_rule d l [] k = accepted k
records_rule d l (r ∷ rs) k = record_rule d l r k >>= records_rule d l rs

-- the proposal at the location numbered l: question 8 of the location; the records; 12; 13
unfoldable pub propose_rule : List ℕ → State → ℕ → List Record → Answer Counted
propose_rule w st l rs =
    asked 8 (ltb l (locs_in w)) (records_rule (context_of w) (loc_name w l) rs (counted_of w st) >>= tick_counted (context_of w) (loc_name w l))

-- question 17 first
unfoldable pub propose_answer : List ℕ → State → ℕ → List Record → Answer Counted
propose_answer w st l rs = asked 17 (valid w st) (propose_rule w st l rs)

-- the actions that the records name, if each kind is in range
unfoldable pub actions_of : List Record → Answer (List Action)
actions_of [] = accepted []
actions_of (r ∷ rs) = action_of r.kind r.p r.q >>= λ a. actions_of rs >>= λ xs. accepted (a ∷ xs)

-- ── between the parts of a proposal ──
-- the components that the actions so far leave, with what is kept beside them, or the number of the no
unfoldable pub so_far : List ℕ → ℕ → State → Answer Counted
so_far w k st = cond (eqb k 0) (accepted (counted_of w st)) (refused k)

-- what holds of the lent components cs where nothing was refused: with them the table passes question 17, the location is in range, and every word
-- that is none of the components' and neither the total's nor the count's is as it was in st
pub record Held (w : List ℕ) (l : ℕ) (st : State) (cs : List ℕ) : Type 0 where
  pub good : valid w (after st cs) ≡ true
  pub here : l < locs_in w
  pub past : OthersKept st.n st.c cs

-- the code k and the lent components cs stand for the answer x so far; st is the state before it
pub record Next (w : List ℕ) (l : ℕ) (st : State) (x : Answer Counted) (k : ℕ) (cs : List ℕ) : Type 0 where
  pub far : so_far w k (after st cs) ≡ x
  pub held : k ≡ 0 → Held w l st cs

-- before the first action
unfoldable pub begun : List ℕ → State → ℕ → Answer Counted
begun w st l = asked 17 (valid w st) (asked 8 (ltb l (locs_in w)) (accepted (counted_of w st)))

-- one action more
unfoldable pub fired_next : List ℕ → ℕ → Record → Answer Counted → Answer Counted
fired_next w l r x = x >>= record_rule (context_of w) (loc_name w l) r

-- the actions of a list more
unfoldable pub fired_all : List ℕ → ℕ → List Record → Answer Counted → Answer Counted
fired_all w l rs x = x >>= records_rule (context_of w) (loc_name w l) rs

-- the tick after the last action
unfoldable pub ticked_last : List ℕ → ℕ → Answer Counted → Answer Counted
ticked_last w l x = x >>= tick_counted (context_of w) (loc_name w l)
