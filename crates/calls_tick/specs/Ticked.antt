-- What the answer of a tick stands for: document 01, *The tick at l* and *Questions, asked downward*, and document 02, R-1.
use Rattle.std.specs.Prelude.{ℕ, ◌≤◌, Result, Ok, Err, List, true, ◌≡◌, leb, ltb, length}
use Rattle.terms.specs.Names.{Name}
use Rattle.terms.specs.Refusals.{number_of}
use Rattle.terms.specs.declared.refusal.Refusal.{Refusal}
use Rattle.terms.specs.Terms.{Component, Context}
use Rattle.terms.specs.Rules.{Answer, ◌>>=◌, tick}
use Rattle.terms.specs.Rules.Answer.{refused, accepted}
use Rattle.waits.specs.Waits.{tick_tally}
use Rattle.waits.specs.Counted.{Counted}
use Rattle.table.specs.declared.State.{State}
use Rattle.table.specs.Words.{locs_in, loc_name}
use Rattle.table.specs.Meaning.{OthersKept, context_of, net_of, tally_of, counted_of}
use Rattle.table.specs.Valid.{valid}
use Rattle.calls_act.specs.Acted.{asked}
use Rattle.calls_tick.specs.declared.Ticked.{Ticked}

-- question 13: at most 256 components
unfoldable pub room : List Component → Answer (List Component)
room cs = asked 13 (leb (length cs) 256) (accepted cs)

-- the tick of the rules, question 13 after it, and what is kept beside the components
unfoldable pub tick_counted : Context → Name → Counted → Answer Counted
tick_counted d l k = tick d l k.comps >>= room >>= λ cs. accepted (record { comps = cs; tally = tick_tally d l k.comps k.tally })

-- the tick at the location numbered l: questions 8, 12 and 13
unfoldable pub tick_rule : List ℕ → State → ℕ → Answer Counted
tick_rule w st l = asked 8 (ltb l (locs_in w)) (tick_counted (context_of w) (loc_name w l) (counted_of w st))

-- question 17 first
unfoldable pub tick_answer : List ℕ → State → ℕ → Answer Counted
tick_answer w st l = asked 17 (valid w st) (tick_rule w st l)

abbrev pub refusal : ℕ → ℕ → Ticked
refusal code n = record { code = code; n = n }

-- the answer, of a refusal with the n components that there were, or of how many there are now
abbrev pub ticked_of : ℕ → Result ℕ Refusal → Ticked
ticked_of n (Ok k) = record { code = 0; n = k }
ticked_of n (Err e) = refusal (number_of e) n

-- the lent components afterwards, of which the answer says how many are in use
abbrev pub left : Ticked → List ℕ → State
left r cs = record { c = cs; n = r.n }

-- an accepted tick: the code 0; the next components, no fewer than before; waits, total and count; question 17 still answered by yes; and every word that is
-- none of theirs as it was
pub record Took (w : List ℕ) (st : State) (k : Counted) (r : Ticked) (out : List ℕ) : Type 0 where
  pub code : r.code ≡ 0
  pub comps : net_of w (left r out) ≡ k.comps
  pub tally : tally_of (left r out) ≡ k.tally
  pub good : valid w (left r out) ≡ true
  pub grows : st.n ≤ r.n
  pub past : OthersKept r.n st.c out

-- the code's answer r and the lent components out afterwards stand for the answer of the rules
abbrev pub TicksAs : List ℕ → State → Answer Counted → Ticked → List ℕ → Type 0
TicksAs w st (refused n) r out = (r ≡ refusal n st.n) × (out ≡ st.c)
TicksAs w st (accepted k) r out = Took w st k r out
