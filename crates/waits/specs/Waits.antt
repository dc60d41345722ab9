-- How long components have waited: document 02, R-1. The waits stand beside the components, one for each, at its position, with a total and a count of
-- messages. No rule looks at them.
use Rattle.std.specs.Prelude.{ℕ, suc, ◌+◌, List, [], ◌∷◌, ◌++◌, map, Bool, true, cond, ◌&&◌, ltb, get_or}
use Rattle.terms.specs.Names.{Name, same_name}
use Rattle.terms.specs.Terms.{Edition, Part, Process, Component, Context, expired}
use Rattle.terms.specs.Terms.Part.{stop, go, out, inp, call}
use Rattle.terms.specs.Terms.Process.{one, ◌∥◌}
use Rattle.terms.specs.Terms.Mark.{none, by}
use Rattle.terms.specs.Terms.Component.{comp}
use Rattle.terms.specs.Rules.{Action, set, split}
use Rattle.terms.specs.Rules.Action.{single, pair}
use Rattle.terms.specs.Step.{fires}

-- the waits by position, how long the senders of all messages had waited together, and how many messages there were
pub record Tally : Type 0 where
  pub waits : List ℕ
  pub total : ℕ
  pub count : ℕ

-- a network just read
unfoldable pub begun : List Component → Tally
begun cs = record { waits = map (λ c. 0) cs; total = 0; count = 0 }

-- ── an action ──
-- What it marks begins again at 0. A communication adds the sender's wait, as it stood before the action, and one message.
unfoldable pub act_tally : Action → Tally → Tally
act_tally (single k p) t = record { waits = set t.waits p 0; total = t.total; count = t.count }
act_tally (pair p q) t = record { waits = set (set t.waits p 0) q 0; total = t.total + get_or t.waits p 0; count = suc t.count }

-- actions one after another
unfoldable pub acts_tally : List Action → Tally → Tally
acts_tally [] t = t
acts_tally (a ∷ xs) t = acts_tally xs (act_tally a t)

-- ── the tick at l ──
-- one tick more; a wait halts at 1,000,000
unfoldable pub longer : ℕ → ℕ
longer n = cond (ltb n 1_000_000) (suc n) n

-- 0 for each component that a process is split into
unfoldable pub restarted : Name → Process → List ℕ
restarted l p = map (λ c. 0) (split l p)

-- The waits of what becomes of a part that is ready where the tick is and has waited n: one tick more where its timer is lowered or kept, inf included,
-- and 0 for each part of a Q. `stop` has no timer. (A tick that is allowed meets no call.)
unfoldable pub aged : Edition → Name → Part → ℕ → List ℕ
aged e l stop n = n ∷ []
aged e l (go t v p) n = longer n ∷ []
aged e l (out c t v p q) n = cond (expired e t) (restarted l q) (longer n ∷ [])
aged e l (inp c t y p q) n = cond (expired e t) (restarted l q) (longer n ∷ [])
aged e l (call i vs) n = n ∷ []

-- of what becomes of a component: one wait for each component that `pass` makes of it (Rules)
unfoldable pub waits_of : Context → Name → Component → ℕ → List ℕ
waits_of d l (comp h none (one a)) n = cond (same_name h l) (aged d.edition h a n) (n ∷ [])
waits_of d l (comp h none (a ∥ p)) n = n ∷ []
waits_of d l (comp h (by m) p) n = cond (same_name m l) (restarted h p) (n ∷ [])

-- of all components, each with its own wait
unfoldable pub waits_all : Context → Name → List Component → List ℕ → List ℕ
waits_all d l [] ws = []
waits_all d l (c ∷ cs) [] = []
waits_all d l (c ∷ cs) (n ∷ ws) = waits_of d l c n ++ waits_all d l cs ws

-- the tick at l of the components cs
unfoldable pub tick_tally : Context → Name → List Component → Tally → Tally
tick_tally d l cs t = record { waits = waits_all d l cs t.waits; total = t.total; count = t.count }

-- ── the step at l ──
-- its actions one by one, then its tick
unfoldable pub step_tally : Context → Name → List Component → Tally → Tally
step_tally d l cs t = tick_tally d l (fires d l cs).comps (acts_tally (fires d l cs).actions t)

-- ── question 18: is the message count below 1,000,000 for each communication? ──
-- of actions one after another, where n messages were counted before
unfoldable pub countable : List Action → ℕ → Bool
countable [] n = true
countable (single k p ∷ xs) n = countable xs n
countable (pair p q ∷ xs) n = ltb n 1_000_000 && countable xs (suc n)

-- how many of the actions are communications
unfoldable pub messages : List Action → ℕ
messages [] = 0
messages (single k p ∷ xs) = messages xs
messages (pair p q ∷ xs) = suc (messages xs)

-- all of the above, for `unfolding waiting`
unfoldable pub waiting : Unit {0}
unfolding begun act_tally acts_tally longer restarted aged waits_of waits_all tick_tally step_tally countable messages
waiting = tt
