-- Waits, total and count on small networks, and means, by computation: document 02, R-1.
use Rattle.std.specs.Prelude.{ℕ, List, [], ◌∷◌, true, false, ◌≡◌, refl}
use Rattle.terms.specs.Names.{Name, bytes}
use Rattle.terms.specs.Terms.{Part, Process, Component, Rights, Context, all_rights}
use Rattle.terms.specs.Terms.Edition.{edition1, edition2}
use Rattle.terms.specs.Terms.Timer.{ticks, inf}
use Rattle.terms.specs.Terms.Value.{loc}
use Rattle.terms.specs.Terms.Part.{stop, go, out, inp}
use Rattle.terms.specs.Terms.Process.{one, ◌∥◌}
use Rattle.terms.specs.Terms.Mark.{none, by}
use Rattle.terms.specs.Terms.Component.{comp}
use Rattle.terms.specs.Rules.{tick, ◌>>=◌}
use Rattle.terms.specs.Rules.Answer.{refused, accepted}
use Rattle.terms.specs.Rules.Kind.{moves}
use Rattle.terms.specs.Rules.Action.{single, pair}
use Rattle.terms.specs.Runs.{rules}
use Rattle.waits.specs.Waits.{Tally, act_tally, tick_tally, step_tally, countable, waiting}
use Rattle.waits.specs.Counted.{act_counted}
use Rattle.waits.specs.Mean.{mean_of, rounded}
use Rattle.waits.specs.Mean.Mean.{none, over}

abbrev A : Name
A = bytes "A"

abbrev B : Name
B = bytes "B"

abbrev c : Name
c = bytes "c"

abbrev x : Name
x = bytes "x"

abbrev halt : Process
halt = one stop

infix 10 ◌$◌
abbrev ◌$◌ : Name → Part → Component
l $ a = comp l none (one a)

abbrev no_rights : Rights
no_rights = record { send = λ l h. false; receive = λ l h. false; leave = λ l v. false }

abbrev all : Context
all = record { defs = []; edition = edition1; rights = all_rights }

abbrev tallied : List ℕ → ℕ → ℕ → Tally
tallied ws t n = record { waits = ws; total = t; count = n }

-- ── a tick at A ──
-- `stop` does not wait; inf is kept and waits; a wait halts at 1,000,000; another location's component and what another location has marked are untouched
ticked : tick_tally all A ((A $ stop) ∷ (A $ go inf (loc A) halt) ∷ (A $ out c (ticks 3) (loc A) halt halt) ∷ (B $ go inf (loc A) halt) ∷ comp A (by B) halt ∷ []) (tallied (0 ∷ 4 ∷ 1_000_000 ∷ 7 ∷ 0 ∷ []) 9 2)
    ≡ tallied (0 ∷ 5 ∷ 1_000_000 ∷ 7 ∷ 0 ∷ []) 9 2
unfolding rules waiting
ticked = refl

-- a component that takes its Q begins again at 0, each part of it, and so does one that loses its mark
split_off : tick_tally all A ((A $ inp c (ticks 0) x halt (stop ∥ halt)) ∷ comp B (by A) (stop ∥ halt) ∷ (A $ inp c (ticks 1) x halt halt) ∷ []) (tallied (8 ∷ 0 ∷ 8 ∷ []) 0 0)
    ≡ tallied (0 ∷ 0 ∷ 0 ∷ 0 ∷ 9 ∷ []) 0 0
unfolding rules waiting
split_off = refl

-- under edition 2 it takes its Q at timer 1
edition-2 : tick_tally (record { defs = []; edition = edition2; rights = all_rights }) A ((A $ inp c (ticks 1) x halt halt) ∷ (A $ inp c (ticks 2) x halt halt) ∷ []) (tallied (8 ∷ 8 ∷ []) 0 0)
    ≡ tallied (0 ∷ 9 ∷ []) 0 0
unfolding rules waiting
edition-2 = refl

-- a `go` at 0 without its right keeps 0, and waits
unable-waits : (tick (record { defs = []; edition = edition1; rights = no_rights }) A ((A $ go (ticks 0) (loc B) halt) ∷ []) ≡ accepted ((A $ go (ticks 0) (loc B) halt) ∷ []))
    × (tick_tally (record { defs = []; edition = edition1; rights = no_rights }) A ((A $ go (ticks 0) (loc B) halt) ∷ []) (tallied (3 ∷ []) 0 0) ≡ tallied (4 ∷ []) 0 0)
unfolding rules waiting
unable-waits = (refl, refl)

-- ── actions ──
-- the sender's wait is added and the receiver's is not; both begin again
handed-over : act_tally (pair 1 0) (tallied (9 ∷ 4 ∷ 2 ∷ []) 10 3) ≡ tallied (0 ∷ 0 ∷ 2 ∷ []) 14 4
unfolding rules waiting
handed-over = refl

moved_on : act_tally (single moves 1) (tallied (9 ∷ 4 ∷ []) 10 3) ≡ tallied (9 ∷ 0 ∷ []) 10 3
unfolding rules waiting
moved_on = refl

-- ── question 18 ──
abbrev two : List Component
two = (A $ out c (ticks 0) (loc B) halt halt) ∷ (A $ inp c (ticks 0) x halt halt) ∷ []

-- at a full count a communication is refused, after what the rules ask, and a move is not; the tick is still refused by 12
full-18 : (act_counted all (pair 0 1) (record { comps = two; tally = tallied (0 ∷ 0 ∷ []) 0 1_000_000 }) ≡ refused 18)
    × (act_counted all (pair 1 0) (record { comps = two; tally = tallied (0 ∷ 0 ∷ []) 0 1_000_000 }) ≡ refused 10)
    × (tick all A two ≡ refused 12)
unfolding rules waiting act_counted
full-18 = (refl, refl, refl)

last-message : (act_counted all (pair 0 1) (record { comps = two; tally = tallied (5 ∷ 6 ∷ []) 7 999_999 }) >>= λ r. accepted r.tally) ≡ accepted (tallied (0 ∷ 0 ∷ []) 12 1_000_000)
unfolding rules waiting act_counted
last-message = refl

-- of two communications the second is asked with one more
two-asked : (countable (pair 0 1 ∷ pair 2 3 ∷ []) 999_998 ≡ true) × (countable (pair 0 1 ∷ pair 2 3 ∷ []) 999_999 ≡ false) × (countable (single moves 0 ∷ []) 1_000_000 ≡ true)
unfolding rules waiting
two-asked = (refl, refl, refl)

-- ── a late article: it waits for two ticks at A until its reader comes; the step that hands it over adds 2 ──
late : step_tally all A ((A $ out c (ticks 5) (loc B) halt halt) ∷ (A $ inp c (ticks 9) x halt halt) ∷ []) (tallied (2 ∷ 0 ∷ []) 0 0) ≡ tallied (0 ∷ 0 ∷ []) 2 1
unfolding rules waiting
late = refl

-- ── means ──
means : (mean_of 0 0 ≡ none) × (mean_of 0 4 ≡ over 0 0 4) × (mean_of 3 2 ≡ over 1 1 2) × (mean_of 1_000_000_000_000 1_000_000 ≡ over 1_000_000 0 1_000_000)
unfolding mean_of
means = (refl, refl, refl, refl)

-- Document 02, R-9: one half is 0, one and a half 2, two and a half 2 too, three and a half 4; also of four and of the largest count. Else the nearest: one and a third is 1,
-- one and two thirds 2; just below a half and just above it; a whole mean stays.
halves : (rounded 0 1 2 ≡ 0) × (rounded 1 1 2 ≡ 2) × (rounded 2 1 2 ≡ 2) × (rounded 3 1 2 ≡ 4) × (rounded 2 2 4 ≡ 2) × (rounded 3 2 4 ≡ 4) × (rounded 999_999 500_000 1_000_000 ≡ 1_000_000)
unfolding rounded
halves = (refl, refl, refl, refl, refl, refl, refl)

whole-ticks : (rounded 1 1 3 ≡ 1) × (rounded 1 2 3 ≡ 2) × (rounded 1 499_999 1_000_000 ≡ 1) × (rounded 2 500_001 1_000_000 ≡ 3) × (rounded 4 0 9 ≡ 4) × (rounded 5 0 9 ≡ 5)
unfolding rounded
whole-ticks = (refl, refl, refl, refl, refl, refl)
