-- The examples of document 01, *Twelve examples for the proofs*, that the rules alone settle: 1 to 10, and 11 up to the 257th component.
-- Each is settled by computation. Some others follow that show a trap.
use Rattle.std.specs.Prelude.{ℕ, zero, suc, List, [], ◌∷◌, Bool, true, false, not, ◌&&◌, ◌||◌, ◌≡◌, refl, length, replicate}
use Rattle.terms.specs.Names.{Name, same_name, bytes}
use Rattle.terms.specs.Terms.{Timer, Value, Part, Process, Component, Context, Label, Rights, all_rights}
use Rattle.terms.specs.Terms.Timer.{ticks, inf}
use Rattle.terms.specs.Terms.Edition.{edition1, edition2}
use Rattle.terms.specs.Terms.Value.{loc, var}
use Rattle.terms.specs.Terms.Part.{stop, go, out, inp, call}
use Rattle.terms.specs.Terms.Process.{one, ◌∥◌}
use Rattle.terms.specs.Terms.Mark.{none, by}
use Rattle.terms.specs.Terms.Component.{comp}
use Rattle.terms.specs.Terms.Def.{define}
use Rattle.terms.specs.Terms.Label.{called, moved, sent}
use Rattle.terms.specs.Rules.{Answer, Action, act, tick, ok, ◌>>=◌}
use Rattle.terms.specs.Rules.Answer.{refused, accepted}
use Rattle.terms.specs.Rules.Kind.{calls, moves}
use Rattle.terms.specs.Rules.Action.{single, pair}
use Rattle.terms.specs.Step.{step}
use Rattle.terms.specs.Same.{every, same}
use Rattle.terms.specs.Descent.{inherited, ancestors, ancestry, closed_in}
use Rattle.terms.specs.Runs.{Fed, grouped_run, straight_run, rules}
use Rattle.terms.specs.Runs.Call.{acting, ticking}
use Rattle.terms.specs.Runs.Fed.{fed}

-- ── names and short forms ──
abbrev A : Name
A = bytes "A"

abbrev B : Name
B = bytes "B"

abbrev c : Name
c = bytes "c"

abbrev x : Name
x = bytes "x"

abbrev halt : Process
halt = one stop

-- the unmarked component `l[a]`
infix 10 ◌$◌
abbrev ◌$◌ : Name → Part → Component
l $ a = comp l none (one a)

-- no definitions, under edition 1 and under edition 2
abbrev bare : Context
bare = record { defs = []; edition = edition1; rights = all_rights }

abbrev bare2 : Context
bare2 = record { defs = []; edition = edition2; rights = all_rights }

-- an accepted action, an accepted tick
abbrev acts : Action → Fed
acts a = fed (acting a) true

abbrev ticked : Name → Fed
ticked l = fed (ticking l) true

-- ── 1 and 2: a pair at timer 0 stops the tick, and can meet ──
abbrev net1 : List Component
net1 = (A $ out c (ticks 0) (loc B) halt halt) ∷ (A $ inp c (ticks 0) x (one (go (ticks 3) (var x) halt)) halt) ∷ []

example1 : tick bare A net1 ≡ refused 12
unfolding rules
example1 = refl

example2 : straight_run bare (acts (pair 0 1) ∷ ticked A ∷ []) net1 ≡ accepted ((A $ stop) ∷ (A $ go (ticks 3) (loc B) halt) ∷ [])
unfolding rules
example2 = refl

-- ── 3 to 6: timers ──
example3 : tick bare A ((A $ out c (ticks 0) (loc B) halt (one (go (ticks 1) (loc B) halt))) ∷ []) ≡ accepted ((A $ go (ticks 1) (loc B) halt) ∷ [])
unfolding rules
example3 = refl

example4 : tick bare A ((A $ out c (ticks 1) (loc B) halt halt) ∷ []) ≡ accepted ((A $ out c (ticks 0) (loc B) halt halt) ∷ [])
unfolding rules
example4 = refl

example5 : tick bare A ((A $ go (ticks 1) (loc B) halt) ∷ []) ≡ accepted ((A $ go (ticks 0) (loc B) halt) ∷ [])
unfolding rules
example5 = refl

example5-again : straight_run bare (ticked A ∷ ticked A ∷ []) ((A $ go (ticks 1) (loc B) halt) ∷ []) ≡ refused 12
unfolding rules
example5-again = refl

example6 : tick bare A ((A $ go inf (loc B) halt) ∷ []) ≡ accepted ((A $ go inf (loc B) halt) ∷ [])
unfolding rules
example6 = refl

-- ── 7 and 8: a mark across two clocks ──
abbrev sender : Part
sender = out c (ticks 1) (loc B) halt halt

abbrev net7 : List Component
net7 = (A $ go (ticks 0) (loc B) (one sender)) ∷ (B $ inp c (ticks 1) x halt halt) ∷ []

abbrev moved7 : List Component
moved7 = comp B (by A) (one sender) ∷ (B $ inp c (ticks 0) x halt halt) ∷ []

example7 : straight_run bare (acts (single moves 0) ∷ ticked B ∷ []) net7 ≡ accepted moved7
unfolding rules
example7 = refl

abbrev M : List Component
M = (B $ sender) ∷ (B $ inp c (ticks 0) x halt halt) ∷ []

example8-marked : act bare (pair 0 1) moved7 ≡ refused 9
unfolding rules
example8-marked = refl

example8-tick : tick bare A moved7 ≡ accepted M
unfolding rules
example8-tick = refl

example8-meets : ok (act bare (pair 0 1) M) ≡ true
unfolding rules
example8-meets = refl

abbrev two_steps : Name → Name → List Component → Answer (List Component)
two_steps k l net = step bare k net >>= λ r. step bare l r.comps >>= λ s. accepted s.comps

example8-B-A : two_steps B A net7 ≡ accepted M
unfolding rules
example8-B-A = refl

-- the step at A first: the output arrives in time and is handed over
example8-A-B : two_steps A B net7 ≡ accepted ((B $ stop) ∷ (B $ stop) ∷ [])
unfolding rules
example8-A-B = refl

-- ── 9: a value goes into the inner Q and not into the inner P ──
abbrev inner : Value → Part
inner v = inp c (ticks 0) x (one (go (ticks 0) (var x) halt)) (one (go (ticks 0) v halt))

example9 : act bare (pair 0 1) ((A $ out c (ticks 0) (loc B) halt halt) ∷ (A $ inp c (ticks 0) x (one (inner (var x))) halt) ∷ [])
    ≡ accepted (record { label = sent c B A; comps = comp A (by A) halt ∷ comp A (by A) (one (inner (loc B))) ∷ [] })
unfolding rules
example9 = refl

-- ── 10: the step takes the lowest output ──
example10 : step bare A ((A $ out c (ticks 1) (loc B) halt halt) ∷ (A $ out c (ticks 1) (loc A) halt halt) ∷ (A $ inp c (ticks 1) x (one (go (ticks 0) (var x) halt)) halt) ∷ [])
    ≡ accepted (record { actions = pair 0 2 ∷ []; labels = sent c B A ∷ []; comps = (A $ stop) ∷ (A $ out c (ticks 0) (loc A) halt halt) ∷ (A $ go (ticks 0) (loc B) halt) ∷ [] })
unfolding rules
example10 = refl

-- ── document 02, R-3: the most urgent reader first ──
abbrev reads : Timer → Component
reads t = A $ inp c t x halt halt

abbrev hands : Name → Component
hands v = A $ out c inf (loc v) halt halt

abbrev other : Name
other = bytes "other"

-- the actions of the step at A
abbrev served : List Component → Answer (List Action)
served net = step bare A net >>= λ s. accepted s.actions

-- two index heads: the one about to time out is served, though it stands higher
urgent-reader : served (hands B ∷ reads (ticks 3) ∷ reads (ticks 0) ∷ []) ≡ accepted (pair 0 2 ∷ [])
unfolding rules
urgent-reader = refl

-- inf last, and the lowest position among equals
urgent-order : served (hands B ∷ hands A ∷ hands B ∷ hands A ∷ reads inf ∷ reads (ticks 1_000_000) ∷ reads (ticks 2) ∷ reads (ticks 2) ∷ []) ≡ accepted (pair 0 6 ∷ pair 1 7 ∷ pair 2 5 ∷ pair 3 4 ∷ [])
unfolding rules
urgent-order = refl

-- an input of another channel or at another location is not looked at
urgent-own : served (hands B ∷ (A $ inp other (ticks 0) x halt halt) ∷ (B $ inp c (ticks 0) x halt halt) ∷ reads (ticks 5) ∷ []) ≡ accepted (pair 0 3 ∷ [])
unfolding rules
urgent-own = refl

-- a single action and a proposal may take any input
urgent-any : ok (act bare (pair 0 1) (hands B ∷ reads (ticks 3) ∷ reads (ticks 0) ∷ [])) ≡ true
unfolding rules
urgent-any = refl

-- ── 11: by the rules the tick gives 257 components; question 13 is the table's ──
example11 : (tick bare A (comp A (by A) (stop ∥ halt) ∷ replicate 255 (A $ stop)) >>= λ n. accepted (length n)) ≡ accepted 257
unfolding rules
example11 = refl

-- ── others ──
-- the grouped run of example 7, closed by the tick at A: two whole steps, at B with no action and at A with the move
example7-grouped : grouped_run bare (acts (single moves 0) ∷ ticked B ∷ ticked A ∷ []) net7 ≡ accepted (record { straight = M; grouped = M })
unfolding rules
example7-grouped = refl

-- a Q of two parts is split in the tick that gives it, with its timers as written
split_q : tick bare A ((A $ out c (ticks 0) (loc B) halt (go (ticks 0) (loc B) halt ∥ halt)) ∷ []) ≡ accepted ((A $ go (ticks 0) (loc B) halt) ∷ (A $ stop) ∷ [])
unfolding rules
split_q = refl

-- what another location has marked is not ticked, split or unmarked, even where it stands
others-mark : tick bare A (comp A (by B) (sender ∥ halt) ∷ []) ≡ accepted (comp A (by B) (sender ∥ halt) ∷ [])
unfolding rules
others-mark = refl

-- arguments are put in all at once: D(y,x) within D(x,y) exchanges
abbrev y : Name
y = bytes "y"

abbrev D : Name
D = bytes "D"

exchange : act (record { defs = define D (x ∷ y ∷ []) (one (call D (var y ∷ var x ∷ []))) ∷ []; edition = edition1; rights = all_rights }) (single calls 0) ((A $ call D (loc A ∷ loc B ∷ [])) ∷ [])
    ≡ accepted (record { label = called D A; comps = comp A (by A) (one (call D (loc B ∷ loc A ∷ []))) ∷ [] })
unfolding rules
exchange = refl

-- ── the printout of document 01's program, as four rounds of steps ──
abbrev Page : Name
Page = bytes "Page"

abbrev pages : Context
pages = record { defs = define Page (x ∷ []) (one (go (ticks 0) (var x) (one (out c (ticks 1) (var x) halt halt)))) ∷ []; edition = edition1; rights = all_rights }

abbrev net0 : List Component
net0 = (A $ call Page (loc B ∷ [])) ∷ (B $ inp c (ticks 2) y (one (go (ticks 0) (var y) halt)) halt) ∷ []

-- the labels of each step, and the last components
pub record Printout : Type 0 where
  pub lines : List (List Label)
  pub last : List Component

abbrev also : List Label → Answer Printout → Answer Printout
also ls r = r >>= λ p. accepted (record { lines = ls ∷ p.lines; last = p.last })

unfoldable rounds : ℕ → List Component → Answer Printout
rounds zero net = accepted (record { lines = []; last = net })
rounds (suc n) net = step pages A net >>= λ a. step pages B a.comps >>= λ b. also a.labels (also b.labels (rounds n b.comps))

printout : rounds 4 net0
    ≡ accepted (record {
      lines = (called Page A ∷ []) ∷ [] ∷ (moved B A ∷ []) ∷ (sent c B B ∷ []) ∷ [] ∷ (moved B B ∷ []) ∷ [] ∷ [] ∷ [];
      last = (B $ stop) ∷ (B $ stop) ∷ [];
    })
unfolding rules rounds
printout = refl

-- order aside, and definitions as a set
same-order : same (record { defs = []; comps = (A $ stop) ∷ (B $ stop) ∷ [] }) (record { defs = []; comps = (B $ stop) ∷ (A $ stop) ∷ [] }) ≡ true
unfolding rules
same-order = refl

same-often : same (record { defs = []; comps = (A $ stop) ∷ (B $ stop) ∷ [] }) (record { defs = []; comps = (A $ stop) ∷ (A $ stop) ∷ (B $ stop) ∷ [] }) ≡ false
unfolding rules
same-often = refl

-- ── editions: document 02, R-8 ──
-- an `in` with this timer whose Q is a `go` with timer 1, and what a tick makes of it alone
abbrev reader : Timer → Part
reader t = inp c t x halt (one (go (ticks 1) (loc B) halt))

abbrev alone-in : Context → Timer → Answer (List Component)
alone-in d t = tick d A ((A $ reader t) ∷ [])

-- its Q as written: what was taken in this tick is not lowered in it
abbrev took_q : Answer (List Component)
took_q = accepted ((A $ go (ticks 1) (loc B) halt) ∷ [])

-- 0 takes its Q in both editions
edition-0 : (alone-in bare (ticks 0) ≡ took_q) × (alone-in bare2 (ticks 0) ≡ took_q)
unfolding rules
edition-0 = (refl, refl)

-- 1 becomes 0 under edition 1 and takes its Q under edition 2
edition-1 : (alone-in bare (ticks 1) ≡ accepted ((A $ reader (ticks 0)) ∷ [])) × (alone-in bare2 (ticks 1) ≡ took_q)
unfolding rules
edition-1 = (refl, refl)

-- 2 becomes 1 in both, and inf stays
edition-2 : (alone-in bare (ticks 2) ≡ accepted ((A $ reader (ticks 1)) ∷ [])) × (alone-in bare2 (ticks 2) ≡ accepted ((A $ reader (ticks 1)) ∷ []))
unfolding rules
edition-2 = (refl, refl)

edition-inf : (alone-in bare inf ≡ accepted ((A $ reader inf) ∷ [])) × (alone-in bare2 inf ≡ accepted ((A $ reader inf) ∷ []))
unfolding rules
edition-inf = (refl, refl)

-- an `out` alike
edition-out : tick bare2 A ((A $ out c (ticks 1) (loc B) halt halt) ∷ (A $ out c (ticks 2) (loc B) halt halt) ∷ []) ≡ accepted ((A $ stop) ∷ (A $ out c (ticks 1) (loc B) halt halt) ∷ [])
unfolding rules
edition-out = refl

-- a fresh Q that is an `in` with timer 1 is still there after the tick that gave it
edition-fresh : tick bare2 A ((A $ inp c (ticks 1) x halt (one (reader (ticks 1)))) ∷ []) ≡ accepted ((A $ reader (ticks 1)) ∷ [])
unfolding rules
edition-fresh = refl

-- `go` is as it was: 1 is lowered and only 0 must move
edition-go : (tick bare2 A ((A $ go (ticks 1) (loc B) halt) ∷ []) ≡ accepted ((A $ go (ticks 0) (loc B) halt) ∷ [])) × (tick bare2 A ((A $ go (ticks 0) (loc B) halt) ∷ []) ≡ refused 12)
unfolding rules
edition-go = (refl, refl)

-- a ready pair stops the tick under edition 2, at 1 and at 0, and the step lets it meet
abbrev pair_at : Timer → List Component
pair_at t = (A $ out c t (loc B) halt (one (go inf (loc B) halt))) ∷ (A $ reader t) ∷ []

edition-pair : (tick bare2 A (pair_at (ticks 1)) ≡ refused 12) × (tick bare2 A (pair_at (ticks 0)) ≡ refused 12)
unfolding rules
edition-pair = (refl, refl)

edition-meets : (step bare2 A (pair_at (ticks 1)) >>= λ s. accepted s.comps) ≡ accepted ((A $ stop) ∷ (A $ stop) ∷ [])
unfolding rules
edition-meets = refl

-- example 7 under edition 2: the input's last chance at B passes before the move arrives, and the grouped run is the straight one
edition-grouped : grouped_run bare2 (acts (single moves 0) ∷ ticked B ∷ ticked A ∷ []) net7
    ≡ accepted (record { straight = (B $ sender) ∷ (B $ stop) ∷ []; grouped = (B $ sender) ∷ (B $ stop) ∷ [] })
unfolding rules
edition-grouped = refl

-- ── rights: document 02, R-6 ──
abbrev P : Name
P = bytes "P"

-- all rights but that to leave A for P, that of A to send on c, or that of A to receive on c
abbrev no_leave : Rights
no_leave = record { send = λ l k. true; receive = λ l k. true; leave = λ l v. not (same_name l A && same_name v P) }

abbrev no_send : Rights
no_send = record { send = λ l k. not (same_name l A && same_name k c); receive = λ l k. true; leave = λ l v. true }

abbrev no_receive : Rights
no_receive = record { send = λ l k. true; receive = λ l k. not (same_name l A && same_name k c); leave = λ l v. true }

abbrev with : Rights → Context
with r = record { defs = []; edition = edition1; rights = r }

-- a move without its right is refused by 20; the tick goes on, and the timer stays 0
right-leave : (act (with no_leave) (single moves 0) ((A $ go (ticks 0) (loc P) halt) ∷ []) ≡ refused 20)
    × (tick (with no_leave) A ((A $ go (ticks 0) (loc P) halt) ∷ []) ≡ accepted ((A $ go (ticks 0) (loc P) halt) ∷ []))
unfolding rules
right-leave = (refl, refl)

-- the step has no action for it
right-step : (step (with no_leave) A ((A $ go (ticks 0) (loc P) halt) ∷ (A $ go (ticks 0) (loc B) halt) ∷ []) >>= λ s. accepted s.actions) ≡ accepted (single moves 1 ∷ [])
unfolding rules
right-step = refl

-- the right is that of the location left, not of the target, and not the other way round
right-back : ok (act (with no_leave) (single moves 0) ((P $ go (ticks 0) (loc A) halt) ∷ [])) ≡ true
unfolding rules
right-back = refl

-- to one's own location none is needed
right-own : ok (act (with (record { send = λ l k. true; receive = λ l k. true; leave = λ l v. false })) (single moves 0) ((A $ go (ticks 3) (loc A) halt) ∷ [])) ≡ true
unfolding rules
right-own = refl

-- a pair at timer 0 without one of its rights takes both Q in one tick
right-pair : (act (with no_send) (pair 0 1) (pair_at (ticks 0)) ≡ refused 20) × (act (with no_receive) (pair 0 1) (pair_at (ticks 0)) ≡ refused 20)
    × (tick (with no_send) A (pair_at (ticks 0)) ≡ tick (with no_receive) A (pair_at (ticks 0)))
    × (tick (with no_receive) A (pair_at (ticks 0)) ≡ accepted ((A $ go inf (loc B) halt) ∷ (A $ go (ticks 1) (loc B) halt) ∷ []))
unfolding rules
right-pair = (refl, refl, refl, refl)

-- 11 is asked before 20, and a right of another location does not matter
right-after-11 : (act (with no_send) (pair 0 1) ((A $ out c (ticks 0) (loc B) halt halt) ∷ (B $ reader (ticks 0)) ∷ []) ≡ refused 11)
    × (tick (with no_send) B ((B $ out c (ticks 0) (loc B) halt halt) ∷ (B $ reader (ticks 0)) ∷ []) ≡ refused 12)
unfolding rules
right-after-11 = (refl, refl)

-- from A nothing may leave for P, from B everything may; over B the page gets there all the same, for a chain leads over B
right-chain : straight_run (with no_leave) (acts (single moves 0) ∷ ticked A ∷ acts (single moves 0) ∷ ticked B ∷ []) ((A $ go (ticks 0) (loc B) (one (go (ticks 0) (loc P) halt))) ∷ [])
    ≡ accepted ((P $ stop) ∷ [])
unfolding rules
right-chain = refl

-- so the rights lead out of A and B, and would not if B had none for P either
abbrev inside : Name → Bool
inside l = same_name l A || same_name l B

right-closed : (closed_in (A ∷ B ∷ P ∷ []) no_leave inside ≡ false)
    × (closed_in (A ∷ B ∷ P ∷ []) (record { send = λ l k. true; receive = λ l k. true; leave = λ l v. not (inside l && same_name v P) }) inside ≡ true)
unfolding closed_in every same_name
right-closed = (refl, refl)

-- The ancestors of a page that moves and is split, of one that takes its Q, and of one at another location that stays. Numbers stand for the components read.
right-ancestors : ancestry {A = ℕ} bare (acts (single moves 0) ∷ ticked A ∷ []) (0 ∷ 1 ∷ 2 ∷ [])
    ((A $ go (ticks 0) (loc B) (stop ∥ one stop)) ∷ (A $ inp c (ticks 0) x halt (stop ∥ one stop)) ∷ (B $ stop) ∷ [])
    ≡ 0 ∷ 0 ∷ 1 ∷ 1 ∷ 2 ∷ []
unfolding rules inherited ancestors ancestry
right-ancestors = refl
