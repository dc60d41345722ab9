-- Document 01's twelve examples together, each from its own text by reading, rules and limits, by computation, under edition 1; and edition 2 beside it.
-- (`terms` has 1 to 10 as terms, with others.)
use Rattle.std.specs.Prelude.{ℕ, List, [], ◌∷◌, map, true, ◌≡◌, refl, replicate}
use Rattle.terms.specs.Names.{Name, bytes}
use Rattle.terms.specs.Terms.{Component, context_in, all_rights}
use Rattle.terms.specs.Terms.Part.{stop}
use Rattle.terms.specs.Terms.Edition.{edition1}
use Rattle.terms.specs.Clock.{edition_of}
use Rattle.terms.specs.Terms.Process.{one, ◌∥◌}
use Rattle.terms.specs.Terms.Mark.{none, by}
use Rattle.terms.specs.Terms.Component.{comp}
use Rattle.terms.specs.Rules.{Answer, Action, tick, ok, ◌>>=◌}
use Rattle.terms.specs.Rules.Answer.{refused, accepted}
use Rattle.terms.specs.Rules.Kind.{moves}
use Rattle.terms.specs.Rules.Action.{single, pair}
use Rattle.terms.specs.Step.{step}
use Rattle.terms.specs.Runs.{Fed, straight_run, rules}
use Rattle.terms.specs.Runs.Call.{acting, ticking}
use Rattle.terms.specs.Runs.Fed.{fed}
use Rattle.text.specs.Questions.{read, read_under}
use Rattle.text.specs.Questions as Q
use Rattle.text.specs.Tokens as T
use Rattle.text.specs.Grammar as G
use Rattle.calls_tick.specs.Ticked.{room}

abbrev A : Name
A = bytes "A"

abbrev B : Name
B = bytes "B"

-- an action, a tick
abbrev acts : Action → Fed
acts a = fed (acting a) true

abbrev ticked : Name → Fed
ticked l = fed (ticking l) true

-- the components of a text
unfoldable of : List ℕ → Answer (List Component)
of s = read s >>= λ m. accepted m.comps

-- and after calls: the first that the rules refuse gives its number
unfoldable after_under : ℕ → List ℕ → List Fed → Answer (List Component)
after_under e s fs = read_under e s >>= λ m. straight_run (context_in (edition_of e) all_rights m) fs m.comps

unfoldable after : List ℕ → List Fed → Answer (List Component)
after s fs = after_under 1 s fs

-- after a step at k, then one at l
unfoldable stepped : ℕ → List ℕ → Name → Name → Answer (List Component)
stepped e s k l = read_under e s >>= λ m. step (context_in (edition_of e) all_rights m) k m.comps >>= λ r. step (context_in (edition_of e) all_rights m) l r.comps >>= λ t. accepted t.comps

-- the same components marked by l
abbrev marked_by : Name → Component → Component
marked_by l (comp k m p) = comp k (by l) p

abbrev all_marked_by : Name → Answer (List Component) → Answer (List Component)
all_marked_by l x = x >>= λ cs. accepted (map (marked_by l) cs)

unfoldable reading : Unit {0}
unfolding rules Q.questions T.tokenwise G.grammar edition_of of after_under after stepped
reading = tt

-- ── 1 and 2: a pair at timer 0 stops the tick, and can meet ──
abbrev text1 : List ℕ
text1 = bytes "A[out(c,0,B,stop,stop) | in(c,0,x,go(3,x,stop),stop)] ."

example1 : after text1 (ticked A ∷ []) ≡ refused 12
unfolding reading
example1 = refl

example2 : after text1 (acts (pair 0 1) ∷ ticked A ∷ []) ≡ of (bytes "A[stop] | A[go(3,B,stop)] .")
unfolding reading
example2 = refl

-- ── 3 to 6: timers ──
example3 : after (bytes "A[out(c,0,B,stop,go(1,B,stop))] .") (ticked A ∷ []) ≡ of (bytes "A[go(1,B,stop)] .")
unfolding reading
example3 = refl

example4 : after (bytes "A[out(c,1,B,stop,stop)] .") (ticked A ∷ []) ≡ of (bytes "A[out(c,0,B,stop,stop)] .")
unfolding reading
example4 = refl

example5 : after (bytes "A[go(1,B,stop)] .") (ticked A ∷ []) ≡ of (bytes "A[go(0,B,stop)] .")
unfolding reading
example5 = refl

example5-again : after (bytes "A[go(1,B,stop)] .") (ticked A ∷ ticked A ∷ []) ≡ refused 12
unfolding reading
example5-again = refl

example6 : after (bytes "A[go(inf,B,stop)] .") (ticked A ∷ []) ≡ of (bytes "A[go(inf,B,stop)] .")
unfolding reading
example6 = refl

-- ── 7 and 8: a mark across two clocks ──
abbrev text7 : List ℕ
text7 = bytes "A[go(0,B,out(c,1,B,stop,stop))] | B[in(c,1,x,stop,stop)] ."

-- the components of M, the first of them still marked by A
abbrev first_marked : List Component → List Component
first_marked [] = []
first_marked (c ∷ cs) = marked_by A c ∷ cs

abbrev text_m : List ℕ
text_m = bytes "B[out(c,1,B,stop,stop)] | B[in(c,0,x,stop,stop)] ."

example7 : after text7 (acts (single moves 0) ∷ ticked B ∷ []) ≡ (of text_m >>= λ cs. accepted (first_marked cs))
unfolding reading
example7 = refl

example8 : after text7 (acts (single moves 0) ∷ ticked B ∷ acts (pair 0 1) ∷ []) ≡ refused 9
unfolding reading
example8 = refl

example8-tick : after text7 (acts (single moves 0) ∷ ticked B ∷ ticked A ∷ []) ≡ of text_m
unfolding reading
example8-tick = refl

example8-meets : ok (after text7 (acts (single moves 0) ∷ ticked B ∷ ticked A ∷ acts (pair 0 1) ∷ [])) ≡ true
unfolding reading
example8-meets = refl

example8-B-A : stepped 1 text7 B A ≡ of text_m
unfolding reading
example8-B-A = refl

example8-A-B : stepped 1 text7 A B ≡ of (bytes "B[stop] | B[stop] .")
unfolding reading
example8-A-B = refl

-- ── 9: a value goes into the inner Q and not into the inner P ──
example9 : after (bytes "A[out(c,0,B,stop,stop) | in(c,0,x,in(c,0,x,go(0,x,stop),go(0,x,stop)),stop)] .") (acts (pair 0 1) ∷ [])
    ≡ all_marked_by A (of (bytes "A[stop] | A[in(c,0,x,go(0,x,stop),go(0,B,stop))] ."))
unfolding reading
example9 = refl

-- ── 10: the step takes the lowest output ──
example10 : (read (bytes "A[out(c,1,B,stop,stop) | out(c,1,A,stop,stop) | in(c,1,x,go(0,x,stop),stop)] .") >>= λ m. step (context_in edition1 all_rights m) A m.comps >>= λ r. accepted r.comps)
    ≡ of (bytes "A[stop] | A[out(c,0,A,stop,stop)] | A[go(0,B,stop)] .")
unfolding reading
example10 = refl

-- ── 11: 256 components, one marked by A and holding two parts, the others `stop`: the tick at A is turned down for want of space ──
example11 : (tick (record { defs = []; edition = edition1; rights = all_rights }) A (comp A (by A) (stop ∥ one stop) ∷ replicate 255 (comp A none (one stop))) >>= room) ≡ refused 13
unfolding rules room
example11 = refl

-- ── 12: the empty text has not the form ──
example12 : read [] ≡ refused 2
unfolding reading
example12 = refl

-- ── editions: document 02, R-8 ──
-- 21 is asked of a good text, before 1 of one that is too long, and before 2 of the empty one
edition-3 : read_under 3 text1 ≡ refused 21
unfolding reading
edition-3 = refl

edition-before-1 : (read_under 1 (replicate 65_536 32) ≡ refused 1) × (read_under 0 (replicate 65_536 32) ≡ refused 21)
unfolding reading
edition-before-1 = (refl, refl)

edition-before-2 : read_under 0 [] ≡ refused 21
unfolding reading
edition-before-2 = refl

-- the pair of example 1 stops the tick under edition 2, and so does one at timer 1
edition-2-pair : after_under 2 text1 (ticked A ∷ []) ≡ refused 12
unfolding reading
edition-2-pair = refl

edition-2-at-1 : after_under 2 (bytes "A[out(c,1,B,stop,stop) | in(c,1,x,stop,stop)] .") (ticked A ∷ []) ≡ refused 12
unfolding reading
edition-2-at-1 = refl

-- example 4 under edition 2: the output takes its Q, and a Q at 1 is as it is written
edition-2-takes : after_under 2 (bytes "A[out(c,1,B,stop,out(c,1,B,stop,go(1,B,stop)))] .") (ticked A ∷ []) ≡ of (bytes "A[out(c,1,B,stop,go(1,B,stop))] .")
unfolding reading
edition-2-takes = refl

edition-2-again : after_under 2 (bytes "A[out(c,1,B,stop,out(c,1,B,stop,go(1,B,stop)))] .") (ticked A ∷ ticked A ∷ []) ≡ of (bytes "A[go(1,B,stop)] .")
unfolding reading
edition-2-again = refl

-- a `go` is as it was: example 5
edition-2-go : after_under 2 (bytes "A[go(1,B,stop)] .") (ticked A ∷ []) ≡ of (bytes "A[go(0,B,stop)] .")
unfolding reading
edition-2-go = refl

-- example 8 under edition 2: the step at B first takes the input's Q, the step at A first lets it meet
edition-2-B-A : stepped 2 text7 B A ≡ of (bytes "B[out(c,1,B,stop,stop)] | B[stop] .")
unfolding reading
edition-2-B-A = refl

edition-2-A-B : stepped 2 text7 A B ≡ of (bytes "B[stop] | B[stop] .")
unfolding reading
edition-2-A-B = refl
