-- Examples of document 02, R-7, settled by computation: what is asked can be met, with rights and under edition 2 too, and each of its two halves is needed.
use mathlib.Core.List.Permᴰ
use Rattle.std.specs.Prelude.{List, [], ◌∷◌, true, false, not, ◌≡◌, refl}
use Rattle.terms.specs.Names.{Name, same_name, bytes}
use Rattle.terms.specs.Terms.{Part, Process, Component, Context, Edition, Rights, all_rights}
use Rattle.terms.specs.Terms.Edition.{edition1, edition2}
use Rattle.terms.specs.Terms.Timer.{ticks}
use Rattle.terms.specs.Terms.Value.{loc, var}
use Rattle.terms.specs.Terms.Part.{stop, go, out, inp}
use Rattle.terms.specs.Terms.Process.{one, ◌∥◌}
use Rattle.terms.specs.Terms.Mark.{none, by}
use Rattle.terms.specs.Terms.Component.{comp}
use Rattle.terms.specs.Terms.Label.{moved, sent}
use Rattle.terms.specs.Rules.{Answer, Action, ◌>>=◌}
use Rattle.terms.specs.Rules.Answer.{refused, accepted}
use Rattle.terms.specs.Rules.Kind.{moves}
use Rattle.terms.specs.Rules.Action.{single, pair}
use Rattle.terms.specs.Step.{Done, Swept, whole_step}
use Rattle.terms.specs.Same.{same}
use Rattle.terms.specs.Runs.{rules}
use Rattle.laws.specs.Steps.{StepsExchanged}
use Rattle.laws.specs.Exchange.{firings, moves_to, InTurn, Exchanged, network_in}

abbrev pub A : Name
A = bytes "A"

abbrev pub B : Name
B = bytes "B"

abbrev pub C : Name
C = bytes "C"

abbrev pub c : Name
c = bytes "c"

abbrev pub x : Name
x = bytes "x"

abbrev pub halt : Process
halt = one stop

infix 10 ◌$◌
abbrev pub ◌$◌ : Name → Part → Component
l $ a = comp l none (one a)

-- no definitions
abbrev pub under : Edition → Rights → Context
under e r = record { defs = []; edition = e; rights = r }

abbrev pub bare : Context
bare = under edition1 all_rights

-- two whole steps: the labels of the second, and what they lead to
abbrev twice : Context → Name → List Action → Name → List Action → List Component → Answer Done
twice d l xs m ys net = whole_step d l xs net >>= λ r. whole_step d m ys r.comps

-- ── met: at A an article is handed over and splits in two, and at B two move to C ──
abbrev day : List Component
day = (A $ out c (ticks 0) (loc C) halt halt) ∷ (A $ inp c (ticks 1) x (stop ∥ one (go (ticks 2) (var x) halt)) halt) ∷ (B $ go (ticks 0) (loc C) halt) ∷ (B $ go (ticks 3) (loc C) halt) ∷ []

abbrev evening : List Component
evening = (A $ stop) ∷ (A $ stop) ∷ (A $ go (ticks 2) (loc C) halt) ∷ (C $ stop) ∷ (C $ stop) ∷ []

abbrev dusk : List Component
dusk = (A $ stop) ∷ (A $ stop) ∷ (A $ go (ticks 2) (loc C) halt) ∷ (C $ stop) ∷ (B $ go (ticks 2) (loc C) halt) ∷ []

abbrev noon : List Component
noon = (A $ stop) ∷ (A $ stop) ∷ (A $ go (ticks 2) (loc C) halt) ∷ (B $ go (ticks 0) (loc C) halt) ∷ (B $ go (ticks 3) (loc C) halt) ∷ []

-- the labels of the step at A, and of that at B
abbrev at_a : Done
at_a = record { labels = sent c C A ∷ []; comps = noon }

abbrev at_b : Done
at_b = record { labels = moved C B ∷ moved C B ∷ []; comps = evening }

-- A and then B; the split has moved B's components from 2 and 3 to 3 and 4
in-turn : InTurn bare A B (pair 0 1 ∷ []) (single moves 4 ∷ single moves 3 ∷ []) day at_a at_b
unfolding rules moves_to
in-turn = record { differ = refl; unmarked-all = refl; first = refl; second = refl; none-to-m = refl; none-to-l = refl }

-- B and then A: the same actions at other positions, the same labels, the same network
exchanged : Exchanged bare A B (pair 0 1 ∷ []) (single moves 4 ∷ single moves 3 ∷ []) day at_a at_b (single moves 3 ∷ single moves 2 ∷ []) (pair 0 1 ∷ [])
unfolding rules moves_to firings
exchanged = record {
  s' = record { labels = moved C B ∷ moved C B ∷ []; comps = (A $ out c (ticks 0) (loc C) halt halt) ∷ (A $ inp c (ticks 1) x (stop ∥ one (go (ticks 2) (var x) halt)) halt) ∷ (C $ stop) ∷ (C $ stop) ∷ [] };
  r' = record { labels = sent c C A ∷ []; comps = evening };
  first = refl;
  second = refl;
  same-ys = refl;
  same-xs = refl;
  labels-m = refl;
  labels-l = refl;
  reordered = Permᴰ.refl evening;
  same-network = refl;
}

-- the engine's own steps, which leave the move at 3 for later
steps-exchanged : StepsExchanged bare A B day (record { actions = pair 0 1 ∷ []; labels = sent c C A ∷ []; comps = noon }) (record { actions = single moves 3 ∷ []; labels = moved C B ∷ []; comps = dusk })
unfolding rules
steps-exchanged = record {
  s' = record { actions = single moves 2 ∷ []; labels = moved C B ∷ []; comps = (A $ out c (ticks 0) (loc C) halt halt) ∷ (A $ inp c (ticks 1) x (stop ∥ one (go (ticks 2) (var x) halt)) halt) ∷ (C $ stop) ∷ (B $ go (ticks 2) (loc C) halt) ∷ [] };
  r' = record { actions = pair 0 1 ∷ []; labels = sent c C A ∷ []; comps = dusk };
  first = refl;
  second = refl;
  labels-m = refl;
  labels-l = refl;
  ends = refl;
}

-- ── example 8 of document 01: not met, since A moves a component to B. That no positions at all would do is in proofs/Asked. ──
abbrev pub sender : Part
sender = out c (ticks 1) (loc B) halt halt

abbrev pub leaving : Part
leaving = go (ticks 0) (loc B) (one sender)

abbrev pub net8 : List Component
net8 = (A $ leaving) ∷ (B $ inp c (ticks 1) x halt halt) ∷ []

-- what the step at B leads to
abbrev pub after-b : Done
after-b = record { labels = []; comps = (A $ leaving) ∷ (B $ inp c (ticks 0) x halt halt) ∷ [] }

-- B and then A leads to the network M of document 01
abbrev pub M : List Component
M = (B $ sender) ∷ (B $ inp c (ticks 0) x halt halt) ∷ []

b-first : twice bare B [] A (single moves 0 ∷ []) net8 ≡ accepted (record { labels = moved B A ∷ []; comps = M })
unfolding rules
b-first = refl

-- but A and then B with the same actions is not allowed: the output has arrived and could be handed over
a_first : twice bare A (single moves 0 ∷ []) B [] net8 ≡ refused 12
unfolding rules
a_first = refl

-- A and then B with what the move makes possible
abbrev pub met : List Component
met = (B $ stop) ∷ (B $ stop) ∷ []

a-first-meets : twice bare A (single moves 0 ∷ []) B (pair 0 1 ∷ []) net8 ≡ accepted (record { labels = sent c B B ∷ []; comps = met })
unfolding rules
a-first-meets = refl

-- what the step at A leads to
abbrev pub arrived : List Component
arrived = (B $ sender) ∷ (B $ inp c (ticks 1) x halt halt) ∷ []

abbrev pub after-a : Done
after-a = record { labels = moved B A ∷ []; comps = arrived }

-- but before A has moved it there is nothing to be handed over at B; B and then A leads to M, which is another network
b-first-alone : firings bare (pair 0 1 ∷ []) net8 ≡ refused 10
unfolding rules firings
b-first-alone = refl

b-first-elsewhere : same (network_in bare M) (network_in bare met) ≡ false
unfolding rules
b-first-elsewhere = refl

-- the same of the engine's own steps
abbrev pub step-a : Swept
step-a = record { actions = single moves 0 ∷ []; labels = moved B A ∷ []; comps = arrived }

abbrev pub step-b : Swept
step-b = record { actions = []; labels = []; comps = after-b.comps }

-- ── a mark is enough to make a difference: the network after the move of example 7, which A has marked ──
abbrev pub marked7 : List Component
marked7 = comp B (by A) (one sender) ∷ (B $ inp c (ticks 1) x halt halt) ∷ []

-- the step at A frees it, and then it is handed over at B
marked-a-first : twice bare A [] B (pair 0 1 ∷ []) marked7 ≡ accepted (record { labels = sent c B B ∷ []; comps = met })
unfolding rules
marked-a-first = refl

marked-b-first : twice bare B (pair 0 1 ∷ []) A [] marked7 ≡ refused 9
unfolding rules
marked-b-first = refl

-- ── a `go` that is left standing is no move: without the right to leave A for B, the network of example 8 meets what is asked, under either edition ──
abbrev pub embargo : Rights
embargo = record { send = λ l k. true; receive = λ l k. true; leave = λ l v. not (same_name v B) }

abbrev waiting : Component → Done
waiting b = record { labels = []; comps = (A $ leaving) ∷ b ∷ [] }

standing-1 : InTurn (under edition1 embargo) A B [] [] net8 (waiting (B $ inp c (ticks 1) x halt halt)) (waiting (B $ inp c (ticks 0) x halt halt))
unfolding rules moves_to
standing-1 = record { differ = refl; unmarked-all = refl; first = refl; second = refl; none-to-m = refl; none-to-l = refl }

-- under edition 2 the input takes its Q
standing-2 : InTurn (under edition2 embargo) A B [] [] net8 (waiting (B $ inp c (ticks 1) x halt halt)) (waiting (B $ stop))
unfolding rules moves_to
standing-2 = record { differ = refl; unmarked-all = refl; first = refl; second = refl; none-to-m = refl; none-to-l = refl }

standing-back : twice (under edition2 embargo) B [] A [] net8 ≡ accepted (waiting (B $ stop))
unfolding rules
standing-back = refl
