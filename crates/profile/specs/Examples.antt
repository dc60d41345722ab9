-- Examples of document 02, R-13, settled by computation: a location that conforms, with two orders of a step; what is counted and what is not; and for each thing
-- that is asked two whole steps that come to different networks without it.
use mathlib.Core.List.Permᴰ
use Rattle.std.specs.Prelude.{List, [], ◌∷◌, true, false, ◌≡◌, refl}
use Rattle.terms.specs.Names.{Name, bytes}
use Rattle.terms.specs.Terms.{Component, Context, all_rights}
use Rattle.terms.specs.Terms.Edition.{edition1}
use Rattle.terms.specs.Terms.Timer.{ticks, inf}
use Rattle.terms.specs.Terms.Value.{loc, var}
use Rattle.terms.specs.Terms.Part.{stop, go, out, inp, call}
use Rattle.terms.specs.Terms.Process.{one, ◌∥◌}
use Rattle.terms.specs.Terms.Mark.{by}
use Rattle.terms.specs.Terms.Component.{comp}
use Rattle.terms.specs.Terms.Def.{define}
use Rattle.terms.specs.Terms.Label.{called, moved, sent}
use Rattle.terms.specs.Rules.Answer.{accepted}
use Rattle.terms.specs.Rules.Kind.{calls, moves}
use Rattle.terms.specs.Rules.Action.{single, pair}
use Rattle.terms.specs.Step.{Done, whole_step}
use Rattle.terms.specs.Same.{same}
use Rattle.terms.specs.Runs.{rules}
use Rattle.laws.specs.Exchange.{network_in}
use Rattle.laws.specs.Examples.{A, B, c, x, halt, ◌$◌, bare}
use Rattle.profile.specs.Profile.{conforms, profile}
use Rattle.profile.specs.Outcome.{TwoSteps, OneOutcome}

abbrev k : Name
k = bytes "k"

-- an output and an input on c, and an input on k
abbrev sends : Component
sends = A $ out c (ticks 1) (loc B) halt halt

abbrev hears : Component
hears = A $ inp c (ticks 1) x (stop ∥ one (go (ticks 2) (var x) halt)) halt

abbrev other : Component
other = A $ inp k (ticks 0) x halt halt

-- ── a location that conforms: an article is handed over and becomes two, one leaves, one is called, one times out ──
abbrev D : Name
D = bytes "D"

abbrev defined : Context
defined = record { defs = define D [] halt ∷ []; edition = edition1; rights = all_rights }

abbrev morning : List Component
morning = hears ∷ (A $ go (ticks 0) (loc B) halt) ∷ sends ∷ (A $ call D []) ∷ other ∷ (B $ go inf (loc A) halt) ∷ []

conforming : conforms A morning ≡ true
unfolding rules profile
conforming = refl

-- what two whole steps come to: in the order of positions, and in another
abbrev ends : List Component
ends = (A $ stop) ∷ (A $ go (ticks 2) (loc B) halt) ∷ (B $ stop) ∷ (A $ stop) ∷ (A $ stop) ∷ (A $ stop) ∷ (B $ go inf (loc A) halt) ∷ []

abbrev upward : Done
upward = record { labels = sent c B A ∷ moved B A ∷ called D A ∷ []; comps = ends }

abbrev downward : Done
downward = record { labels = moved B A ∷ sent c B A ∷ called D A ∷ []; comps = ends }

two-steps : TwoSteps defined A (pair 2 0 ∷ single moves 1 ∷ single calls 3 ∷ []) (single moves 1 ∷ pair 2 0 ∷ single calls 3 ∷ []) morning upward downward
unfolding rules profile
two-steps = record { conforming = refl; one = refl; other = refl }

one-outcome : OneOutcome defined upward downward
unfolding rules
one-outcome = record { same-network = refl; ends = refl; labels = Permᴰ.swap refl refl }

-- ── what is counted ──
-- a sender and a receiver on one channel; several on several channels
pair-conforms : conforms A (sends ∷ hears ∷ other ∷ []) ≡ true
unfolding rules profile
pair-conforms = refl

-- a second sender, a second receiver, on one channel
second-sender : conforms A (sends ∷ (A $ out c (ticks 0) (loc A) halt halt) ∷ []) ≡ false
unfolding rules profile
second-sender = refl

second-receiver : conforms A (hears ∷ other ∷ hears ∷ []) ≡ false
unfolding rules profile
second-receiver = refl

-- a `go` above 0, or with inf; one at 0 conforms
late-go : conforms A ((A $ go (ticks 1) (loc B) halt) ∷ []) ≡ false
unfolding rules profile
late-go = refl

inf-go : conforms A ((A $ go inf (loc B) halt) ∷ []) ≡ false
unfolding rules profile
inf-go = refl

due-go : conforms A ((A $ go (ticks 0) (loc B) halt) ∷ (A $ go (ticks 0) (loc B) halt) ∷ []) ≡ true
unfolding rules profile
due-go = refl

-- what is marked is not ready, and what stands elsewhere is not ready there
marked-aside : conforms A (sends ∷ comp A (by A) (one (out c (ticks 1) (loc B) halt halt)) ∷ comp A (by B) (one (go (ticks 1) (loc B) halt)) ∷ []) ≡ true
unfolding rules profile
marked-aside = refl

elsewhere-aside : conforms A (sends ∷ (B $ out c (ticks 1) (loc B) halt halt) ∷ (B $ go (ticks 1) (loc A) halt) ∷ []) ≡ true
unfolding rules profile
elsewhere-aside = refl

nothing-there : conforms A ((B $ stop) ∷ []) ≡ true
unfolding rules profile
nothing-there = refl

-- ── what is asked is needed: without it two whole steps come to different networks ──
-- the late `go` moves, or it waits
abbrev late : List Component
late = (A $ go (ticks 1) (loc B) halt) ∷ []

late-moves : whole_step bare A (single moves 0 ∷ []) late ≡ accepted (record { labels = moved B A ∷ []; comps = (B $ stop) ∷ [] })
unfolding rules
late-moves = refl

late-waits : whole_step bare A [] late ≡ accepted (record { labels = []; comps = (A $ go (ticks 0) (loc B) halt) ∷ [] })
unfolding rules
late-waits = refl

late-differs : same (network_in bare ((B $ stop) ∷ [])) (network_in bare ((A $ go (ticks 0) (loc B) halt) ∷ [])) ≡ false
unfolding rules
late-differs = refl

-- one receiver for two senders: the one or the other is heard
abbrev rivals : List Component
rivals = (A $ out c (ticks 1) (loc A) halt halt) ∷ sends ∷ (A $ inp c (ticks 1) x (one (go (ticks 0) (var x) halt)) halt) ∷ []

first-heard : whole_step bare A (pair 0 2 ∷ []) rivals ≡ accepted (record { labels = sent c A A ∷ []; comps = (A $ stop) ∷ (A $ out c (ticks 0) (loc B) halt halt) ∷ (A $ go (ticks 0) (loc A) halt) ∷ [] })
unfolding rules
first-heard = refl

second-heard : whole_step bare A (pair 1 2 ∷ []) rivals ≡ accepted (record { labels = sent c B A ∷ []; comps = (A $ out c (ticks 0) (loc A) halt halt) ∷ (A $ stop) ∷ (A $ go (ticks 0) (loc B) halt) ∷ [] })
unfolding rules
second-heard = refl

-- one sender for two receivers: the one or the other is served, and the labels do not show which
abbrev readers : List Component
readers = sends ∷ (A $ inp c (ticks 0) x halt halt) ∷ (A $ inp c (ticks 1) x halt halt) ∷ []

first-served : whole_step bare A (pair 0 1 ∷ []) readers ≡ accepted (record { labels = sent c B A ∷ []; comps = (A $ stop) ∷ (A $ stop) ∷ (A $ inp c (ticks 0) x halt halt) ∷ [] })
unfolding rules
first-served = refl

second-served : whole_step bare A (pair 0 2 ∷ []) readers ≡ accepted (record { labels = sent c B A ∷ []; comps = (A $ stop) ∷ (A $ stop) ∷ (A $ stop) ∷ [] })
unfolding rules
second-served = refl

readers-differ : same (network_in bare ((A $ stop) ∷ (A $ stop) ∷ (A $ inp c (ticks 0) x halt halt) ∷ [])) (network_in bare ((A $ stop) ∷ (A $ stop) ∷ (A $ stop) ∷ [])) ≡ false
unfolding rules
readers-differ = refl
