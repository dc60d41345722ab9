-- Where articles may go, from the text on: document 02, R-6. Whatever bytes reading accepts, whatever rights are given with them, and whatever calls of any
-- content are given one after another from what it returned, actions, ticks, steps and proposals at all locations mixed: a component stands only where its
-- ancestor was read or where a chain of leave rights leads from there. Ancestors and chains are those of Descent of the crate terms. The proofs are `leave-chain`,
-- `embargo`, `kept-inside`, `as_before` and `not-looked-at` in proofs/Leaving.
use Rattle.std.specs.Prelude.{ℕ, List, Bool, ◌≡◌, length}
use Rattle.terms.specs.Names.{Name}
use Rattle.terms.specs.Terms.{Component, Network, context_in, all_rights}
use Rattle.terms.specs.Clock.{edition_of}
use Rattle.terms.specs.Rights.{Full, SameRights}
use Rattle.terms.specs.Rules.{fire}
use Rattle.terms.specs.Rules.Answer.{accepted}
use Rattle.terms.specs.Runs.{Fed}
use Rattle.terms.specs.Descent.{ancestry, Reached, Closed, StaysInside, NeverAt}
use Rattle.table.specs.declared.State.{State}
use Rattle.table.specs.Meaning.{context_of, net_of}
use Rattle.text.specs.Questions.{form, read_under}
use Rattle.text_answer.specs.declared.Settings.{Settings}
use Rattle.text_answer.specs.declared.Reading.{Reading}
use Rattle.text_answer.specs.Answer.{ReadsAs, given, locations_in, channels_in}
use Rattle.calls.specs.Run.{Given, Run}
use Rattle.calls.specs.Demand3.{read_rights, read_context}

-- the text s was read with g into the script v, and the calls gs then left the components of last: fs is what the rules are fed of them
pub record Lived (s : List ℕ) (g : Settings) (v : List ℕ) (m : Network) (fs : List Fed) (last : State) : Type 0 where
  pub w : List ℕ
  pub r : Reading
  pub reads : ReadsAs s g w v r
  pub accepts : read_under g.edition s ≡ accepted m
  pub gs : List Given
  pub ks : List ℕ
  pub runs : Run v r.state gs ks fs last

-- the ancestors of the last components, position by position
abbrev pub ancestors_of : List ℕ → Settings → Network → List Fed → List Component
ancestors_of s g m fs = ancestry (read_context s g m) fs m.comps m.comps

-- the claim
abbrev pub LeaveChain : Type 0
LeaveChain = (s : List ℕ) (g : Settings) (v : List ℕ) (m : Network) (fs : List Fed) (last : State) → Lived s g v m fs last
    → Reached (read_rights s g) (ancestors_of s g m fs) (net_of v last)

-- For a publisher: if no chain leads from where an article was read to p, nothing that comes from it ever stands at p.
abbrev pub Embargo : Type 0
Embargo = (s : List ℕ) (g : Settings) (v : List ℕ) (m : Network) (fs : List Fed) (last : State) → Lived s g v m fs last
    → (p : Name) → NeverAt (read_rights s g) p (ancestors_of s g m fs) (net_of v last)

-- The same by locations: if no leave right leads out of some of them, what was read inside stays inside. (Whether none does is a test: `closed_in`, and the
-- law `closed-by` of the crate terms.)
abbrev pub KeptInside : Type 0
KeptInside = (s : List ℕ) (g : Settings) (v : List ℕ) (m : Network) (fs : List Fed) (last : State) → Lived s g v m fs last
    → (inside : Name → Bool) → Closed (read_rights s g) inside → StaysInside inside (ancestors_of s g m fs) (net_of v last)

-- ── all rights ──
-- With all rights of the text's names the rules take of the script what they take without rights. What may fire is then what fits (`all-fire` of the crate
-- terms), and so every answer is that of document 01 (`all-act`, `all-forced`, `all-choice`).
abbrev pub AsBefore : Type 0
AsBefore = (s : List ℕ) (g : Settings) (w v : List ℕ) (r : Reading) (m : Network) → ReadsAs s g w v r → read_under g.edition s ≡ accepted m
    → Full (length (locations_in (form s))) (length (channels_in (form s))) (given g) → context_of v ≡ context_in (edition_of g.edition) all_rights m

-- ── what is not looked at ──
-- Rights of numbers that the text does not have, and those to leave for one's own location, are not looked at: the same may fire whatever they are. (Then every
-- action, the forced test and the actions of a step are the same: `act-alike`, `forced-alike`, `fires-alike` of the crate terms.)
abbrev pub NotLookedAt : Type 0
NotLookedAt = (s : List ℕ) (g g' : Settings) (m : Network) → g.edition ≡ g'.edition → SameRights (length (locations_in (form s))) (length (channels_in (form s))) (given g) (given g')
    → fire (read_context s g m) ≡ fire (read_context s g' m)
