-- Demand 3, from the text on: document 01, *Mixed runs*. Whatever bytes reading accepts, and whatever calls of any content are given one after another
-- from what it returned, actions, ticks, steps and proposals at all locations mixed: the engine's last network is that of the grouped run, which begins
-- at the text's own network, under the edition and with the rights that were given. The proof is `demand-3` in proofs/Demand3, one for both editions and all
-- rights.
use Rattle.std.specs.Prelude.{ℕ, min, List, ◌≡◌, length}
use Rattle.terms.specs.Terms.{Network, Context, Rights, context_in}
use Rattle.terms.specs.Rules.{Answer}
use Rattle.terms.specs.Rules.Answer.{refused, accepted}
use Rattle.terms.specs.Runs.{Fed}
use Rattle.terms.specs.Clock.{edition_of}
use Rattle.terms.specs.Rights.{by_name}
use Rattle.terms.specs.Descent.{ancestry, Reached}
use Rattle.table.specs.declared.State.{State}
use Rattle.table.specs.Meaning.{context_of, net_of}
use Rattle.text.specs.Questions.{form, read_under}
use Rattle.text_answer.specs.declared.Settings.{Settings}
use Rattle.text_answer.specs.declared.Reading.{Reading}
use Rattle.text_answer.specs.Answer.{Took, ReadsAs, given, locations_in, channels_in}
use Rattle.calls.specs.declared.RanText.{RanText}
use Rattle.calls.specs.Run.{Given, Run, Mixed, RunsAs}

-- the rights that were given with g, by the names of the text s
abbrev pub read_rights : List ℕ → Settings → Rights
read_rights s g = by_name (locations_in (form s)) (channels_in (form s)) (given g)

-- what the rules take of the network m of the text s, read with g
abbrev pub read_context : List ℕ → Settings → Network → Context
read_context s g m = context_in (edition_of g.edition) (read_rights s g) m

-- s the text, g what is given with it, w and v the lent script before and after reading it, r what reading returned
abbrev pub Demand3 : Type 0
Demand3 =
    (s : List ℕ) (g : Settings) (w v : List ℕ) (r : Reading) (m : Network) → ReadsAs s g w v r → read_under g.edition s ≡ accepted m
    → (gs : List Given) (ks : List ℕ) (fs : List Fed) (last : State) → Run v r.state gs ks fs last
    → (context_of v ≡ read_context s g m) × Mixed (read_context s g m) m.comps fs (net_of v last)

-- ── the function that reads a text and runs a list ──
abbrev pub text_refused : ℕ → RanText
text_refused n = record { code = n; done = 0; n = 0 }

-- the lent components afterwards, of which the answer says how many are in use
abbrev pub left : RanText → List ℕ → State
left r cs = record { c = cs; n = r.n }

-- an accepted text: it is read as the read call does it, the list is run from what was read, and demand 3 holds of it, and so does the claim of document 02, R-6
pub record TextRan (s : List ℕ) (g : Settings) (w v cs : List ℕ) (m : Network) (es : List (List ℕ)) (before after : List ℕ) (r : RanText) : Type 0 where
  pub code : r.code ≡ 0
  pub done : r.done ≡ min (length es) (length before)
  pub reading : Reading
  pub took : Took s g w v m reading
  pub ran : RunsAs v reading.state es before after r.done (left r cs)
  pub mixed : Mixed (read_context s g m) m.comps ran.fs (net_of v (left r cs))
  pub reached : Reached (read_rights s g) (ancestry (read_context s g m) ran.fs m.comps m.comps) (net_of v (left r cs))

-- the text s was read with g into the lent script, w before and v after, and into the lent components, cs₀ before, and then the list es was run, which left cs
abbrev pub TextRuns : List ℕ → Settings → Answer Network → List ℕ → List ℕ → List ℕ → List ℕ → List (List ℕ) → List ℕ → List ℕ → RanText → Type 0
TextRuns s g (refused n) w v cs₀ cs es before after r = (r ≡ text_refused n) × (v ≡ w) × (cs ≡ cs₀) × (after ≡ before)
TextRuns s g (accepted m) w v cs₀ cs es before after r = TextRan s g w v cs m es before after r
