-- Where articles may go: document 02, R-6. The accepted calls of a list are a straight run (Straight), of which the chain holds (Descent of the crate terms).
-- With all rights the rights of the text's names are all rights (All of the crate text_answer).
use mathlib.Core.Path.{ap, subst, ◌∙◌}
use Rattle.terms.specs.Terms.{context_in}
use Rattle.terms.specs.Clock.{edition_of}
use Rattle.terms.specs.Rules.{fire}
use Rattle.terms.proofs.Descent.{stays-inside, never-at}
use Rattle.terms.proofs.Rights.{fire-same}
use Rattle.text.specs.Questions.{form}
use Rattle.table.specs.Meaning.{net_of}
use Rattle.text_answer.specs.Answer.{ReadsAnswer, given, locations_in, channels_in}
use Rattle.text_answer.proofs.All.{took-full}
use Rattle.calls.specs.Demand3.{read_rights}
use Rattle.calls.specs.Leaving.{LeaveChain, Embargo, KeptInside, AsBefore, NotLookedAt}
use Rattle.calls.proofs.Straight.{straight-run}
use Rattle.calls.proofs.Demand3.{read_plain, chain-text}

pub leave-chain : LeaveChain
leave-chain s g v m fs last x = chain-text (read_plain s g x.w v x.r m x.reads x.accepts) fs (net_of v last) (straight-run v x.runs)

pub embargo : Embargo
embargo s g v m fs last x p = never-at (read_rights s g) p (leave-chain s g v m fs last x)

pub kept-inside : KeptInside
kept-inside s g v m fs last x inside c = stays-inside (read_rights s g) inside (leave-chain s g v m fs last x) c

-- ── all rights ──
pub as_before : AsBefore
as_before s g w v r m a e all = took-full (subst (λ x. ReadsAnswer s g x w w v r) e a) all

-- ── what is not looked at ──
pub not-looked-at : NotLookedAt
not-looked-at s g g' m e same =
    fire-same (locations_in (form s)) (channels_in (form s)) (given g) (given g') same m.defs (edition_of g.edition)
    ∙ ap (λ n. fire (context_in (edition_of n) (read_rights s g') m)) e
