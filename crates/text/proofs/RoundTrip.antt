-- Reading what was written asks only 1, 3 and 4, and gives the same network: `only-limits`, `round_trip`.
-- The terms of the written text are the network's own tree, and their places are those of the network, so that 5, 6 and 7 ask what `Sound` says.
use mathlib.Core.List.{List, [], ◌∷◌, map, flat_map}
use mathlib.Core.Bool.{true}
use mathlib.Core.Path.{◌≡◌, refl, ◌∙◌}
use Rattle.terms.specs.Terms.{Timer, Part, Process, Component, Def, Network}
use Rattle.terms.specs.Terms.Timer.{ticks, inf}
use Rattle.terms.specs.Terms.Part.{stop, go, out, inp, call}
use Rattle.terms.specs.Terms.Process.{one, ◌∥◌}
use Rattle.terms.specs.Terms.Def.{define}
use Rattle.terms.specs.Terms.Mark.{none, by}
use Rattle.terms.specs.Terms.Component.{comp}
use Rattle.terms.specs.Rules.{Answer, split}
use Rattle.terms.specs.Rules.Answer.{accepted}
use Rattle.terms.specs.Same.{every}
use Rattle.text.specs.Syntax.{Text}
use Rattle.text.specs.Tree.{timer_of, settle, settle_p, settle_def, settle_at, settled, components, network_of, located, tree_of}
use Rattle.text.specs.Write.{tokens, spelled, spell_timer, spell_part, spell_process, spell_def, spell_component, spell_network, write}
use Rattle.text.specs.WellFormed.{Each, WellLocated, WellTree, WellText, WellComponent, Writable}
use Rattle.text.specs.Questions.{ask, form, asked, read, short, shallow, fits, calls_met, call_met, bound, bound_at, places, located_places, component_places, network_places, Sound, ◌>>◌}
use Rattle.text.proofs.ReadBack.{tokens-back}
use Rattle.text.proofs.Exact.{some-map}
use Rattle.text.proofs.Spelling.{tokens-lex}

-- every well-formed tree is the tree of its spelling
pub form-spelled : (t : Text) → WellText t → form (spelled (tokens t)) ≡ accepted t
unfolding form
form-spelled t w = rw (tokens-lex t w, tokens-back t w)

-- ── the term of a term's spelling is that term ──
timer-same : (t : Timer) → timer_of (spell_timer t) ≡ t
timer-same (ticks n) = refl
timer-same inf = refl

mutual
  part_same : (a : Part) → settle (spell_part a) ≡ a
  part_same stop = refl
  part_same (go t v p) = rw (timer-same t, process-same p)
  part_same (out c t v p q) = rw (timer-same t, process-same p, process-same q)
  part_same (inp c t y p q) = rw (timer-same t, process-same p, process-same q)
  part_same (call i vs) = refl

  process-same : (p : Process) → settle_p (spell_process p) ≡ p
  process-same (one a) = rw (part_same a)
  process-same (a ∥ p) = rw (part_same a, process-same p)

defs-same : (ds : List Def) → map settle_def (map spell_def ds) ≡ ds
defs-same [] = refl
defs-same (define i us p ∷ ds) = rw (process-same p, defs-same ds)

located-same : (cs : List Component) → map settle_at (map spell_component cs) ≡ map located cs
located-same [] = refl
located-same (comp l m p ∷ cs) = rw (process-same p, located-same cs)

pub settled_same : (n : Network) → settled (spell_network n) ≡ tree_of n
settled_same n = rw (defs-same n.defs, located-same n.comps)

-- ── the written text ──
comp-well : (c : Component) → WellComponent c → WellLocated (located c)
comp-well (comp l none (one a)) w = w
comp-well (comp l none (a ∥ p)) w = absurd w
comp-well (comp l (by m) p) w = absurd w

comps-well : (cs : List Component) → Each WellComponent cs → Each WellLocated (map located cs)
comps-well [] w = tt
comps-well (c ∷ cs) w = (comp-well c w.0, comps-well cs w.1)

tree-well : (n : Network) → Writable n → WellTree (tree_of n)
tree-well n w = record { defs-well = w.defs-well; located-well = comps-well n.comps w.comps-well; some-located = some-map located n.comps w.some-comps }

-- 2 does not refuse a written text, and its tree is the network's spelling
pub form-write : (n : Network) → Writable n → form (write n) ≡ accepted (spell_network n)
form-write n w = form-spelled (spell_network n) (rw (settled_same n) (tree-well n w))

comp-same : (c : Component) → WellComponent c → components (located c) ≡ c ∷ []
unfolding components split
comp-same (comp l none (one a)) w = refl
comp-same (comp l none (a ∥ p)) w = absurd w
comp-same (comp l (by m) p) w = absurd w

comps-same : (cs : List Component) → Each WellComponent cs → flat_map components (map located cs) ≡ cs
unfolding flat_map
comps-same [] w = refl
comps-same (c ∷ cs) w = rw (comp-same c w.0, comps-same cs w.1)

-- components equal and in order, definitions equal
pub network-same : (n : Network) → Writable n → network_of (tree_of n) ≡ n
unfolding network_of
network-same n w = λ i. record { defs = n.defs; comps = comps-same n.comps w.comps-well i }

-- the places of the written text are the network's
places-located : (cs : List Component) → flat_map located_places (map located cs) ≡ flat_map component_places cs
unfolding flat_map located_places component_places
places-located [] = refl
places-located (comp l m p ∷ cs) = rw (places-located cs)

places_same : (n : Network) → places (tree_of n) ≡ network_places n
unfolding places network_places
places_same n = rw (places-located n.comps)

-- 5, 6 and 7 hold of the written text as they hold of the network
pub calls_same : (n : Network) → calls_met (tree_of n) ≡ every (call_met n.defs) (network_places n)
unfolding calls_met
calls_same n = rw (places_same n)

pub bound-same : (n : Network) → bound (tree_of n) ≡ every bound_at (network_places n)
unfolding bound
bound-same n = rw (places_same n)

-- so only the limits, 1, 3 and 4, can refuse a written text
abbrev pub limited : Network → Answer Network
limited n = do
  ask 1 (short (write n))
  ask 3 (shallow (tree_of n))
  ask 4 (fits (tree_of n))
  accepted n

asked-limits : (n : Network) → Writable n → Sound n → asked (tree_of n) ≡ ask 3 (shallow (tree_of n)) >> (ask 4 (fits (tree_of n)) >> accepted n)
unfolding asked
asked-limits n w s = rw (s.once, calls_same n, s.defined, bound-same n, s.closed, network-same n w)

pub only-limits : (n : Network) → Writable n → Sound n → read (write n) ≡ limited n
unfolding read
only-limits n w s = rw (form-write n w, settled_same n, asked-limits n w s)

-- the round trip
pub round_trip : (n : Network) → Writable n → Sound n → short (write n) ≡ true → shallow (tree_of n) ≡ true → fits (tree_of n) ≡ true → read (write n) ≡ accepted n
round_trip n w s a b c = only-limits n w s ∙ rw (a, b, c)
