-- What a syntax tree stands for: its terms, and of these the network. Document 01, *Reading* and *The term and the network*.
-- Questions 3 to 7 are asked of the terms. In the network each part of a located process is a component, in text order.
use mathlib.Core.List.{List, map, flat_map}
use Rattle.terms.specs.Names.{Name}
use Rattle.terms.specs.Terms.{Timer, Part, Process, Component, Def, Network}
use Rattle.terms.specs.Terms.Timer.{ticks, inf}
use Rattle.terms.specs.Terms.Part.{stop, go, out, inp, call}
use Rattle.terms.specs.Terms.Process.{one, ◌∥◌}
use Rattle.terms.specs.Terms.Component.{comp}
use Rattle.terms.specs.Terms.Def.{define}
use Rattle.terms.specs.Rules.{split}
use Rattle.text.specs.Syntax as S

-- a located process `L[P]`
pub data Located : Type 0 where
  at : Name → Process → Located

-- definitions, then located processes
pub record Tree : Type 0 where
  pub defs : List Def
  pub located : List Located

-- ── the terms of a syntax tree ──
abbrev pub timer_of : S.Span → Timer
timer_of (S.exactly n) = ticks n
timer_of S.forever = inf

abbrev mutual
  pub settle : S.Part → Part
  settle S.stop = stop
  settle (S.go t v p) = go (timer_of t) v (settle_p p)
  settle (S.out c t v p q) = out c (timer_of t) v (settle_p p) (settle_p q)
  settle (S.inp c t y p q) = inp c (timer_of t) y (settle_p p) (settle_p q)
  settle (S.call i vs) = call i vs

  pub settle_p : S.Process → Process
  settle_p (S.one a) = one (settle a)
  settle_p (S.◌∥◌ a p) = settle a ∥ settle_p p

abbrev pub settle_def : S.Def → Def
settle_def (S.define i us p) = define i us (settle_p p)

abbrev pub settle_at : S.Located → Located
settle_at (S.at l p) = at l (settle_p p)

abbrev pub settled : S.Text → Tree
settled x = record { defs = map settle_def x.defs; located = map settle_at x.located }

-- ── the network of the terms ──
unfoldable pub components : Located → List Component
components (at l p) = split l p

unfoldable pub network_of : Tree → Network
network_of t = record { defs = t.defs; comps = flat_map components t.located }

-- ── a network's own tree: each component in brackets of its own ──
abbrev pub located : Component → Located
located (comp l m p) = at l p

abbrev pub tree_of : Network → Tree
tree_of n = record { defs = n.defs; located = map located n.comps }
