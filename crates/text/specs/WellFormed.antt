-- What can be written: names of their sorts' forms, timers in range, at least one located process. Document 01, *Reading*, as predicates.
use Rattle.std.specs.Prelude.{◌≤◌, List, [], ◌∷◌, Bool, true, ◌≡◌}
use Rattle.terms.specs.Names.{Name}
use Rattle.terms.specs.Terms.{Timer, Value, Part, Process, Component, Def, Network}
use Rattle.terms.specs.Terms.Timer.{ticks, inf}
use Rattle.terms.specs.Terms.Value.{loc, var}
use Rattle.terms.specs.Terms.Part.{stop, go, out, inp, call}
use Rattle.terms.specs.Terms.Process.{one, ◌∥◌}
use Rattle.terms.specs.Terms.Mark.{none, by}
use Rattle.terms.specs.Terms.Component.{comp}
use Rattle.terms.specs.Terms.Def.{define}
use Rattle.terms.specs.Letters.{is_location, is_small, is_identifier}
use Rattle.text.specs.Syntax.{Text}
use Rattle.text.specs.Tree.{Located, Tree, settled}
use Rattle.text.specs.Tree.Located.{at}

abbrev pub Is : (Name → Bool) → Name → Type 0
Is p w = p w ≡ true

abbrev pub WellTimer : Timer → Type 0
WellTimer (ticks n) = n ≤ 1_000_000
WellTimer inf = Unit {0}

abbrev pub WellValue : Value → Type 0
WellValue (loc w) = Is is_location w
WellValue (var w) = Is is_small w

abbrev pub Each : {A : Type 0} → (A → Type 0) → List A → Type 0
Each P [] = Unit {0}
Each P (x ∷ xs) = P x × Each P xs

abbrev pub NonEmpty : {A : Type 0} → List A → Type 0
NonEmpty [] = ⊥
NonEmpty (x ∷ xs) = Unit {0}

abbrev mutual
  pub WellPart : Part → Type 0
  WellPart stop = Unit {0}
  WellPart (go t v p) = WellTimer t × WellValue v × WellProcess p
  WellPart (out c t v p q) = Is is_small c × WellTimer t × WellValue v × WellProcess p × WellProcess q
  WellPart (inp c t y p q) = Is is_small c × WellTimer t × Is is_small y × WellProcess p × WellProcess q
  WellPart (call i vs) = Is is_identifier i × Each WellValue vs

  pub WellProcess : Process → Type 0
  WellProcess (one a) = WellPart a
  WellProcess (a ∥ p) = WellPart a × WellProcess p

abbrev pub WellDef : Def → Type 0
WellDef (define i us p) = Is is_identifier i × Each (Is is_small) us × WellProcess p

abbrev pub WellLocated : Located → Type 0
WellLocated (at l p) = Is is_location l × WellProcess p

pub record WellTree (t : Tree) : Type 0 where
  pub defs-well : Each WellDef t.defs
  pub located-well : Each WellLocated t.located
  pub some-located : NonEmpty t.located

-- a syntax tree is well-formed if its terms are
abbrev pub WellText : Text → Type 0
WellText x = WellTree (settled x)

-- an unmarked component of one part
abbrev pub WellComponent : Component → Type 0
WellComponent (comp l none (one a)) = Is is_location l × WellPart a
WellComponent (comp l none (a ∥ p)) = ⊥
WellComponent (comp l (by m) p) = ⊥

-- no mark, one part in each component, at least one component
pub record Writable (n : Network) : Type 0 where
  pub defs-well : Each WellDef n.defs
  pub comps-well : Each WellComponent n.comps
  pub some-comps : NonEmpty n.comps
