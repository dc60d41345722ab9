-- What the answers of `fire` stand for: a refusal's number, or the label in numbers with the components left.
use Rattle.std.specs.Prelude.{ℕ, List, [], ◌∷◌, Result}
use Rattle.terms.specs.Refusals.{answer_of}
use Rattle.terms.specs.declared.refusal.Refusal.{Refusal}
use Rattle.terms.specs.Rules.{Answer, ◌>>=◌}
use Rattle.table.specs.declared.Head.{Head}
use Rattle.table.specs.declared.Head.TheVariants.{Stop, Go, Out, In, Call}
use Rattle.table.specs.Fire.{Tag, Left, rightly}
use Rattle.calls_fire.specs.declared.Label.{Label}
use Rattle.calls_fire.specs.declared.Fired.{Fired}
use Rattle.calls_fire.specs.declared.Met.{Met}

abbrev pub no_label : Label
no_label = record { kind = 0; a = 0; b = 0; «at» = 0 }

-- the four numbers of a label
abbrev pub tag_of : Label → Tag
tag_of l = record { kind = l.kind; a = l.a; b = l.b; spot = l.«at» }

-- what is left of one component, and of an output and an input
abbrev pub left_one : Fired → Left
left_one f = record { tag = tag_of f.label; after = f.comp ∷ [] }

abbrev pub left_two : Met → Left
left_two m = record { tag = tag_of m.label; after = m.sender ∷ m.receiver ∷ [] }

-- of one component
abbrev pub one_of : Result Fired Refusal → Answer Left
one_of r = answer_of left_one r

-- of an output and an input
abbrev pub two_of : Result Met Refusal → Answer Left
two_of r = answer_of left_two r

-- the definition that is called; 0 where there is none
unfoldable pub callee : Head → ℕ
callee Stop = 0
callee (Go t v p) = 0
callee (Out c t v p q) = 0
callee (In c t k p q) = 0
callee (Call d n) = d

-- what fits, if it has its right
abbrev pub righted : List ℕ → Answer Left → Answer Left
righted w x = x >>= rightly w
