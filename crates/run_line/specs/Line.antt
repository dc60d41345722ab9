-- The line that is printed for a step: document 01, *Actions* (the labels) and the paragraph on `timorun`.
use Rattle.std.specs.Prelude.{ℕ, List, [], ◌∷◌, ◌++◌}
use Rattle.terms.specs.Names.{Name, bytes}
use Rattle.terms.specs.Terms.{Label}
use Rattle.terms.specs.Terms.Label.{called, moved, sent}
use Rattle.terms.specs.Step.{fires}
use Rattle.table.specs.declared.State.{State}
use Rattle.table.specs.Words.{loc_name}
use Rattle.table.specs.Meaning.{context_of, net_of}

-- a label: `id@l`, `v@l`, `c<v>@l`
unfoldable pub label_text : Label → List ℕ
label_text (called i l) = i ++ (bytes "@" ++ l)
label_text (moved v l) = v ++ (bytes "@" ++ l)
label_text (sent c v l) = c ++ (bytes "<" ++ (v ++ (bytes ">@" ++ l)))

-- each label after one space
unfoldable pub spaced : List Label → List ℕ
spaced [] = []
spaced (x ∷ xs) = bytes " " ++ (label_text x ++ spaced xs)

-- the line of a step at l whose actions have these labels: location, labels, line feed
unfoldable pub line_text : Name → List Label → List ℕ
line_text l xs = l ++ (spaced xs ++ bytes "\n")

-- the labels of the actions of the step at the location numbered l, each as its action fires
abbrev pub step_labels : List ℕ → State → ℕ → List Label
step_labels w st l = (fires (context_of w) (loc_name w l) (net_of w st)).labels
