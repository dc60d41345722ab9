-- `capital_sort` gives the sort of a word that begins with a capital.
-- It is no keyword but perhaps `S`, and else a location if it is short enough.
use mathlib.Core.Path.{sym, ◌∙◌}
use Rattle.text_words.proofs.WordSorts.{capital-reserved, capital-name, capital-long}
use Rattle.text_words.proofs.capital_sort.Goals as goal

pub returns-then-is_same : goal.returns-then-is_same
returns-then-is_same c = capital-reserved _ c.requires.0 (sym c.is_same.ensures ∙ c.if-is_same.true)

pub returns-then-w-le-LONGEST : goal.returns-then-w-le-LONGEST
returns-then-w-le-LONGEST c =
    let p = c.requires in
    capital-name _ p.0 p.1 (sym c.is_same.ensures ∙ c.if-is_same.false) c.if-w-le-LONGEST.true

pub returns : goal.returns
returns c = capital-long _ c.requires.0 c.if-w-le-LONGEST.false
