-- The numbers of a text that questions 3 and 4 limit, added up over definitions and located processes.
-- proofs/Places: they are the numbers that `text` defines by places.
-- Serves inner contracts only.
use Rattle.std.specs.Prelude.{ℕ, ◌+◌, min, max, List, [], ◌∷◌, length}
use Rattle.text.specs.Syntax.{Def, Located, Text}
use Rattle.text.specs.Syntax.Def.{define}
use Rattle.text.specs.Syntax.Located.{at}
use Rattle.text_parts.specs.Counts.{Count, process_count}

pub record Totals : Type 0 where
  pub nesting : ℕ
  pub parts : ℕ
  pub components : ℕ
  pub definitions : ℕ
  pub parameters : ℕ

abbrev pub no_totals : Totals
no_totals = record { nesting = 0; parts = 0; components = 0; definitions = 0; parameters = 0 }

abbrev pub plus : Totals → Totals → Totals
plus x y = record {
  nesting = max x.nesting y.nesting;
  parts = x.parts + y.parts;
  components = x.components + y.components;
  definitions = x.definitions + y.definitions;
  parameters = max x.parameters y.parameters;
}

-- of n parameters and a body
abbrev pub of_body : ℕ → Count → Totals
of_body n x = record { nesting = x.nesting; parts = x.parts; components = 0; definitions = 1; parameters = n }

abbrev pub of_def : Def → Totals
of_def (define i us p) = of_body (length us) (process_count p)

-- each outermost part of a located process becomes a component
abbrev pub of_bracket : Count → Totals
of_bracket x = record { nesting = x.nesting; parts = x.parts; components = x.width; definitions = 0; parameters = 0 }

abbrev pub of_located : Located → Totals
of_located (at l p) = of_bracket (process_count p)

unfoldable pub sum : {A : Type 0} → (A → Totals) → List A → Totals
sum f [] = no_totals
sum f (x ∷ xs) = plus (f x) (sum f xs)

unfoldable pub tree_totals : Text → Totals
tree_totals x = plus (sum of_def x.defs) (sum of_located x.located)

abbrev pub capped_t : Totals → Totals
capped_t x = record {
  nesting = min x.nesting 33;
  parts = min x.parts 4097;
  components = min x.components 257;
  definitions = min x.definitions 33;
  parameters = min x.parameters 5;
}
