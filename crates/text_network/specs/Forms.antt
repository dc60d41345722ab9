-- The bytes of definitions and components: what the contracts of the writer's inner functions cite.
-- Each is the spelling of the form's tokens (proofs/Spelled), so that document 01's text is still that of the crate `text`.
-- Serves inner contracts only.
use Rattle.std.specs.Prelude.{ℕ, List, [], ◌∷◌, ◌++◌}
use Rattle.terms.specs.Names.{bytes}
use Rattle.terms.specs.Terms.{Component, Def}
use Rattle.terms.specs.Terms.Component.{comp}
use Rattle.terms.specs.Terms.Def.{define}
use Rattle.text_letters.specs.Forms.{listed}
use Rattle.text_process.specs.Forms.{process_text}

unfoldable pub def_text : Def → List ℕ
def_text (define i us p) = i ++ (listed us ++ (bytes " = " ++ (process_text p ++ bytes " .\n")))

unfoldable pub defs_text : List Def → List ℕ
defs_text [] = []
defs_text (d ∷ ds) = def_text d ++ defs_text ds

unfoldable pub comp_text : Component → List ℕ
comp_text (comp l m p) = l ++ (91 ∷ (process_text p ++ (93 ∷ [])))

-- the texts of components after the first one, and the line's end
unfoldable pub barred : List (List ℕ) → List ℕ
barred [] = bytes " .\n"
barred (x ∷ xs) = bytes " | " ++ (x ++ barred xs)

-- the line of the network, from the texts of its components
unfoldable pub net_text : List (List ℕ) → List ℕ
net_text [] = bytes " .\n"
net_text (x ∷ xs) = x ++ barred xs
