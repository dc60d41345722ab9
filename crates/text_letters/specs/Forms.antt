-- The bytes of timers, and of names between brackets or with commas: what the contracts of the writer's inner functions cite.
-- Each is the spelling of the form's tokens (the crate `text_network`, proofs/Spelled).
-- Serves inner contracts only.
use Rattle.std.specs.Prelude.{ℕ, List, [], ◌∷◌, ◌++◌}
use Rattle.terms.specs.Names.{Name, bytes}
use Rattle.terms.specs.Terms.{Timer}
use Rattle.terms.specs.Terms.Timer.{ticks, inf}
use Rattle.text.specs.Tokens.{digits}

unfoldable pub timer_text : Timer → List ℕ
timer_text (ticks n) = digits n
timer_text inf = bytes "inf"

-- ── lists: nothing, or `(x1,..)` ──
-- the rest of a list after its sign c, which is `(` before the first and `,` before each other
unfoldable pub chain : ℕ → List Name → List ℕ
chain c [] = 41 ∷ []
chain c (x ∷ xs) = c ∷ (x ++ chain 44 xs)

unfoldable pub listed : List Name → List ℕ
listed [] = []
listed (x ∷ xs) = chain 40 (x ∷ xs)

-- ── fields ──
-- `t,x,`
unfoldable pub fields_text : Timer → Name → List ℕ
fields_text t x = timer_text t ++ (44 ∷ (x ++ (44 ∷ [])))
