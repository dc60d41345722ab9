-- The bytes of values, parts and processes: what the contracts of the writer's inner functions cite.
-- Each is the spelling of the form's tokens (the crate `text_network`, proofs/Spelled).
-- Serves inner contracts only.
use Rattle.std.specs.Prelude.{ℕ, List, [], ◌∷◌, ◌++◌, map}
use Rattle.terms.specs.Names.{bytes}
use Rattle.terms.specs.Terms.{Value, Part, Process}
use Rattle.terms.specs.Terms.Value.{loc, var}
use Rattle.terms.specs.Terms.Part.{stop, go, out, inp, call}
use Rattle.terms.specs.Terms.Process.{one, ◌∥◌}
use Rattle.text_letters.specs.Forms.{listed, fields_text}

unfoldable pub value_text : Value → List ℕ
value_text (loc x) = x
value_text (var x) = x

-- ── parts ──
-- a part up to its first process; all of it where it has none
unfoldable pub open_text : Part → List ℕ
open_text stop = bytes "stop"
open_text (go t v p) = bytes "go(" ++ fields_text t (value_text v)
open_text (out c t v p q) = bytes "out(" ++ (c ++ (44 ∷ fields_text t (value_text v)))
open_text (inp c t y p q) = bytes "in(" ++ (c ++ (44 ∷ fields_text t y))
open_text (call i vs) = i ++ listed (map value_text vs)

unfoldable mutual
  -- a part from its first process on
  pub close_text : Part → List ℕ
  close_text stop = []
  close_text (go t v p) = process_text p ++ (41 ∷ [])
  close_text (out c t v p q) = process_text p ++ (44 ∷ (process_text q ++ (41 ∷ [])))
  close_text (inp c t y p q) = process_text p ++ (44 ∷ (process_text q ++ (41 ∷ [])))
  close_text (call i vs) = []

  pub process_text : Process → List ℕ
  process_text (one a) = open_text a ++ close_text a
  process_text (a ∥ p) = (open_text a ++ close_text a) ++ (bytes " | " ++ process_text p)

unfoldable pub part_text : Part → List ℕ
part_text a = open_text a ++ close_text a
