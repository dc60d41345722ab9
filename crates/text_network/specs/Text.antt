-- The text of a table, and question 14, does no component bear a mark: document 01, *Write* of *The other calls*, and *Questions, asked downward*.
-- The text is that of the crate `text` for the network that the table stands for: definitions, then components, values put in.
use Rattle.std.specs.Prelude.{ℕ, List, Bool}
use Rattle.terms.specs.Same.{every}
use Rattle.terms.specs.Rules.{unmarked}
use Rattle.text.specs.Write.{write}
use Rattle.table.specs.declared.State.{State}
use Rattle.table.specs.Meaning.{net_of, network_of}

-- the text of the network
unfoldable pub text_of : List ℕ → State → List ℕ
text_of w st = write (network_of w st)

-- 14
unfoldable pub no_mark : List ℕ → State → Bool
no_mark w st = every unmarked (net_of w st)
