-- The words of a total and a count: what the contracts of this crate cite.
-- Serves inner contracts only.
use Rattle.std.specs.Prelude.{ℕ, ◌+◌, ◌/◌, ◌%◌, List, [], ◌∷◌}
use Rattle.std.proofs.lemmas.List.Edits.{sets}
use Rattle.table.specs.Words.{total_at}
use Rattle.table.specs.Meaning.{total_in, count_in}

-- the total in two words, the low one first, then the count
abbrev pub ledger_words : ℕ → ℕ → List ℕ
ledger_words t n = (t % 4_294_967_296) ∷ (t / 4_294_967_296) ∷ n ∷ []

-- c after so many messages more, whose senders had waited s ticks together
unfoldable pub counted : List ℕ → ℕ → ℕ → List ℕ
counted c sent s = sets c total_at (ledger_words (total_in c + s) (count_in c + sent))
