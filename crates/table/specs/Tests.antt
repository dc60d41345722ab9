-- What the contracts of internal functions cite: a name by its four words, names at equal distances, and the words of a scope.
-- Serves inner contracts only.
use Rattle.std.specs.Prelude.{ℕ, ◌+◌, ◌*◌, List, [], ◌∷◌}
use Rattle.terms.specs.Names.{Name}
use Rattle.table.specs.declared.Key.{Key}
use Rattle.table.specs.Words.{letters, name_at, field}

-- the name of four words
abbrev pub key_name : Key → Name
key_name k = letters k.a k.b k.c k.d

-- name j of those that stand s words apart from o on
unfoldable pub row_name : List ℕ → ℕ → ℕ → ℕ → Name
row_name w o s j = name_at w (o + j * s)

-- the eight words that may name what is in scope
unfoldable pub slots : List ℕ → ℕ → List ℕ
slots w i =
    field w i 9 ∷ field w i 10 ∷ field w i 11 ∷ field w i 12 ∷ field w i 13 ∷ field w i 14 ∷ field w i 15 ∷ field w i 16 ∷ []
