-- Names that a script holds, looked up or added: document 01, *Reading* (numbered by first place) and question 4 (at most 64).
-- Serves inner contracts only.
use Rattle.std.specs.Prelude.{ℕ, ◌+◌, ◌*◌, min, List, [], ◌∷◌, cond, ◌≡◌, ltb, set}
use Rattle.std.proofs.lemmas.List.Edits.{sets}
use Rattle.terms.specs.Names.{Name}
use Rattle.table.specs.declared.Key.{Key}
use Rattle.table.specs.Words.{word, name_size}
use Rattle.table.specs.Meaning.{list_from}
use Rattle.table.specs.Tests.{key_name, row_name}
use Rattle.table.specs.Valid.{index}

abbrev pub key_words : Key → List ℕ
key_words k = k.a ∷ k.b ∷ k.c ∷ k.d ∷ []

-- how many names a table holds, by the word that counts them
unfoldable pub held_in : List ℕ → ℕ → ℕ
held_in w at = min (word w at) 64

-- the number of a name among n of them, 4 words each from o on; n if it is none of them
unfoldable pub number_in : List ℕ → ℕ → ℕ → Name → ℕ
number_in w o n x = index (list_from 0 n (row_name w o 4)) x

-- a name that is not there goes behind the last of n; a 65th is not entered, and the word 4 says so
unfoldable pub add_key : List ℕ → ℕ → ℕ → ℕ → Key → List ℕ
add_key w o at n k = cond (ltb n 64) (set (sets w (o + n * name_size) (key_words k)) at (n + 1)) (set w 4 1)

unfoldable pub enlist : List ℕ → ℕ → ℕ → Key → List ℕ
enlist w o at k = cond (ltb (number_in w o (held_in w at) (key_name k)) (held_in w at)) w (add_key w o at (held_in w at) k)

-- the name's number r in the table of w, which becomes v
pub record Enlisted (w v : List ℕ) (o at : ℕ) (k : Key) (r : ℕ) : Type 0 where
  pub place : r ≡ number_in w o (held_in w at) (key_name k)
  pub after : v ≡ enlist w o at k
