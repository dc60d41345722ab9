-- What the contracts of the functions that put something on a page say: a page is lent bytes, and the place in them of the next byte.
-- Serves inner contracts only.
use Rattle.std.specs.Prelude.{ℕ, List, ◌≡◌}
use Rattle.text_letters.specs.Put.{Wrote}
use Rattle.text_letters.specs.declared.Page.{Page}

-- the bytes s were put on the page p from its place on, which left q, a page of the same lent bytes
pub record Adds (p : Page) (s : List ℕ) (q : Page) : Type 0 where
  pub same_bytes : q.buf.ghost_name ≡ p.buf.ghost_name
  pub wrote : Wrote p.buf.now p.at s q.buf.now q.at
