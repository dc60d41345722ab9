-- A name looked up or added: the ways of `number` to its answer, and what the table holds afterwards.
-- The law: the names that a table holds become the same with the new one behind them, unless it is among them (`into` of the numbering by first place).
use Rattle.table.specs.Words.{name_size}
use Prim.Native.Nat.{ℕ, suc, ◌+◌, ◌*◌, ◌≤◌, ◌<◌}
use native.Mathlib.Omega.{arith}
use mathlib.Core.List.{List, [], ◌∷◌}
use mathlib.Core.Bool.{Bool, true, false, cond}
use mathlib.Core.Path.{◌≡◌, ap, sym, ◌∙◌}
use borrow.Author.Tests.{lt-ltb, le-ltb}
use lib.Dec.{ltb}
use lib.ListN.{length, set}
use lib.Seq.{sets}
use Rattle.terms.specs.Names.{Name, same_name}
use Rattle.table.specs.declared.Key.{Key}
use Rattle.table.specs.Meaning.{list_from}
use Rattle.table.specs.Tests.{key_name, row_name}
use Rattle.table.specs.Valid.{index}
use Rattle.table.proofs.Tests.{length-list_from}
use Rattle.text_build.specs.Tables.{key_words, held_in, number_in, add_key, enlist, Enlisted}

pub index-within : (ys : List Name) (x : Name) → index ys x ≤ length ys
unfolding index
index-within [] x = omega arith
index-within (y ∷ ys) x = go (same_name y x) (index-within ys x)
  where
    go : (b : Bool) → index ys x ≤ length ys → cond b 0 (suc (index ys x)) ≤ length (y ∷ ys)
    go true h = omega arith
    go false h = omega arith

pub number-within : (w : List ℕ) (o n : ℕ) (x : Name) → number_in w o n x ≤ n
unfolding number_in
number-within w o n x = let e = length-list_from (row_name w o 4) 0 n in let h = index-within (list_from 0 n (row_name w o 4)) x in omega arith

-- ── the ways of `number` ──
module _ (w : List ℕ) (o at : ℕ) (k : Key) (n j : ℕ) (g : n ≡ held_in w at) (f : j ≡ number_in w o n (key_name k)) where
  place_is : j ≡ number_in w o (held_in w at) (key_name k)
  place_is = f ∙ ap (λ m. number_in w o m (key_name k)) g

  way : (b : Bool) → ltb j n ≡ b → enlist w o at k ≡ cond b w (add_key w o at n k)
  unfolding enlist
  way b e = rw (← place_is, ← g, e)

  pub enlisted-there : j < n → Enlisted w w o at k j
  enlisted-there h = record { place = place_is; after = sym (way true (lt-ltb j n h)) }

  module _ (h : n ≤ j) where
    last : n ≡ j
    last = let b = number-within w o n (key_name k) in omega arith

    pub enlisted-new : n < 64 → Enlisted w (set (sets w (o + n * name_size) (key_words k)) at (n + 1)) o at k n
    unfolding add_key
    enlisted-new l = record { place = last ∙ place_is; after = sym (way false (le-ltb j n h) ∙ rw (lt-ltb n 64 l)) }

    pub enlisted-full : 64 ≤ n → Enlisted w (set w 4 1) o at k n
    unfolding add_key
    enlisted-full l = record { place = last ∙ place_is; after = sym (way false (le-ltb j n h) ∙ rw (le-ltb n 64 l)) }
