-- A run of words copied over a part of a list is a run of stores; and a row that is written in three runs.
use Prim.Native.Nat.{ℕ, ◌+◌, ◌*◌, ◌≤◌}
use native.Mathlib.Omega.{arith}
use mathlib.Core.List.{List, [], ◌∷◌, ◌++◌}
use mathlib.Core.Path.{◌≡◌, ap, sym, ◌∙◌}
use borrow.Rule.Slice.PartMut.{put_mid}
use lib.ListN.{length, drop, take}
use lib.Seq.{sets}
use Rattle.std.proofs.Common.{append_assoc}
use Rattle.std.proofs.lemmas.List.{drop-drop}
use Rattle.std.proofs.lemmas.List.Edits.{sets-eq}
use Rattle.table.specs.declared.Key.{Key}
use Rattle.text_build.specs.declared.Scope.{Scope}
use Rattle.text_build.specs.Tables.{key_words}
use Rattle.text_build.specs.Put.{row_words}
use Rattle.text_build.proofs.Writes.{sets-append}
use Rattle.table.specs.Words.{row_size, parts_at, kind_field}

-- the k words from o on, written over by ys
pub put_mid-sets : (l : List ℕ) (o k : ℕ) (ys zs : List ℕ) → ys ≡ zs → k ≡ length zs → o + length zs ≤ length l → put_mid o k l ys ≡ sets l o zs
put_mid-sets l o k ys zs e n h = rw (e, n, drop-drop) (sym (sets-eq zs l o h ∙ append_assoc (take o l) zs (drop (o + length zs) l)))

-- a row written in three runs
pub row-stores : (l : List ℕ) (i k c t v p : ℕ) (sc : Scope) (x : Key) → length sc.at ≡ 8
    → sets (sets (sets l (parts_at + i * row_size) (k ∷ c ∷ t ∷ v ∷ p ∷ 0 ∷ 0 ∷ 0 ∷ sc.n ∷ [])) (parts_at + i * row_size + 9) sc.at) (parts_at + i * row_size + 17) (x.a ∷ x.b ∷ x.c ∷ x.d ∷ 0 ∷ 0 ∷ 0 ∷ [])
    ≡ sets l (parts_at + i * row_size + kind_field) (row_words k c t v p sc (key_words x))
unfolding row_words
row-stores l i k c t v p sc x q =
    let last : List ℕ = x.a ∷ x.b ∷ x.c ∷ x.d ∷ 0 ∷ 0 ∷ 0 ∷ [] in
    sets-append sc.at last (sets l (parts_at + i * row_size) (k ∷ c ∷ t ∷ v ∷ p ∷ 0 ∷ 0 ∷ 0 ∷ sc.n ∷ [])) (parts_at + i * row_size + 9) (parts_at + i * row_size + 17) (omega arith)
    ∙ sets-append (k ∷ c ∷ t ∷ v ∷ p ∷ 0 ∷ 0 ∷ 0 ∷ sc.n ∷ []) (sc.at ++ last) l (parts_at + i * row_size) (parts_at + i * row_size + 9) (omega arith)
    ∙ ap (λ o. sets l o ((k ∷ c ∷ t ∷ v ∷ p ∷ 0 ∷ 0 ∷ 0 ∷ sc.n ∷ []) ++ (sc.at ++ last))) (omega arith)
